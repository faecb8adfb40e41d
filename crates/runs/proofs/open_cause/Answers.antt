-- `open_cause` tests the run, then the list.
-- told: what the test of the list says.
-- Assumes nothing.
use mathlib.Core.Path.{◌≡◌, sym, ap, ◌∙◌}
use mathlib.Core.Bool.{Bool, not}
use Rattle.std.proofs.lemmas.Result.{err_from_is_err_and}
use Rattle.answers.specs.Refusals.{refusal_number}
use Rattle.answers.proofs.Refusals.{refusal_some}
use Rattle.model.specs.Outcome.{refuse}
use Rattle.model.specs.Runs.{open_cause}
use Rattle.layout.specs.Reading.{store_of}
use Rattle.form.proofs.Known.{form-area}
use Rattle.runs.proofs.Opens.{cause-run, cause-list}
use Rattle.runs.proofs.open_cause.Goals as goal
use Rattle.runs.proofs.open_cause.Goals.{After-list_valid}

told : (c : After-list_valid) → let a = c.args in
    refuse (not c.list_valid.result) 5 0 ≡ open_cause (store_of a.words.now) a.r a.jobs.now
told c =
    let a = c.args in
    cause-list a.words.now a.z a.r a.jobs.now c.list_valid.result c.requires
    (sym c.in_ok-run_cause.ensures) c.list_valid.ensures

pub returns-in_err-run_cause : goal.returns-in_err-run_cause
returns-in_err-run_cause c =
    let a = c.args in
    let p = err_from_is_err_and c.from_residual.result c.from_residual.ensures.1 in
    let e = c.in_err-run_cause.field-0.0 in
    rw (p.1, p.2)
    (cause-run (store_of a.words.now) a.r a.jobs.now (refusal_number e)
    c.in_err-run_cause.ensures (refusal_some e))

pub list_valid-requires : goal.list_valid-requires
list_valid-requires c = (form-area c.args.words.now c.args.z c.requires).ranged

pub returns-then-not-list_valid : goal.returns-then-not-list_valid
unfolding refuse
returns-then-not-list_valid c =
    ap (λ (t : Bool). refuse t 5 0) (sym (ap not c.if-not-list_valid.true))
    ∙ told (goal.at.returns-then-not-list_valid c).After-list_valid

pub returns : goal.returns
unfolding refuse
returns c =
    ap (λ (t : Bool). refuse t 5 0) (sym (ap not c.if-not-list_valid.false))
    ∙ told (goal.at.returns c).After-list_valid
