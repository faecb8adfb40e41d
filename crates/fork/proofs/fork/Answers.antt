-- `fork` is refused for its cause, or divides the run.
-- holds: a buffer in form, and the counts read from it.
-- Assumes nothing.
use mathlib.Core.Path.{sym}
use Rattle.std.proofs.lemmas.Result.{err_from_is_err_and}
use Rattle.answers.specs.Refusals.{refusal_number}
use Rattle.answers.proofs.Refusals.{refusal_some}
use Rattle.form.specs.Parts.{FormWith}
use Rattle.form.proofs.Known.{form-long}
use Rattle.fork.proofs.Causes.{mark-below}
use Rattle.fork.proofs.Calls.{fork-refused, fork-done}
use Rattle.fork.proofs.fork.Goals as goal
use Rattle.fork.proofs.fork.Goals.{After-counts-z}

holds : (c : After-counts-z) → FormWith c.args.words.now c.counts-z.result
holds c = record { form = c.requires; counts = c.counts-z.ensures }

pub counts-z-requires : goal.counts-z-requires
counts-z-requires c = form-long _ c.requires

pub mark_cause-requires : goal.mark_cause-requires
mark_cause-requires c = holds (goal.at.mark_cause-requires c).After-counts-z

pub returns-in_err-mark_cause : goal.returns-in_err-mark_cause
returns-in_err-mark_cause c =
    let p = err_from_is_err_and c.from_residual.result c.from_residual.ensures.1 in
    let e = c.in_err-mark_cause.field-0.0 in
    let r = fork-refused c.args.words.now c.args.run (refusal_number e) c.requires
    c.in_err-mark_cause.ensures (refusal_some e) in
    rw (p.1, p.2) (record { answers = r.0; leaves = r.1 })

pub divide-requires : goal.divide-requires
divide-requires c =
    let H = holds (goal.at.divide-requires c).After-counts-z in
    record {
      form_with = H;
      r_lt_runs = mark-below _ _ _ _ _ H (sym c.in_ok-mark_cause.ensures);
    }

pub returns : goal.returns
returns c =
    let r = fork-done c.args.words.now c.args.run c.requires (sym c.in_ok-mark_cause.ensures) _
    c.divide.ensures in
    record { answers = r.0; leaves = r.1 }
