-- `issue` is refused for its cause, or saves and frees the run.
-- Assumes nothing.
-- No cause: the counts, what can be saved, and the run is one of the store's.
use mathlib.Core.Path.{◌≡◌, sym, ap, ◌∙◌}
use mathlib.Core.List.{List}
use Prim.Native.Nat.{ℕ, ◌<◌}
use Rattle.sizes.specs.declared.Counts.{Counts}
use Rattle.model.specs.Store.{free_run}
use Rattle.model.specs.Issue.{issue_cause}
use Rattle.layout.specs.Reading.{store_of}
use Rattle.layout.specs.Stored.{put_run}
use Rattle.form.specs.Parts.{FormWith}
use Rattle.form.proofs.Known.{form-long}
use Rattle.status.proofs.Known.{run-known}
use Rattle.issue.specs.Saves.{Savable}
use Rattle.issue.proofs.Chain.{savable_in}
use Rattle.issue.proofs.Causes.{issue-ready}
use Rattle.issue.proofs.Ends.{issue-refused, issue-done}
use Rattle.std.proofs.lemmas.Result.{err_from_is_err_and}
use Rattle.answers.specs.Refusals.{refusal_number}
use Rattle.answers.proofs.Refusals.{refusal_some}
use Rattle.issue.proofs.issue.Goals as goal
use Rattle.issue.proofs.issue.Goals.{In_ok-issue_cause}

-- What is known of the store where there is no cause.
module _ (l : List ℕ) (z : Counts) (r w S : ℕ) (H : FormWith l z)
    (free : 0 ≡ issue_cause (store_of l) r w S) where
  ready : Savable (store_of l) r w S
  ready = issue-ready l z H r w S (sym free)

  below : r < z.runs
  below = (savable_in _ _ _ _ _ H ready).0

holds : (c : In_ok-issue_cause) → FormWith c.args.words.now c.counts-z.result
holds c = record { form = c.requires; counts = c.counts-z.ensures }

pub counts-z-requires : goal.counts-z-requires
counts-z-requires c = form-long _ c.requires

pub returns-in_err-issue_cause : goal.returns-in_err-issue_cause
returns-in_err-issue_cause c =
    let a = c.args in
    let p = err_from_is_err_and c.from_residual.result c.from_residual.ensures.1 in
    let e = c.in_err-issue_cause.field-0.0 in
    let r = issue-refused a.words.now a.run a.writer a.mask (refusal_number e) c.requires
    c.in_err-issue_cause.ensures (refusal_some e) in
    rw (p.1, p.2) record { answers = r.0; leaves = r.1 }

pub save-number-requires : goal.save-number-requires
save-number-requires c =
    let H = holds (goal.at.save-number-requires c).In_ok-issue_cause in
    record { form_with = H; savable = ready _ _ _ _ _ H c.in_ok-issue_cause.ensures }

pub run_at-freed-requires : goal.run_at-freed-requires
run_at-freed-requires c =
    let H = holds (goal.at.run_at-freed-requires c).In_ok-issue_cause in
    let h = below _ _ _ _ _ H c.in_ok-issue_cause.ensures in
    record { ranged = (run-known _ _ _ H h).area.ranged; r_lt_runs = h }

pub clear_run-requires : goal.clear_run-requires
clear_run-requires c =
    let H = holds (goal.at.clear_run-requires c).In_ok-issue_cause in
    rw (c.save-number.auto.words, c.run_at-freed.ensures)
    (run-known _ _ _ H (below _ _ _ _ _ H c.in_ok-issue_cause.ensures)).area

pub returns : goal.returns
returns c =
    let a = c.args in
    let z = c.counts-z.result in
    let H = holds (goal.at.returns c).In_ok-issue_cause in
    let r = issue-done a.words.now z a.run a.writer a.mask _ c.save-number.new.words _ H
    (sym c.in_ok-issue_cause.ensures) (below _ _ _ _ _ H c.in_ok-issue_cause.ensures)
    (c.from-answer.ensures ∙ c.save-number.ensures.answers) c.save-number.ensures.leaves
    (c.clear_run.ensures
    ∙ ap (λ (k : ℕ). put_run z c.save-number.new.words k free_run) c.run_at-freed.ensures) in
    record { answers = r.0; leaves = r.1 }
