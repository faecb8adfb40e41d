-- `drop` refuses for the cause of its run, or clears the run.
-- holds: a buffer in form, and the counts read from it. below, known: no cause, and so a run of
-- the store.
-- Assumes nothing.
use mathlib.Core.Path.{sym, ap, ◌∙◌}
use Prim.Native.Nat.{ℕ, ◌<◌}
use Rattle.std.proofs.lemmas.Result.{err_from_is_err_and}
use Rattle.answers.specs.Refusals.{refusal_number}
use Rattle.answers.proofs.Refusals.{refusal_some}
use Rattle.model.specs.Store.{free_run}
use Rattle.model.specs.Outcome.{drop_row}
use Rattle.layout.specs.Stored.{put_run}
use Rattle.form.specs.Parts.{FormWith}
use Rattle.form.proofs.Known.{form-long}
use Rattle.status.proofs.Known.{RunKnown, run-known, cause-below}
use Rattle.runs.proofs.Drops.{drop-refused, drop-done}
use Rattle.runs.proofs.drop.Goals as goal
use Rattle.runs.proofs.drop.Goals.{After-counts-z, In_ok-run_cause}

holds : (c : After-counts-z) → FormWith c.args.words.now c.counts-z.result
holds c = record { form = c.requires; counts = c.counts-z.ensures }

below : (c : In_ok-run_cause) → c.args.run < c.counts-z.result.runs
below c =
    let H : FormWith c.args.words.now c.counts-z.result =
    record { form = c.requires; counts = c.counts-z.ensures } in
    cause-below _ _ drop_row _ H (sym c.in_ok-run_cause.ensures)

known : (c : In_ok-run_cause) → RunKnown c.args.words.now c.counts-z.result c.args.run
known c =
    let H : FormWith c.args.words.now c.counts-z.result =
    record { form = c.requires; counts = c.counts-z.ensures } in
    run-known _ _ _ H (cause-below _ _ drop_row _ H (sym c.in_ok-run_cause.ensures))

pub counts-z-requires : goal.counts-z-requires
counts-z-requires c = form-long c.args.words.now c.requires

pub run_cause-requires : goal.run_cause-requires
run_cause-requires c = holds (goal.at.run_cause-requires c).After-counts-z

pub returns-in_err-run_cause : goal.returns-in_err-run_cause
returns-in_err-run_cause c =
    let p = err_from_is_err_and c.from_residual.result c.from_residual.ensures.1 in
    let e = c.in_err-run_cause.field-0.0 in
    let r = drop-refused c.args.words.now c.args.run (refusal_number e) c.requires
    c.in_err-run_cause.ensures (refusal_some e) in
    rw (p.1, p.2) (record { answers = r.0; leaves = r.1 })

pub run_at-at-requires : goal.run_at-at-requires
run_at-at-requires c = record {
  ranged = (known (goal.at.run_at-at-requires c).In_ok-run_cause).area.ranged;
  r_lt_runs = below (goal.at.run_at-at-requires c).In_ok-run_cause;
}

pub clear_run-requires : goal.clear_run-requires
clear_run-requires c =
    rw c.run_at-at.ensures (known (goal.at.clear_run-requires c).In_ok-run_cause).area

pub returns : goal.returns
returns c =
    let l = c.args.words.now in
    let z = c.counts-z.result in
    let r = drop-done l z _ _ (holds (goal.at.returns c).After-counts-z)
    (sym c.in_ok-run_cause.ensures)
    (c.clear_run.ensures ∙ ap (λ (k : ℕ). put_run z l k free_run) c.run_at-at.ensures) in
    record { answers = r.0; leaves = r.1 }
