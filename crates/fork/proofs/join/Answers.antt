-- `join` is refused for its cause, breaks the run or unites its branches.
-- holds: a buffer in form, and the counts read from it. below: no cause, and so one of the runs.
-- Assumes nothing.
use mathlib.Core.Path.{sym, ap, ◌∙◌}
use Prim.Native.Nat.{ℕ, ◌<◌}
use native.Mathlib.Omega.{arith}
use lib.ListN.{set}
use Rattle.std.proofs.lemmas.Result.{err_from_is_err_and}
use Rattle.answers.specs.Refusals.{refusal_number}
use Rattle.answers.proofs.Refusals.{refusal_some}
use Rattle.sizes.specs.Bounds.{run_size}
use Rattle.model.specs.Outcome.{broken_state}
use Rattle.form.specs.Parts.{FormWith}
use Rattle.form.proofs.Known.{form-long, form-area}
use Rattle.status.proofs.Known.{run-known}
use Rattle.status.proofs.Statuses.{spoiled-words}
use Rattle.fork.proofs.Causes.{mark-below}
use Rattle.fork.proofs.Calls.{join-refused, join-broken, join-done}
use Rattle.fork.proofs.join.Goals as goal
use Rattle.fork.proofs.join.Goals.{After-counts-z, In_ok-mark_cause}

holds : (c : After-counts-z) → FormWith c.args.words.now c.counts-z.result
holds c = record { form = c.requires; counts = c.counts-z.ensures }

below : (c : In_ok-mark_cause) → c.args.run < c.counts-z.result.runs
below c =
    mark-below _ _ _ _ _ (record { form = c.requires; counts = c.counts-z.ensures })
    (sym c.in_ok-mark_cause.ensures)

pub counts-z-requires : goal.counts-z-requires
counts-z-requires c = form-long _ c.requires

pub mark_cause-requires : goal.mark_cause-requires
mark_cause-requires c = holds (goal.at.mark_cause-requires c).After-counts-z

pub returns-in_err-mark_cause : goal.returns-in_err-mark_cause
returns-in_err-mark_cause c =
    let p = err_from_is_err_and c.from_residual.result c.from_residual.ensures.1 in
    let e = c.in_err-mark_cause.field-0.0 in
    let r = join-refused c.args.words.now c.args.run (refusal_number e) c.requires
    c.in_err-mark_cause.ensures (refusal_some e) in
    rw (p.1, p.2) (record { answers = r.0; leaves = r.1 })

pub moved_of-moved-requires : goal.moved_of-moved-requires
moved_of-moved-requires c = record {
  form_with = holds (goal.at.moved_of-moved-requires c).After-counts-z;
  r_lt_runs = below (goal.at.moved_of-moved-requires c).In_ok-mark_cause;
}

pub run_at-at-requires : goal.run_at-at-requires
run_at-at-requires c = record {
  ranged = (form-area _ _ (holds (goal.at.run_at-at-requires c).After-counts-z)).ranged;
  r_lt_runs = below (goal.at.run_at-at-requires c).In_ok-mark_cause;
}

pub mark_broken-requires : goal.mark_broken-requires
unfolding run_size
mark_broken-requires c =
    let K = run-known _ _ _ (holds (goal.at.mark_broken-requires c).After-counts-z)
    (below (goal.at.mark_broken-requires c).In_ok-mark_cause) in
    rw c.run_at-at.ensures (omega (arith, K.area.fits))

pub returns-then-moved-ne0 : goal.returns-then-moved-ne0
returns-then-moved-ne0 c =
    let l = c.args.words.now in
    let r = join-broken l _ _ (holds (goal.at.returns-then-moved-ne0 c).After-counts-z)
    (below (goal.at.returns-then-moved-ne0 c).In_ok-mark_cause)
    (sym c.in_ok-mark_cause.ensures) c.moved_of-moved.result c.moved_of-moved.ensures
    c.if-moved-ne0.true _
    (c.mark_broken.ensures ∙ spoiled-words l c.run_at-at.result
    ∙ ap (λ (at : ℕ). set l at broken_state) c.run_at-at.ensures) in
    record { answers = r.0; leaves = r.1 }

pub unite-requires : goal.unite-requires
unite-requires c = record {
  form_with = holds (goal.at.unite-requires c).After-counts-z;
  r_lt_runs = below (goal.at.unite-requires c).In_ok-mark_cause;
}

pub returns : goal.returns
returns c =
    let r = join-done _ _ _ (holds (goal.at.returns c).After-counts-z)
    (below (goal.at.returns c).In_ok-mark_cause) (sym c.in_ok-mark_cause.ensures)
    c.moved_of-moved.result c.moved_of-moved.ensures c.if-moved-ne0.false _ c.unite.ensures in
    record { answers = r.0; leaves = r.1 }
