-- `mark_cause` tests what calls on a run share, then the mark.
-- below: the run is one of the store's. here: where its mark stands.
-- Assumes nothing.
use mathlib.Core.Path.{sym}
use Prim.Native.Nat.{◌<◌}
use native.Mathlib.Omega.{arith}
use lib.ListN.{length}
use Rattle.std.proofs.lemmas.Result.{err_from_is_err_and}
use Rattle.answers.specs.Refusals.{refusal_number}
use Rattle.answers.proofs.Refusals.{refusal_some}
use Rattle.sizes.specs.Bounds.{max_total}
use Rattle.layout.specs.Reading.{store_of}
use Rattle.states.specs.Rows.{row_number}
use Rattle.form.proofs.Known.{form-area}
use Rattle.status.proofs.Known.{cause-below}
use Rattle.fork.proofs.Indices.{mark-index}
use Rattle.fork.proofs.Causes.{cause-run, cause-mark, cause-none}
use Rattle.fork.proofs.mark_cause.Goals as goal
use Rattle.fork.proofs.mark_cause.Goals.{After-mark_at-at, In_ok-run_cause}

below : (c : In_ok-run_cause) → c.args.r < c.args.z.runs
below c = cause-below _ _ _ _ c.requires (sym c.in_ok-run_cause.ensures)

here : (c : After-mark_at-at) → let at = c.mark_at-at.result in
    (at < max_total) × (at < length c.args.words.now)
here c =
    rw c.mark_at-at.ensures
    (mark-index _ _ (form-area _ _ c.requires) _
    (cause-below _ _ _ _ c.requires (sym c.in_ok-run_cause.ensures)))

pub returns-in_err-run_cause : goal.returns-in_err-run_cause
returns-in_err-run_cause c =
    let a = c.args in
    let p = err_from_is_err_and c.from_residual.result c.from_residual.ensures.1 in
    let e = c.in_err-run_cause.field-0.0 in
    rw (p.1, p.2)
    (cause-run (store_of a.words.now) (row_number a.row) a.mark a.r (refusal_number e)
    c.in_err-run_cause.ensures (refusal_some e))

pub mark_at-at-requires : goal.mark_at-at-requires
mark_at-at-requires c = record {
  ranged = (form-area _ _ c.requires).ranged;
  r_lt_runs = below (goal.at.mark_at-at-requires c).In_ok-run_cause;
}

pub returns-then-words-at : goal.returns-then-words-at
returns-then-words-at c =
    let a = c.args in
    cause-mark a.words.now a.z (row_number a.row) a.mark a.r c.requires
    (sym c.in_ok-run_cause.ensures) c.mark_at-at.result c.mark_at-at.ensures c.if-words-at.true

pub returns : goal.returns
returns c =
    let a = c.args in
    cause-none a.words.now a.z (row_number a.row) a.mark a.r c.requires
    (sym c.in_ok-run_cause.ensures) c.mark_at-at.result c.mark_at-at.ensures c.if-words-at.false

pub offset_bounds-words-at : goal.offset_bounds-words-at
offset_bounds-words-at c = omega (arith, here (goal.at.offset_bounds-words-at c).After-mark_at-at)

pub bounds-words-at : goal.bounds-words-at
bounds-words-at c = omega (arith, here (goal.at.bounds-words-at c).After-mark_at-at)
