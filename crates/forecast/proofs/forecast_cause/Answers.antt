-- `forecast_cause` tests the scratch's length, what calls on a run share, then the mark.
-- fits: the scratch has room. below: the run is one of the store's. here: its mark.
-- Assumes nothing.
use mathlib.Core.Path.{◌≡◌, sym, ◌∙◌}
use Prim.Native.Nat.{◌≤◌, ◌<◌}
use native.Mathlib.Omega.{arith}
use lib.ListN.{length}
use Rattle.std.proofs.lemmas.Result.{err_from_is_err_and}
use Rattle.sizes.specs.Bounds.{max_total, total_of}
use Rattle.answers.proofs.Refusals.{refusal_some}
use Rattle.form.proofs.Known.{form-area}
use Rattle.status.proofs.Known.{cause-below}
use Rattle.forecast.proofs.Causes.{total-found, mark-index, cause-short, cause-run, cause-forked, cause-none}
use Rattle.forecast.proofs.forecast_cause.Goals as goal
use Rattle.forecast.proofs.forecast_cause.Goals.{After-mark_at-at, Else-room-total, In_ok-run_cause}

fits : (c : Else-room-total) → let a = c.args in total_of a.z ≤ a.room
fits c = omega (arith, total-found _ _ c.areas-areas.ensures, c.if-room-total.false)

below : (c : In_ok-run_cause) → c.args.r < c.args.z.runs
below c = cause-below _ _ _ _ c.requires (sym c.in_ok-run_cause.ensures)

here : (c : After-mark_at-at)
    → (c.mark_at-at.result < length c.args.words.now) × (c.mark_at-at.result < max_total)
here c =
    rw c.mark_at-at.ensures
    (mark-index _ _ _ c.requires
    (cause-below _ _ _ _ c.requires (sym c.in_ok-run_cause.ensures)))

pub areas-areas-requires : goal.areas-areas-requires
areas-areas-requires c = (form-area _ _ c.requires).ranged

pub returns-then-room-total : goal.returns-then-room-total
returns-then-room-total c =
    cause-short _ _ _ _ c.requires
    (omega (arith, total-found _ _ c.areas-areas.ensures, c.if-room-total.true))

pub returns-in_err-run_cause : goal.returns-in_err-run_cause
returns-in_err-run_cause c =
    let p = err_from_is_err_and c.from_residual.result c.from_residual.ensures.1 in
    rw (p.1, p.2)
    (cause-run _ _ _ _ c.requires (fits (goal.at.returns-in_err-run_cause c).Else-room-total) _
    c.in_err-run_cause.ensures (refusal_some c.in_err-run_cause.field-0.0))

pub mark_at-at-requires : goal.mark_at-at-requires
mark_at-at-requires c =
    record {
      ranged = (form-area _ _ c.requires).ranged;
      r_lt_runs = below (goal.at.mark_at-at-requires c).In_ok-run_cause;
    }

pub returns-then-words-at-eq-FORKED_MARK : goal.returns-then-words-at-eq-FORKED_MARK
returns-then-words-at-eq-FORKED_MARK c =
    cause-forked _ _ _ _ c.requires
    (fits (goal.at.returns-then-words-at-eq-FORKED_MARK c).Else-room-total)
    (sym c.in_ok-run_cause.ensures) _ c.mark_at-at.ensures c.if-words-at-eq-FORKED_MARK.true

pub returns : goal.returns
returns c =
    cause-none _ _ _ _ c.requires (fits (goal.at.returns c).Else-room-total)
    (sym c.in_ok-run_cause.ensures) _ c.mark_at-at.ensures c.if-words-at-eq-FORKED_MARK.false

pub offset_bounds-words-at : goal.offset_bounds-words-at
offset_bounds-words-at c = omega (arith, here (goal.at.offset_bounds-words-at c).After-mark_at-at)

pub bounds-words-at : goal.bounds-words-at
bounds-words-at c = omega (arith, here (goal.at.bounds-words-at c).After-mark_at-at)
