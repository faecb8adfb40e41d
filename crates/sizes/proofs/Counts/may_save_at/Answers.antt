-- `may_save_at` is where the mask stands of what writer w may save: it lies behind those of the
-- sites, below the total.
-- Assumes nothing.
use Prim.Native.Nat.{◌≤◌}
use native.Mathlib.Omega.{arith}
use Rattle.sizes.specs.Bounds.{max_total, may_save_at}
use Rattle.sizes.proofs.Offsets.{ordered, may-save-lies}
use Rattle.sizes.proofs.Counts.may_save_at.Goals as goal
use Rattle.sizes.proofs.Counts.may_save_at.Goals.{Start}

low : (c : Start) → may_save_at c.args.self c.args.w ≤ max_total
low c =
    let z = c.args.self in
    omega (arith, ordered z c.requires.ranged, may-save-lies z c.args.w c.requires.w_lt_writers)

pub overflow_add-result : goal.overflow_add-result
overflow_add-result c = omega (
  arith,
  c.round_at.ensures,
  low
      (goal.at.overflow_add-result c).Start,
)

pub overflow_add-result-2 : goal.overflow_add-result-2
overflow_add-result-2 c =
    let b = c in
    omega (arith, b.round_at.ensures, low (goal.at.overflow_add-result-2 c).Start)

pub overflow_add-result-3 : goal.overflow_add-result-3
overflow_add-result-3 c =
    let b = c in
    omega (arith, b.round_at.ensures, low (goal.at.overflow_add-result-3 c).Start)

pub returns : goal.returns
returns c = rw c.round_at.ensures
