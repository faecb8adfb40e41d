-- `may_hold_at` is where the mask stands of what site o may hold, below the total.
-- Assumes nothing.
use Prim.Native.Nat.{◌≤◌}
use native.Mathlib.Omega.{arith}
use Rattle.sizes.specs.Bounds.{max_total, may_hold_at}
use Rattle.sizes.proofs.Offsets.{ordered, may-hold-lies}
use Rattle.sizes.proofs.Counts.may_hold_at.Goals as goal
use Rattle.sizes.proofs.Counts.may_hold_at.Goals.{Start}

low : (c : Start) → may_hold_at c.args.self c.args.o ≤ max_total
low c =
    let z = c.args.self in
    omega (arith, ordered z c.requires.ranged, may-hold-lies z c.args.o c.requires.o_lt_sites)

pub overflow_add-result : goal.overflow_add-result
overflow_add-result c = omega (
  arith,
  c.round_at.ensures,
  low
      (goal.at.overflow_add-result c).Start,
)

pub overflow_add-result-2 : goal.overflow_add-result-2
overflow_add-result-2 c = omega (
  arith,
  c.round_at.ensures,
  low
      (goal.at.overflow_add-result-2 c).Start,
)

pub returns : goal.returns
returns c = rw c.round_at.ensures
