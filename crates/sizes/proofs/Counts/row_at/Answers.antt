-- `row_at` is where a row begins in a version, which is not long.
-- Assumes nothing.
use mathlib.Core.Path.{refl}
use Prim.Native.Nat.{◌≤◌}
use native.Mathlib.Omega.{arith}
use Rattle.sizes.specs.Bounds.{row_at}
use Rattle.sizes.proofs.Offsets.{largest, row_lies}
use Rattle.sizes.proofs.Counts.row_at.Goals as goal
use Rattle.sizes.proofs.Counts.row_at.Goals.{Start}

low : (c : Start) → row_at c.args.self c.args.at c.args.d ≤ 2000514
low c =
    let a = c.args in
    let lies = row_lies a.self a.at a.d c.requires.at_lt_version_limit.1 in
    omega (arith, largest a.self c.requires.ranged, lies)

pub overflow_mul-result : goal.overflow_mul-result
unfolding row_at
overflow_mul-result c = omega (arith, low (goal.at.overflow_mul-result c).Start)

pub overflow_add-result : goal.overflow_add-result
unfolding row_at
overflow_add-result c = omega (arith, low (goal.at.overflow_add-result c).Start)

pub overflow_add-result-2 : goal.overflow_add-result-2
unfolding row_at
overflow_add-result-2 c = omega (arith, low (goal.at.overflow_add-result-2 c).Start)

pub returns : goal.returns
unfolding row_at
returns c = refl
