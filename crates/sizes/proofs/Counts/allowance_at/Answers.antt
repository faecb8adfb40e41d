-- `allowance_at` is where the allowance of a site stands, behind its mark.
-- Assumes nothing.
use native.Mathlib.Omega.{arith}
use Rattle.sizes.proofs.Offsets.{largest}
use Rattle.sizes.proofs.Counts.allowance_at.Goals as goal

pub overflow_add-result : goal.overflow_add-result
overflow_add-result c =
    let s = c in
    omega (
      arith,
      c.stale_at.ensures,
      largest s.args.self s.requires.ranged,
      s.requires.at_lt_place_limit,
    )

pub returns : goal.returns
returns c = rw c.stale_at.ensures
