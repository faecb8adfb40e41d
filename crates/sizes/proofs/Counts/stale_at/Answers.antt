-- `stale_at` is where the mark of a site stands, behind its cache.
-- Assumes nothing.
use native.Mathlib.Omega.{arith}
use Rattle.sizes.proofs.Offsets.{largest}
use Rattle.sizes.proofs.Counts.stale_at.Goals as goal

pub overflow_add-result : goal.overflow_add-result
overflow_add-result c =
    let s = c in
    omega (
      arith,
      c.place_size.ensures,
      largest s.args.self s.requires.ranged,
      s.requires.at_lt_place_limit,
    )

pub returns : goal.returns
returns c = rw c.place_size.ensures
