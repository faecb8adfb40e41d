-- `place_size` is the size of a place.
-- Assumes nothing.
use native.Mathlib.Omega.{arith}
use Rattle.sizes.specs.Bounds.{place_size}
use Rattle.sizes.proofs.Offsets.{largest}
use Rattle.sizes.proofs.Counts.place_size.Goals as goal

pub overflow_mul-result : goal.overflow_mul-result
unfolding place_size
overflow_mul-result c =
    let s = c in
    rw c.version_size-v.ensures (omega (arith, (largest s.args.self s.requires).place))

pub returns : goal.returns
unfolding place_size
returns c = rw c.version_size-v.ensures
