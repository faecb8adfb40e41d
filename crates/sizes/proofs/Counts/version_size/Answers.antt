-- `version_size` is the size of a version.
-- Assumes nothing.
use native.Mathlib.Omega.{arith}
use Rattle.sizes.specs.Bounds.{version_size}
use Rattle.sizes.proofs.Offsets.{largest}
use Rattle.sizes.proofs.Counts.version_size.Goals as goal

pub overflow_add-result : goal.overflow_add-result
unfolding version_size
overflow_add-result c =
    let s = c in
    rw c.past_size.ensures (omega (arith, (largest s.args.self s.requires).version))

pub returns : goal.returns
unfolding version_size
returns c = rw c.past_size.ensures
