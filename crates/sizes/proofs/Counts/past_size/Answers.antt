-- `past_size` is the size of a past.
-- Assumes nothing.
use mathlib.Core.Path.{refl}
use native.Mathlib.Omega.{arith}
use Rattle.sizes.specs.Bounds.{past_size}
use Rattle.sizes.proofs.Offsets.{largest}
use Rattle.sizes.proofs.Counts.past_size.Goals as goal

pub overflow_mul-result : goal.overflow_mul-result
unfolding past_size
overflow_mul-result c = omega (arith, (largest c.args.self c.requires).past)

pub returns : goal.returns
unfolding past_size
returns c = refl
