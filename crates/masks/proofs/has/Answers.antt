-- `masks::has` meets its contract.
-- Assumes nothing.
use mathlib.Core.Path.{refl}
use Rattle.masks.specs.Mask.{test_bit}
use Rattle.masks.proofs.has.Goals as goal

pub returns : goal.returns
unfolding test_bit
returns c = refl
