-- `masks::without` meets its contract.
-- Assumes nothing.
use mathlib.Core.Path.{refl}
use Rattle.masks.specs.Mask.{without}
use Rattle.masks.proofs.without.Goals as goal

pub returns : goal.returns
unfolding without
returns c = refl
