-- `is_ranged` tests each of the four counts.
-- Assumes nothing.
use Rattle.sizes.specs.Bounds.{ranged}
use Rattle.sizes.proofs.Counts.is_ranged.Goals as goal

pub returns : goal.returns
unfolding ranged
returns c = cc
