-- `grow` gives the least set. The measure: how many keys are outside of the mask.
-- Assumes nothing.
use Rattle.masks.specs.Mask.{test_bit}
use Rattle.reach.specs.Closure.{outside}
use Rattle.sets.proofs.growth.+grow.Given as goal

abbrev pub decreases-grow : goal.decreases-grow
decreases-grow g l = outside l.keys (test_bit l.mask)
