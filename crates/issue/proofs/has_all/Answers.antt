-- `has_all` answers whether each item below n is in the mask.
-- Assumes nothing.
use Rattle.std.proofs.Common.{rules}
use Rattle.words.proofs.Ranges.{all-range}
use Rattle.masks.specs.Mask.{test_bit}
use Rattle.issue.proofs.has_all.Goals as goal

pub returns : goal.returns
returns c =
    all-range c.args.n (test_bit c.args.mask) (λ j b q h. search rules) _ c.all.ensures.ran
