-- `masks::with_item` meets its contract: `1 << k` is the mask of item k.
-- Assumes nothing.
use Rattle.masks.specs.Mask.{with_bit}
use Rattle.masks.proofs.Bits.{shifted_one}
use Rattle.masks.proofs.with_item.Goals as goal

pub returns : goal.returns
unfolding with_bit
returns c = rw (shifted_one c.args.k 32 c.requires)
