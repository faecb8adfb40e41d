-- `areas` is `Sizes::of` the four counts.
-- Assumes nothing.

use Rattle.sizes.proofs.Counts.areas.Goals as goal

pub of-requires : goal.of-requires
of-requires c = c.requires

pub returns : goal.returns
returns c = c.of.ensures
