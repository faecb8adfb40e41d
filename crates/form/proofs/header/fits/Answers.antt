-- `fits` compares the total with the length.
-- Assumes nothing.
use Rattle.sizes.specs.Bounds.{sizes_of}
use Rattle.form.proofs.header.fits.Goals as goal

pub returns : goal.returns
unfolding sizes_of
returns c = rw c.areas.ensures
