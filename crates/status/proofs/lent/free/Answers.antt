-- `free` leaves what `freed` says.
-- Assumes nothing.
use mathlib.Core.Path.{refl}
use Rattle.status.specs.Lent.{freed}
use Rattle.status.proofs.lent.free.Goals as goal

pub returns : goal.returns
unfolding freed
returns c = refl
