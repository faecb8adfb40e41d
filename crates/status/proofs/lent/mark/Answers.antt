-- `mark` leaves what `marked` says.
-- Assumes nothing.
use mathlib.Core.Path.{refl}
use Rattle.status.specs.Lent.{marked}
use Rattle.status.proofs.lent.mark.Goals as goal

pub returns : goal.returns
unfolding marked
returns c = refl
