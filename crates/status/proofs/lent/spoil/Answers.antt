-- `spoil` leaves what `spoiled` says.
-- Assumes nothing.
use mathlib.Core.Path.{refl}
use Rattle.status.specs.Lent.{spoiled}
use Rattle.status.proofs.lent.spoil.Goals as goal

pub returns : goal.returns
unfolding spoiled
returns c = refl
