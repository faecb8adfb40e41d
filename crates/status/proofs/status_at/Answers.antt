-- `status_at` reads the four words.
-- Assumes nothing.
use mathlib.Core.Path.{refl}
use Rattle.status.specs.Lent.{status_at}
use Rattle.status.proofs.status_at.Goals as goal

pub returns : goal.returns
unfolding status_at
returns c = refl
