-- `round_at` is where the tail begins.
-- Assumes nothing.
use mathlib.Core.Path.{ap}
use Rattle.sizes.specs.declared.Sizes.{Sizes}
use Rattle.sizes.specs.Bounds.{sizes_of}
use Rattle.sizes.proofs.Counts.round_at.Goals as goal

pub returns : goal.returns
unfolding sizes_of
returns c = ap (λ (s : Sizes). s.tail) c.areas.ensures
