-- `merge` has the larger counts.
-- Assumes nothing.
use Rattle.std.proofs.Common.{rules}
use Rattle.clock.specs.Clock.{clock_at}
use Rattle.audit.proofs.counts.merge.Goals as goal

pub returns : goal.returns
unfolding clock_at
returns c = record { counts = λ u h. let t = c.combine.ensures u h in search rules }
