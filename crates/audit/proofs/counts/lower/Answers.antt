-- `lower` has the smaller counts, where those of the clock aren't 0.
-- Assumes nothing.
use Rattle.std.proofs.Common.{rules}
use Rattle.clock.specs.Clock.{clock_at}
use Rattle.audit.proofs.counts.lower.Goals as goal

pub returns : goal.returns
unfolding clock_at
returns c = record {
  fell = λ u h. let t = c.combine.ensures u h in search rules;
  under = λ u h o. let t = c.combine.ensures u h in search rules;
}
