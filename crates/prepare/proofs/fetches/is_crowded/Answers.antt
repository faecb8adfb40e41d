-- `is_crowded` asks each site.
-- Assumes nothing.
use Rattle.std.proofs.Common.{rules}
use Rattle.words.proofs.Ranges.{any-range}
use Rattle.prepare.proofs.fetches.is_crowded.Goals as goal

pub returns : goal.returns
returns c = any-range _ _ (λ o b q h. search rules) _ c.any.ensures.ran
