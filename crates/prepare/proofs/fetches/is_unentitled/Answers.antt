-- `is_unentitled` asks each site for its T.
-- Assumes nothing.
use Rattle.std.proofs.Common.{rules}
use Rattle.words.proofs.Ranges.{any-range}
use Rattle.prepare.proofs.fetches.is_unentitled.Goals as goal

pub returns : goal.returns
returns c = any-range _ _ (λ o b q h. search rules) _ c.any.ensures.ran
