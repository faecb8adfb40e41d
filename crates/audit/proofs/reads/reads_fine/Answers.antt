-- `reads_fine` asks the reads, if one may count up to just the issue.
-- Assumes nothing.
use Rattle.audit.proofs.Lowering.{counts-below}
use Rattle.audit.proofs.reads.reads_fine.Goals as goal

pub returns-then-earlier-least : goal.returns-then-earlier-least
returns-then-earlier-least c =
    counts-below _ _ _ _ _ _ c.args.least.now c.requires.least.0 c.requires.low.1
    c.requires.least.1 c.if-earlier-least.true
