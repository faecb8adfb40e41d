-- `saves_fine` asks the reads, if one has a key of the mask.
-- Assumes nothing.
use Rattle.audit.proofs.Rest.{saves-apart}
use Rattle.audit.proofs.saves.saves_fine.Goals as goal

pub returns-then-earlier-keys-eq0 : goal.returns-then-earlier-keys-eq0
returns-then-earlier-keys-eq0 c =
    saves-apart _ _ _ _ _ _ c.requires.among c.if-earlier-keys-eq0.true
