-- `divided` answers three masks.
-- Assumes nothing.
use Rattle.step.proofs.divided.Goals as goal

pub returns : goal.returns
returns c = rw (c.without-from_snapshot.ensures, c.without-from_cache.ensures)
