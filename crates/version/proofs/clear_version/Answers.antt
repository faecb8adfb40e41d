-- `clear_version` stores zero words, which are those of an unheld version.
-- Assumes nothing.
use Rattle.version.proofs.Versions.{clear-version}
use Rattle.version.proofs.clear_version.Goals as goal

pub returns : goal.returns
returns c =
    let a = c.args in
    rw (← clear-version a.z a.words.now a.at, ← c.version_size-n.ensures)
    c.zero.ensures
