-- `copy_version` stores the words that are read at the source.
-- Assumes nothing.
use Rattle.version.proofs.Versions.{copy-version}
use Rattle.version.proofs.copy_version.Goals as goal

pub copy-requires : goal.copy-requires
copy-requires c = rw c.version_size-n.ensures c.requires.apart

pub returns : goal.returns
returns c =
    let a = c.args in
    let l = a.words.now in
    rw (← copy-version a.z l l a.dst a.src, ← c.version_size-n.ensures)
    c.copy.ensures
