-- `compare_pasts` compares all rows as one clock.
-- Assumes nothing.
use native.Mathlib.Omega.{arith}
use lib.ListN.{length}
use Rattle.sizes.specs.Bounds.{version_size}
use Rattle.layout.proofs.Pasts.{row_first}
use Rattle.version.proofs.Areas.{key_in}
use Rattle.version.proofs.Moves.{pasts-compared}
use Rattle.version.proofs.moved.compare_pasts.Goals as goal

pub compare-requires : goal.compare-requires
unfolding version_size
compare-requires c =
    let a = c.args in
    let n = length a.words.now in
    let k = c.requires.k_lt_keys in
    let own = key_in n a.z a.a c.requires.area.0 a.k k in
    let other = key_in n a.z a.b c.requires.area.1 a.k k in
    rw (c.past_size-n.ensures, c.row_of-q.ensures, c.row_of-p.ensures, row_first, row_first)
    (omega arith, omega arith)

pub returns : goal.returns
returns c =
    let a = c.args in
    let r = pasts-compared a.z a.words.now a.a a.b a.k c.requires.k_lt_keys _ _ _ _
    c.compare.ensures c.past_size-n.ensures c.row_of-p.ensures c.row_of-q.ensures in
    record { covers = r.0; covered = r.1 }
