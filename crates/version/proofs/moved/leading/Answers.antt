-- `leading` hands both masks and both own rows on.
-- Assumes nothing.
use native.Mathlib.Omega.{arith}
use lib.ListN.{length}
use Rattle.version.proofs.Areas.{row_in}
use Rattle.version.proofs.Moves.{leading-is}
use Rattle.version.proofs.moved.leading.Goals as goal

pub merged_leaders-requires : goal.merged_leaders-requires
merged_leaders-requires c =
    let a = c.args in
    let n = length a.words.now in
    let k = c.requires.k_lt_keys in
    let own = row_in n a.z a.a c.requires.area.0 a.k a.k k k in
    let other = row_in n a.z a.b c.requires.area.1 a.k a.k k k in
    rw (c.row_of-q.ensures, c.row_of-p.ensures)
    (omega (arith, c.requires.area.0.ranged), omega arith, omega arith)

pub returns : goal.returns
returns c =
    let a = c.args in
    leading-is a.z a.words.now a.a a.b a.k c.requires.k_lt_keys _ _ _ _ _
    c.merged_leaders.ensures c.leaders_of-m.ensures c.row_of-p.ensures
    c.leaders_of-n.ensures c.row_of-q.ensures
