-- `rules` tests that row d of a version of another key is not zero.
-- Assumes nothing.
use borrow.Author.Tests.{eq-eqb, ne_eqb}
use lib.ListN.{length}
use Rattle.model.specs.Version.{dependency}
use Rattle.layout.proofs.Readings.{present-word}
use Rattle.version.proofs.Areas.{row_in}
use Rattle.version.proofs.needs.Goals as goal

pub returns-then-d-k : goal.returns-then-d-k
unfolding dependency
returns-then-d-k c = rw (eq-eqb _ _ c.if-d-k.true)

pub present-requires : goal.present-requires
present-requires c =
    let a = c.args in
    rw c.row_of-row.ensures
    (row_in (length a.words.now) a.z a.at c.requires.area a.k a.d c.requires.k_lt_keys.0
    c.requires.k_lt_keys.1)

pub returns : goal.returns
unfolding dependency
returns c =
    let a = c.args in
    rw (
      ne_eqb _ _ c.if-d-k.false,
      present-word a.z a.words.now a.at a.k a.d c.requires.k_lt_keys.0 c.requires.k_lt_keys.1,
      ← c.row_of-row.ensures,
    )
    c.present.ensures
