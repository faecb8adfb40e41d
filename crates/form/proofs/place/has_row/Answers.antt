-- `has_row` asks `present` of the row.
-- Assumes nothing.
use Rattle.layout.proofs.Readings.{present-word}
use Rattle.version.proofs.Areas.{row_in}
use Rattle.form.proofs.place.has_row.Goals as goal

pub present-requires : goal.present-requires
present-requires c =
    let a = c.args in
    let p = c.requires.k_lt_keys in
    rw c.row_of-row.ensures (row_in _ a.z a.at c.requires.area a.k a.d p.0 p.1)

pub returns : goal.returns
returns c =
    let a = c.args in
    let p = c.requires.k_lt_keys in
    rw (
      present-word a.z a.words.now a.at a.k a.d p.0 p.1,
      ← c.row_of-row.ensures,
    ) c.present.ensures
