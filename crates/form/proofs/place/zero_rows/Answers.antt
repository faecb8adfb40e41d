-- `zero_rows` tests the whole past as one run of words.
-- Assumes nothing.
use native.Mathlib.Omega.{arith}
use Rattle.form.proofs.Flat.{flat_rows, past_in}
use Rattle.form.proofs.place.zero_rows.Goals as goal

pub row_of-row-requires : goal.row_of-row-requires
row_of-row-requires c =
    record {
      ranged = c.requires.area.ranged;
      at_lt_place_limit = (
        c.requires.area.low,
        c.requires.k_lt_keys,
        omega (
          arith,
          c.requires.k_lt_keys,
        ),
      );
    }

pub present-requires : goal.present-requires
present-requires c =
    let a = c.args in
    rw (c.past_size-n.ensures, c.row_of-row.ensures)
    (past_in _ a.z a.at c.requires.area a.k c.requires.k_lt_keys)

pub returns : goal.returns
returns c =
    let a = c.args in
    rw (c.present.ensures, c.past_size-n.ensures, c.row_of-row.ensures)
    (flat_rows a.z a.words.now a.at a.k c.requires.k_lt_keys)
