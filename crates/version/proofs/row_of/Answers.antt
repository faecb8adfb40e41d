-- `row_of` is where a row begins: the version of a key begins below the limit of `row_at`.
-- Assumes nothing.
use native.Mathlib.Omega.{arith}
use Rattle.sizes.proofs.Offsets.{largest, key-lies}
use Rattle.version.proofs.row_of.Goals as goal

pub row_at-requires : goal.row_at-requires
row_at-requires c =
    let a = c.args in
    let p = c.requires in
    let k = key-lies a.z a.at a.k p.at_lt_place_limit.1 in
    record {
      ranged = p.ranged;
      at_lt_version_limit = (
        rw c.key_at-version.ensures (omega (arith, largest a.z p.ranged)),
        p.at_lt_place_limit.2,
      );
    }

pub returns : goal.returns
returns c = rw (← c.key_at-version.ensures) c.row_at.ensures
