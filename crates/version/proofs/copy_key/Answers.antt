-- `copy_key` stores one key.
-- Assumes nothing.
use lib.ListN.{length}
use Rattle.layout.proofs.Places.{place_at_lem}
use Rattle.version.proofs.Areas.{key_apart}
use Rattle.version.proofs.copy_key.Goals as goal

pub copy_version-requires : goal.copy_version-requires
copy_version-requires c =
    let a = c.args in
    record {
      ranged = c.requires.areas.target.ranged;
      apart = rw (c.key_at-s.ensures, c.key_at-d.ensures)
          (key_apart (length a.words.now) a.z a.dst a.src c.requires.areas a.k
          c.requires.k_lt_keys);
    }

pub returns : goal.returns
returns c =
    let a = c.args in
    rw (
      place_at_lem a.z a.words.now a.src a.k c.requires.k_lt_keys,
      ← c.key_at-d.ensures,
      ← c.key_at-s.ensures,
    )
    c.copy_version.ensures
