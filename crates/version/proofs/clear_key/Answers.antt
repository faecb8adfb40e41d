-- `clear_key` clears one key.
-- Assumes nothing.
use lib.ListN.{length}
use Rattle.version.proofs.Areas.{key_in}
use Rattle.version.proofs.clear_key.Goals as goal

pub clear_version-requires : goal.clear_version-requires
clear_version-requires c =
    let a = c.args in
    record {
      ranged = c.requires.area.ranged;
      z_in_bounds = rw c.key_at-version.ensures
          (key_in (length a.words.now) a.z a.at c.requires.area a.k c.requires.k_lt_keys);
    }

pub returns : goal.returns
returns c = rw (← c.key_at-version.ensures) c.clear_version.ensures
