-- `key_at` is where the version of a key begins in a place, which is not long.
-- Assumes nothing.
use mathlib.Core.Path.{◌∙◌}
use native.Mathlib.Omega.{arith}
use Rattle.sizes.specs.Bounds.{key_at}
use Rattle.sizes.proofs.Offsets.{largest, key-lies}
use Rattle.sizes.proofs.Counts.key_at.Goals as goal

pub nth-requires : goal.nth-requires
unfolding key_at
nth-requires c =
    let s = c in
    let a = s.args in
    let lies = key-lies a.self a.at a.k s.requires.at_lt_place_limit.1 in
    rw c.version_size.ensures (omega (arith, largest a.self s.requires.ranged, lies))

pub returns : goal.returns
unfolding key_at
returns c = c.nth.ensures ∙ rw c.version_size.ensures
