-- `past_row_at` is where a row begins in a past, which is not long.
-- Assumes nothing.
use native.Mathlib.Omega.{arith}
use Rattle.sizes.specs.Bounds.{past_row_at}
use Rattle.sizes.proofs.Offsets.{largest, past-row-lies}
use Rattle.sizes.proofs.Counts.past_row_at.Goals as goal

pub nth-requires : goal.nth-requires
unfolding past_row_at
nth-requires c =
    let s = c in
    let a = s.args in
    let lies = past-row-lies a.self a.at a.d s.requires.at_lt_version_limit.1 in
    omega (arith, largest a.self s.requires.ranged, lies)

pub returns : goal.returns
unfolding past_row_at
returns c = c.nth.ensures
