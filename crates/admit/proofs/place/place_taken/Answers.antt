-- `place_taken` asks for rows, numbers and needs.
-- Assumes nothing.
use mathlib.Core.Path.{ap₂}
use mathlib.Core.Bool.{◌&&◌}
use Rattle.admit.specs.Parts.{place_taken}
use Rattle.admit.proofs.place.place_taken.Goals as goal

pub returns : goal.returns
unfolding place_taken
returns c =
    let n = c in
    ap₂ ◌&&◌ n.rows_covered.ensures
    (ap₂ ◌&&◌ n.numbers_within.ensures c.needs_met.ensures)
