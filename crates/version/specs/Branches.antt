-- A line of a run in the words of a buffer (CR 10).
-- branch_at: a read mask, and the card at an index. ReadHeld: what was read is on the card.
-- Assumes nothing.
use Rattle.std.proofs.Math.Bool.{So}
use Rattle.std.specs.Prelude.{List, ℕ, ◌<◌}
use Rattle.masks.specs.Mask.{test_bit}
use Rattle.sizes.specs.declared.Counts.{Counts}
use Rattle.model.specs.Version.{held}
use Rattle.model.specs.Store.{Branch}
use Rattle.layout.specs.Reading.{read_place}

abbrev pub branch_at : Counts → List ℕ → ℕ → ℕ → Branch
branch_at z l read at = record { read = read; snapshot = read_place z l at }

-- "each read sheet on the card"
abbrev pub ReadHeld : Counts → Branch → Type 0
ReadHeld z x = (k : ℕ) → k < z.keys → So (test_bit x.read k) → So (held (x.snapshot k))
