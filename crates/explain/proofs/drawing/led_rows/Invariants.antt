-- `led_rows` has a row for each key. The loop's invariant: those passed are stored.
-- Assumes nothing.
-- The row of a key.
use mathlib.Core.Path.{◌≡◌}
use mathlib.Core.List.{List}
use Prim.Native.Nat.{ℕ, ◌≤◌}
use lib.ListN.{length}
use Rattle.words.specs.Numbers.{when}
use Rattle.words.specs.Words.{put}
use Rattle.masks.specs.Mask.{test_bit, mask_below}
use Rattle.paths.specs.Rows.{no_items_of}
use Rattle.sizes.specs.declared.Counts.{Counts}
use Rattle.sets.specs.declared.growth.Rule.{Rule}
use Rattle.sets.specs.Leads.{leads_to}
use Rattle.explain.proofs.drawing.led_rows.Given as goal

abbrev row : List ℕ → Counts → Rule → ℕ → ℕ → ℕ → ℕ
row words z rule scope mask t =
    when (test_bit mask t) (mask_below z.keys (leads_to z words rule scope t))

abbrev pub invariant-loop-t : goal.invariant-loop-t
invariant-loop-t l =
    (l.t ≤ l.z.keys) × (length l.rows ≡ 32) × (l.rows ≡ put no_items_of 0 l.t
    (row l.words l.z l.rule l.scope l.mask))
