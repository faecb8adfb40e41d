-- `site_sets` has T of each site. The loop's invariant: those passed are stored.
-- Assumes nothing.
-- The mask of a site.
use mathlib.Core.Path.{◌≡◌}
use mathlib.Core.List.{List}
use Prim.Native.Nat.{ℕ, ◌≤◌}
use lib.ListN.{length}
use Rattle.words.specs.Words.{put}
use Rattle.masks.specs.Mask.{mask_below}
use Rattle.sizes.specs.declared.Counts.{Counts}
use Rattle.layout.specs.Reading.{store_of}
use Rattle.prepare.specs.Turns.{no_sets, taken_at_of}
use Rattle.prepare.proofs.fetches.site_sets.Given as goal

abbrev mask : List ℕ → Counts → ℕ → ℕ → ℕ
mask words z r o = mask_below z.keys (taken_at_of z (store_of words) r o)

abbrev pub invariant-loop-o : goal.invariant-loop-o
invariant-loop-o l =
    (l.o ≤ l.z.sites) × (length l.sets ≡ 8) × (l.sets ≡ put no_sets 0 l.o (mask l.words l.z l.r))
