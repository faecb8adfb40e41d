-- `layers` has each layer, from the goal on. The loop's invariant: those passed are stored.
-- Assumes nothing.
use mathlib.Core.Path.{◌≡◌}
use Prim.Native.Nat.{◌≤◌}
use lib.ListN.{length}
use Rattle.words.specs.Words.{put}
use Rattle.paths.specs.Rows.{layer, no_items_of}
use Rattle.paths.proofs.layers.Given as goal

abbrev pub invariant-loop-m : goal.invariant-loop-m
invariant-loop-m l =
    (l.m ≤ l.n) × (length l.masks ≡ 32) × (l.masks ≡ put no_items_of 0 l.m
    (layer l.rows l.n l.goal))
    × (l.mask ≡ layer l.rows l.n l.goal l.m)
