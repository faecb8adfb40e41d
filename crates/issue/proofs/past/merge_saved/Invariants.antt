-- `merge_saved` merges each key of the mask. The loop's invariant: the keys passed are merged.
-- Assumes nothing.
use mathlib.Core.Path.{◌≡◌}
use Prim.Native.Nat.{◌≤◌}
use lib.ListN.{length}
use Rattle.words.specs.Numbers.{fold_below}
use Rattle.issue.proofs.Masters.{save_step}
use Rattle.issue.proofs.past.merge_saved.Given as goal

abbrev pub invariant-loop-k : goal.invariant-loop-k
invariant-loop-k l =
    (l.k ≤ l.k-end) × (length l.words ≡ length l.initial.words)
    × (l.words ≡ fold_below l.k (save_step l.z l.place l.at l.mask l.number.0 l.leaders)
    l.initial.words)
