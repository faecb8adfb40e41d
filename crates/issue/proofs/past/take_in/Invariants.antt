-- `take_in` takes in each key of the mask. The loop's invariant: the keys passed are taken in.
-- Assumes nothing.
use mathlib.Core.Path.{◌≡◌}
use Prim.Native.Nat.{◌≤◌}
use lib.ListN.{length}
use Rattle.words.specs.Numbers.{fold_below}
use Rattle.issue.proofs.Writers.{take_step}
use Rattle.issue.proofs.past.take_in.Given as goal

abbrev pub invariant-loop-k : goal.invariant-loop-k
invariant-loop-k l =
    (l.k ≤ l.k-end) × (length l.words ≡ length l.initial.words)
    × (l.words ≡ fold_below l.k (take_step l.z l.at l.place l.read) l.initial.words)
