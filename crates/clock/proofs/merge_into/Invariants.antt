-- `merge_into` stores the join of two clocks. The loop's invariant: the places passed hold it.
-- Assumes nothing.
use mathlib.Core.Path.{◌≡◌}
use Prim.Native.Nat.{◌≤◌}
use lib.ListN.{length}
use Rattle.words.specs.Words.{put}
use Rattle.clock.proofs.Merge.{joined}
use Rattle.clock.proofs.merge_into.Given as goal

abbrev pub invariant-loop-i : goal.invariant-loop-i
invariant-loop-i l =
    (l.i ≤ l.n) × (length l.words ≡ length l.initial.words) × (l.words ≡ put l.initial.words l.dst
    l.i (joined l.initial.words l.dst l.src))
