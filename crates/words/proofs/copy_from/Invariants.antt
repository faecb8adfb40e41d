-- `copy_from` stores a part of the other words. The loop's invariant: those passed are stored.
-- Assumes nothing.
use mathlib.Core.Path.{◌≡◌}
use Prim.Native.Nat.{◌≤◌, ◌+◌}
use lib.ListN.{length, get_or}
use Rattle.words.specs.Words.{put}
use Rattle.words.proofs.copy_from.Given as goal

abbrev pub invariant-loop-i : goal.invariant-loop-i
invariant-loop-i l =
    (l.i ≤ l.n) × (length l.words ≡ length l.initial.words)
    × (l.words ≡ put l.initial.words l.dst l.i (λ j. get_or l.from (l.src + j) 0))
