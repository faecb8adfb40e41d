-- `mark_sites` sets the mark of each site. The loop's invariant: those of the sites passed.
-- Assumes nothing.
use mathlib.Core.Path.{◌≡◌}
use Prim.Native.Nat.{◌≤◌}
use lib.ListN.{length}
use Rattle.words.specs.Numbers.{fold_below}
use Rattle.issue.specs.Saves.{mark_at}
use Rattle.issue.proofs.marks.mark_sites.Given as goal

abbrev pub invariant-loop-o : goal.invariant-loop-o
invariant-loop-o l =
    (l.o ≤ l.o-end) × (length l.words ≡ length l.initial.words) × (l.words ≡ fold_below l.o
    (mark_at l.z l.master) l.initial.words)
