-- `take_sets` makes the fetch of each site. The loop's invariant: those passed have taken theirs.
-- Assumes nothing.
use mathlib.Core.Path.{◌≡◌}
use Prim.Native.Nat.{◌≤◌}
use lib.ListN.{length}
use Rattle.layout.specs.Reading.{store_of}
use Rattle.layout.specs.Buffer.{written}
use Rattle.prepare.specs.Turns.{set_of_at, taken_sites}
use Rattle.prepare.proofs.fetches.take_sets.Given as goal

abbrev pub invariant-loop-o : goal.invariant-loop-o
invariant-loop-o l =
    (l.o ≤ l.o-end) × (length l.words ≡ length l.initial.words)
    × (l.words ≡ written (taken_sites (store_of l.initial.words) (set_of_at l.sets) l.o)
    l.initial.words)
