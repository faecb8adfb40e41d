-- `merge_sites` merges the caches one after the other. The loop's invariant: those passed.
-- Assumes nothing.
use mathlib.Core.Path.{◌≡◌}
use Prim.Native.Nat.{◌≤◌}
use lib.ListN.{length}
use Rattle.layout.specs.Stored.{put_place}
use Rattle.prepare.proofs.Merging.{merged_after}
use Rattle.prepare.proofs.merges.merge_sites.Given as goal

abbrev pub invariant-loop-o : goal.invariant-loop-o
invariant-loop-o l =
    (l.o ≤ l.o-end) × (length l.words ≡ length l.initial.words)
    × (l.words ≡ put_place l.z l.initial.words l.snapshot (merged_after l.z l.initial.words
    l.sites l.plan l.o))
