-- `sites_used` has the sites of the jobs. The loop's invariant: those of the jobs passed.
-- Assumes nothing.
-- The loop's bound is the number of jobs.
use mathlib.Core.Path.{◌≡◌}
use Prim.Native.Nat.{◌≤◌}
use Rattle.masks.specs.Mask.{test_bit}
use Rattle.model.specs.Prepare.{uses_site}
use Rattle.layout.specs.Reading.{store_of}
use Rattle.prepare.proofs.merges.sites_used.Given as goal

abbrev pub invariant-loop-j : goal.invariant-loop-j
invariant-loop-j l =
    (l.j ≤ l.j-end) × (test_bit l.mask ≡ uses_site l.j ((store_of l.words).run l.r).job)
