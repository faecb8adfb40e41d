-- `reads_at` gives what the jobs at a site read.
-- The loop's invariant: the union over the jobs passed.
-- Assumes nothing.
use mathlib.Core.Path.{◌≡◌}
use Prim.Native.Nat.{◌≤◌}
use lib.Dec.{eqb}
use Rattle.words.specs.Numbers.{when}
use Rattle.masks.specs.Mask.{union_below}
use Rattle.layout.specs.Reading.{store_of}
use Rattle.prepare.proofs.fetches.reads_at.Given as goal

abbrev pub invariant-loop-j : goal.invariant-loop-j
invariant-loop-j l =
    let a = (store_of l.words).run l.r in
    (l.j ≤ l.j-end)
    × (l.all ≡ union_below l.j (λ i. when (eqb (a.job i).site l.o) (a.job i).reads))
