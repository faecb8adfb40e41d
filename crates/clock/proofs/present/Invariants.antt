-- `present` answers whether some count of a clock is not zero. The loop's invariant: so it does
-- for the counts passed.
-- Assumes nothing.
use mathlib.Core.Path.{◌≡◌}
use Prim.Native.Nat.{◌≤◌}
use lib.Dec.{leb}
use Rattle.clock.specs.Clock.{present, clock_at}
use Rattle.clock.proofs.present.Given as goal

abbrev pub invariant-loop-i : goal.invariant-loop-i
invariant-loop-i l =
    (l.i ≤ l.w) × (leb 1 l.all ≡ present l.i (clock_at l.words l.at))
