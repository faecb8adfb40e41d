-- `compare` answers the standing of two clocks. The loop's invariant: whether some count passed
-- is larger, whether some is smaller, and whether some is one of these.
-- Assumes nothing.
use mathlib.Core.Path.{◌≡◌}
use Prim.Native.Nat.{◌≤◌}
use Rattle.clock.specs.Clock.{exceeds, standing_of, differing, clock_at}
use Rattle.clock.proofs.compare.Given as goal

abbrev pub invariant-loop-i : goal.invariant-loop-i
invariant-loop-i l =
    let c = clock_at l.p l.a in
    let d = clock_at l.q l.b in
    (l.i ≤ l.w) × (l.over ≡ exceeds l.i c d) × (l.under ≡ exceeds l.i d c)
    × (l.unequal ≡ differing (standing_of l.over l.under))
