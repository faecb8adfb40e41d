-- The places passed hold the join.
use Rattle.std.proofs.Common.{◌≡◌, ◌≤◌}
use Rattle.words.specs.Words.{put}
use Rattle.clock.specs.Clock.{join, clock_at}
use Rattle.sheetdesk_c.proofs.clocks.raise.Given as goal

abbrev pub invariant-loop-i : goal.invariant-loop-i
invariant-loop-i l =
    (l.i ≤ l.w)
    × (l.target ≡ put l.fn.target 0 l.i (join (clock_at l.fn.target 0) (clock_at l.source 0)))
