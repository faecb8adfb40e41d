-- `walk_back` visits each earlier issue, until the counts reach all that are left. The loop's
-- invariant: the walk that is left is the whole.
-- Assumes nothing.
use Rattle.std.proofs.Common.{◌≡◌}
use Rattle.clock.specs.Clock.{clock_at}
use Rattle.records.specs.Walk.{walk}
use Rattle.audit.specs.Parts.{Ranked}
use Rattle.audit.proofs.walk.walk_back.Given as goal

abbrev pub invariant-loop-j : goal.invariant-loop-j
invariant-loop-j l =
    Ranked l.issue.words.now l.issue.w l.j l.ranks
    × (walk l.issue.words.now l.issue.i l.j (clock_at l.reach 0)
    ≡ walk l.issue.words.now l.issue.i l.issue.i (clock_at l.fn.reach 0))
