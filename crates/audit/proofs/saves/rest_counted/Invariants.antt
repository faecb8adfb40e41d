-- `rest_counted` walks back. The loop's invariant: the test of what is left is that of the whole.
-- Assumes nothing.
use Rattle.std.proofs.Common.{◌≡◌}
use Rattle.words.specs.Tests.{all_below}
use Rattle.records.specs.Walk.{fine}
use Rattle.audit.specs.Parts.{Ranked}
use Rattle.audit.proofs.saves.rest_counted.Given as goal

abbrev pub invariant-loop-k : goal.invariant-loop-k
invariant-loop-k l =
    Ranked l.issue.words.now l.issue.w l.k l.ranks
    × (all_below l.k (fine l.issue.words.now l.issue.i)
    ≡ all_below l.j (fine l.issue.words.now l.issue.i))
