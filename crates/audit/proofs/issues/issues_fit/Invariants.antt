-- `issues_fit` tests each issue. The loop's invariant: those passed are in order, and their reads
-- are counted.
-- Assumes nothing.
-- The words of the issues are there.
use mathlib.Core.Path.{◌≡◌}
use mathlib.Core.Bool.{So}
use Prim.Native.Nat.{◌*◌, ◌≤◌}
use Rattle.words.specs.Tests.{all_below}
use Rattle.records.specs.Format.{reads_before, issue_ok}
use Rattle.audit.proofs.issues.issues_fit.Given as goal

abbrev pub invariant-loop-i : goal.invariant-loop-i
invariant-loop-i l =
    (l.before ≡ reads_before l.words l.i) × (l.before ≤ l.i * 4294967295)
    × So (all_below l.i (issue_ok l.words))
