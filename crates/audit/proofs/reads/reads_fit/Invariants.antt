-- `reads_fit` tests each issue's reads. The loop's invariant: the issues passed are counted, and
-- their reads are in order.
-- Assumes nothing.
use mathlib.Core.Bool.{So}
use Rattle.words.specs.Tests.{all_below}
use Rattle.records.specs.Format.{all_reads, read_ok}
use Rattle.audit.specs.Parts.{Ranked}
use Rattle.audit.proofs.reads.reads_fit.Given as goal

abbrev pub invariant-loop-i : goal.invariant-loop-i
invariant-loop-i l =
    Ranked l.words l.w l.i l.before
    × So (all_below l.i (λ j. all_reads l.words j (read_ok l.words j)))
