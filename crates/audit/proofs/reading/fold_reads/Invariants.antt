-- `fold_reads` steps from read to read. The loop's invariant: the value is what the steps so far
-- make, and the index is that of the next read.
-- Assumes nothing.
use Rattle.std.proofs.Common.{◌≡◌, ◌+◌}
use Rattle.records.specs.Format.{first_at, read_at_of}
use Rattle.audit.specs.Steps.{read_of, InPlace, Folds}
use Rattle.audit.proofs.reading.fold_reads.Given as goal

abbrev pub invariant-loop-r : goal.invariant-loop-r
invariant-loop-r g l = record {
  place : l.at ≡ read_at_of l.issue.words.now (first_at l.issue.words.now l.issue.i + l._r);
  folded : Folds
      (λ r. InPlace (λ t s.
      goal.F-post g l.step t
      (read_of l.issue.words.now (first_at l.issue.words.now l.issue.i + r)) tt s))
      l._r l.fn.value l.value;
}
