-- `each_read` tests each read. The loop's invariant: those passed pass, and the index is that of
-- the next.
-- Assumes nothing.
use Rattle.std.proofs.Common.{◌≡◌, ◌+◌, ℕ, Bool, true}
use Rattle.words.specs.Tests.{Items, all_below}
use Rattle.records.specs.Format.{first_at, read_at_of, ReadOf}
use Rattle.audit.specs.Steps.{read_of}
use Rattle.audit.proofs.reading.each_read.Given as goal

abbrev pub invariant-loop-r : goal.invariant-loop-r
invariant-loop-r g l = record {
  place : l.at ≡ read_at_of l.issue.words.now (first_at l.issue.words.now l.issue.i + l._r);
  passed : (p : Items)
      → ((x : ℕ) (t : Bool) → ReadOf l.issue.words.now l.issue.i x
      → goal.F-post g l.test (read_of l.issue.words.now x) t → t ≡ p x)
      → all_below l._r (λ r. p (first_at l.issue.words.now l.issue.i + r)) ≡ true;
}
