-- `combine` puts each count together with another. The loop's invariant: those passed are, and the
-- others are as they were.
-- Assumes nothing.
use Rattle.std.proofs.Common.{◌≡◌, ℕ, ◌+◌, ◌≤◌, ◌<◌, length, get_or}
use Rattle.audit.proofs.counts.combine.Given as goal

abbrev pub invariant-loop-u : goal.invariant-loop-u
invariant-loop-u g l = record {
  long : length l.counts ≡ 16;
  passed : (v : ℕ) → v < l.u
      → goal.F-post g l.join (get_or l.fn.counts v 0) (get_or l.words (l.at + v) 0)
      (get_or l.counts v 0);
  left : (v : ℕ) → l.u ≤ v → get_or l.counts v 0 ≡ get_or l.fn.counts v 0;
}
