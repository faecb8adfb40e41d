-- `counts_saved` walks back. The loop's invariant: the test of what is left is that of the whole.
-- Assumes nothing.
use Rattle.std.proofs.Common.{◌≡◌, ℕ}
use Rattle.words.specs.Tests.{Items, all_below}
use Rattle.records.specs.Format.{Record, writer_at, mask_at, all_reads, rank}
use Rattle.audit.specs.Parts.{Ranked, count_saved}
use Rattle.audit.proofs.reads.counts_saved.Given as goal

abbrev pub saved_by : Record → ℕ → Items
saved_by b i j = all_reads b i (count_saved b (writer_at b j) (mask_at b j) (rank b j))

abbrev pub invariant-loop-j : goal.invariant-loop-j
invariant-loop-j l =
    Ranked l.issue.words.now l.issue.w l.j l.ranks
    × (all_below l.j (saved_by l.issue.words.now l.issue.i)
    ≡ all_below l.issue.i (saved_by l.issue.words.now l.issue.i))
