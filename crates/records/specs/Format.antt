-- A record of issues (CR 14): words, what stands where, and which records are readable.
-- ..In, ..From: the header. ..At: an issue. read_at_of, key_of, clock_of: a read. reads_before,
-- issues_before, rank: counted up to an issue.
-- Readable: what the request asks, sentence by sentence. readable: the same as a test
-- (proofs/Reading has the equivalence).
-- Issues and reads are counted from 0. Sums are of natural numbers: nothing wraps.
-- Assumes nothing.
use Rattle.std.specs.Prelude.{◌≡◌, Bool, not, ◌&&◌, List, ◌≢◌, ℕ, zero, suc, ◌+◌, ◌*◌, ◌^◌, ◌≤◌, ◌<◌, eqb, leb, ltb, length, get_or}
use Rattle.std.proofs.Math.Bool.{So}
use Rattle.words.specs.Tests.{Items, any_below, all_below}
use Rattle.words.specs.Numbers.{count_below}
use Rattle.masks.specs.Mask.{test_bit}
use Rattle.clock.specs.Clock.{Clock}
use Rattle.model.specs.Algebra.{implies}

abbrev pub Record : Type 0
Record = List ℕ

-- ---- "header K, W, number of issues, number of reads, offset of issues, offset of reads, total"

unfoldable pub keys_in : Record → ℕ
keys_in b = get_or b 0 0

unfoldable pub writers_in : Record → ℕ
writers_in b = get_or b 1 0

unfoldable pub issues_in : Record → ℕ
issues_in b = get_or b 2 0

unfoldable pub reads_in_of : Record → ℕ
reads_in_of b = get_or b 3 0

unfoldable pub issues_from : Record → ℕ
issues_from b = get_or b 4 0

unfoldable pub reads_from : Record → ℕ
reads_from b = get_or b 5 0

unfoldable pub total_in : Record → ℕ
total_in b = get_or b 6 0

-- ---- "An issue is writer, saved mask, first read .. and number of reads"

unfoldable pub writer_at : Record → ℕ → ℕ
writer_at b i = get_or b (7 + 4 * i) 0

unfoldable pub mask_at : Record → ℕ → ℕ
mask_at b i = get_or b (7 + 4 * i + 1) 0

unfoldable pub first_at : Record → ℕ → ℕ
first_at b i = get_or b (7 + 4 * i + 2) 0

unfoldable pub number_at : Record → ℕ → ℕ
number_at b i = get_or b (7 + 4 * i + 3) 0

-- Issue i saved sheet d.
abbrev pub saved_at : Record → ℕ → Items
saved_at b i = test_bit (mask_at b i)

-- ---- "A read is a sheet and W counts": read x

unfoldable pub read_at_of : Record → ℕ → ℕ
read_at_of b x = 7 + 4 * issues_in b + x * (1 + writers_in b)

unfoldable pub key_of : Record → ℕ → ℕ
key_of b x = get_or b (read_at_of b x) 0

unfoldable pub clock_of : Record → ℕ → Clock
clock_of b x u = get_or b (read_at_of b x + 1 + u) 0

-- Read x is one of issue i.
abbrev pub ReadOf : Record → ℕ → ℕ → Type 0
ReadOf b i x = (r : ℕ) × (r < number_at b i) × (x ≡ first_at b i + r)

-- Each read, some read of issue i passes.
unfoldable pub all_reads : Record → ℕ → Items → Bool
all_reads b i p = all_below (number_at b i) (λ r. p (first_at b i + r))

unfoldable pub any_read : Record → ℕ → Items → Bool
any_read b i p = any_below (number_at b i) (λ r. p (first_at b i + r))

-- ---- counted

-- The reads of the issues before i.
unfoldable pub reads_before : Record → ℕ → ℕ
reads_before b zero = 0
reads_before b (suc i) = reads_before b i + number_at b i

-- Issue i is by writer u.
unfoldable pub is_by : Record → ℕ → Items
is_by b u i = eqb (writer_at b i) u

-- The issues by writer u before issue i.
unfoldable pub issues_before : Record → ℕ → Clock
issues_before b i u = count_below i (is_by b u)

-- "the issue of that writer so counted": the count of issue j, by its own writer.
unfoldable pub rank : Record → ℕ → ℕ
rank b j = issues_before b (suc j) (writer_at b j)

-- ---- readable

-- The layout: "issues from word 7, reads straight after, .. then the total; the buffer may go on
-- past it".
pub record Layout (b : Record) : Type 0 where
  pub header : 7 ≤ length b
  pub keys : (1 ≤ keys_in b) × (keys_in b ≤ 32)
  pub writers : (1 ≤ writers_in b) × (writers_in b ≤ 16)
  pub issues-from : issues_from b ≡ 7
  pub reads-from : reads_from b ≡ 7 + 4 * issues_in b
  pub total : total_in b ≡ read_at_of b (reads_in_of b)
  pub fits : total_in b ≤ length b

-- Issue i: "an empty saved mask, a bit at K or above, .. a writer .. out of range"; "reads of an
-- issue lie together, in issue order, without gaps".
pub record IssueReadable (b : Record) (i : ℕ) : Type 0 where
  pub writer : writer_at b i < writers_in b
  pub some : 1 ≤ mask_at b i
  pub mask : mask_at b i < 2 ^ keys_in b
  pub first : first_at b i ≡ reads_before b i

-- Read x of issue i: "a sheet out of range", "a read of zeros only", "a count beyond the writer's
-- issues before the reading one, or one other than 0 whose issue didn't save that sheet": a rank
-- is at least 1, so a count of 0 asks for nothing.
pub record ReadReadable (b : Record) (i x : ℕ) : Type 0 where
  pub key : key_of b x < keys_in b
  pub some : (u : ℕ) × (u < writers_in b) × (clock_of b x u ≢ 0)
  pub counted : (u : ℕ) → u < writers_in b → clock_of b x u ≤ issues_before b i u
  pub saved : (j : ℕ) → j < i → rank b j ≡ clock_of b x (writer_at b j)
      → So (saved_at b j (key_of b x))

pub record Readable (b : Record) : Type 0 where
  pub layout : Layout b
  pub issue : (i : ℕ) → i < issues_in b → IssueReadable b i
  -- "each in one issue"
  pub every : reads_before b (issues_in b) ≡ reads_in_of b
  pub reads : (i : ℕ) → i < issues_in b → (x : ℕ) → ReadOf b i x → ReadReadable b i x

-- ---- the same as a test

unfoldable pub layout_ok : Record → Bool
layout_ok b =
    leb 7 (length b) && (leb 1 (keys_in b) && (leb (keys_in b) 32 && (leb 1 (writers_in b)
    && (leb (writers_in b) 16 && (eqb (issues_from b) 7 &&
    (eqb (reads_from b) (7 + 4 * issues_in b)
    && (eqb (total_in b) (read_at_of b (reads_in_of b)) && leb (total_in b) (length b))))))))

unfoldable pub issue_ok : Record → ℕ → Bool
issue_ok b i =
    ltb (writer_at b i) (writers_in b) && (leb 1 (mask_at b i) &&
    (ltb (mask_at b i) (2 ^ keys_in b)
    && eqb (first_at b i) (reads_before b i)))

unfoldable pub read_ok : Record → ℕ → ℕ → Bool
read_ok b i x =
    ltb (key_of b x) (keys_in b) && (any_below (writers_in b) (λ u. not (eqb (clock_of b x u) 0))
    && (all_below (writers_in b) (λ u. leb (clock_of b x u) (issues_before b i u))
    && all_below i (λ j.
    implies (eqb (rank b j) (clock_of b x (writer_at b j))) (saved_at b j (key_of b x)))))

unfoldable pub readable : Record → Bool
readable b =
    layout_ok b && (all_below (issues_in b) (issue_ok b)
    && (eqb (reads_before b (issues_in b)) (reads_in_of b)
    && all_below (issues_in b) (λ i. all_reads b i (read_ok b i))))
