-- What is known of a record when a part of the audit begins, and what its arrays of counts hold.
-- HeaderOf, IssuesOf, ReadableOf: after the tests so far, with the counts that the header has.
-- counts_ok, areas_ok: the layout's test. KeysLow, KeysAmong: the keys of an issue's reads.
-- Ranked, Raised, Lowered, Least: arrays of a count for each writer.
-- counted, count_saved, save_counted: what is asked of a read.
-- Assumes nothing.
use Rattle.std.specs.Prelude.{◌≡◌, Bool, ◌&&◌, List, ℕ, ◌+◌, ◌*◌, ◌^◌, ◌≤◌, ◌<◌, max, eqb, leb, ltb, length, get_or}
use Rattle.std.proofs.Math.Bool.{So}
use Rattle.words.specs.Tests.{Items}
use Rattle.masks.specs.Mask.{test_bit}
use Rattle.clock.specs.Clock.{Clock, dominates, present}
use Rattle.model.specs.Algebra.{implies}
use Rattle.records.specs.Format.{Record, writers_in, issues_in, reads_in_of, issues_from, reads_from, total_in, read_at_of, key_of, clock_of, ReadOf, reads_before, issues_before, Layout, IssueReadable, Readable}

-- The layout's test behind that of the header's length, in two parts: the counts of keys and
-- writers, and where things stand.
unfoldable pub counts_ok : ℕ → ℕ → Bool
counts_ok k w = leb 1 k && (leb k 32 && (leb 1 w && leb w 16))

unfoldable pub areas_ok : Record → Bool
areas_ok b =
    eqb (issues_from b) 7 && (eqb (reads_from b) (7 + 4 * issues_in b)
    && (eqb (total_in b) (read_at_of b (reads_in_of b)) && leb (total_in b) (length b)))

-- The header is tested: w writers and n issues.
pub record HeaderOf (b : Record) (w n : ℕ) : Type 0 where
  pub layout : Layout b
  pub writers : w ≡ writers_in b
  pub issues : n ≡ issues_in b
  pub few : n < 2 ^ 32

-- The issues are tested too, but for the words of their reads.
pub record IssuesOf (b : Record) (w n : ℕ) : Type 0 where
  pub header : HeaderOf b w n
  pub issue : (i : ℕ) → i < n → IssueReadable b i
  pub every : reads_before b n ≡ reads_in_of b

-- All is tested.
pub record ReadableOf (b : Record) (w n : ℕ) : Type 0 where
  pub header : HeaderOf b w n
  pub readable : Readable b

-- Each key that issue i read is an item of a mask.
abbrev pub KeysLow : Record → ℕ → Type 0
KeysLow b i = (x : ℕ) → ReadOf b i x → key_of b x < 32

-- Each key that issue i read is in a mask.
abbrev pub KeysAmong : Record → ℕ → ℕ → Type 0
KeysAmong b i keys = (x : ℕ) → ReadOf b i x → So (test_bit keys (key_of b x))

-- 16 counts: for each writer the issues before issue i.
pub record Ranked (b : Record) (w i : ℕ) (l : List ℕ) : Type 0 where
  pub long : length l ≡ 16
  pub counts : (u : ℕ) → u < w → get_or l u 0 ≡ issues_before b i u

-- Each count of a writer below w became the larger of itself and a clock's.
pub record Raised (w : ℕ) (c : Clock) (l m : List ℕ) : Type 0 where
  pub counts : (u : ℕ) → u < w → get_or m u 0 ≡ max (get_or l u 0) (c u)

-- No count of a writer below w is above a clock's, unless that is 0, and none rose.
pub record Lowered (w : ℕ) (c : Clock) (l m : List ℕ) : Type 0 where
  pub fell : (u : ℕ) → u < w → get_or m u 0 ≤ get_or l u 0
  pub under : (u : ℕ) → u < w → 1 ≤ c u → get_or m u 0 ≤ c u

-- No count of a writer below w is above that of a read of issue i, unless that is 0.
abbrev pub Least : Record → ℕ → ℕ → List ℕ → Type 0
Least b w i l =
    (x : ℕ) → ReadOf b i x → (u : ℕ) → u < w → 1 ≤ clock_of b x u → get_or l u 0 ≤ clock_of b x u

-- Read x has a key below k and some count, none beyond those of a clock.
unfoldable pub counted : Record → ℕ → ℕ → Clock → Items
counted b k w before x =
    ltb (key_of b x) k && (present w (clock_of b x) && dominates w before (clock_of b x))

-- If read x counts up to the issue of writer u with this rank, the issue's mask has its key.
unfoldable pub count_saved : Record → ℕ → ℕ → ℕ → Items
count_saved b u mask rank x = implies (eqb rank (clock_of b x u)) (test_bit mask (key_of b x))

-- If the issue of writer u with this rank has read x's key in its mask, the read counts up to it.
unfoldable pub save_counted : Record → ℕ → ℕ → ℕ → Items
save_counted b u mask rank x = implies (test_bit mask (key_of b x)) (leb rank (clock_of b x u))
