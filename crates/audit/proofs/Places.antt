-- Where the issues and reads of a record stand.
-- header_in: the issues. issue-..: their test. read-..: the reads of an issue. handed: what a
-- reader hands out there.
-- Assumes nothing.
use mathlib.Core.Path.{◌≡◌, refl, sym, ap, ◌∙◌}
use mathlib.Core.Bool.{true, false}
use Prim.Native.Nat.{ℕ, zero, suc, ◌+◌, ◌*◌, ◌^◌, ◌≤◌, ◌<◌}
use native.Mathlib.Omega.{arith}
use native.Mathlib.Numerals.{add-one}
use native.Mathlib.Nat.{suc-mul, not-suc-le-zero}
use lib.Dec.{eqb}
use lib.ListN.{length}
use Rattle.words.specs.Tests.{Items, all_below}
use Rattle.words.proofs.Bools.{le-leb, gt-leb, lt-ltb, ge-ltb}
use Rattle.words.proofs.Tests.{below-cases}
use Rattle.words.proofs.Slots.{slot-end}
use Rattle.clock.specs.Clock.{clock_at}
use Rattle.records.specs.Format.{Record, keys_in, writers_in, reads_in_of, writer_at, mask_at, first_at, number_at, read_at_of, key_of, clock_of, ReadOf, all_reads, reads_before, Readable, issue_ok}
use Rattle.std.proofs.Common.{Option, Some, None}
use Rattle.reader.specs.declared.Read.{Read}
use Rattle.reader.specs.Reads.{read_from_of}
use Rattle.audit.specs.declared.issues.Issue.{Issue}
use Rattle.audit.specs.Parts.{HeaderOf, IssuesOf, ReadableOf, KeysLow}
use Rattle.audit.specs.Steps.{read_of}

pub header_in : (b : Record) (w n : ℕ) → HeaderOf b w n → 7 + 4 * n ≤ length b
unfolding read_at_of
header_in b w n H = omega (arith, H.layout.total, H.layout.fits, H.issues)

pub writers_16 : (b : Record) (w n : ℕ) → HeaderOf b w n → w ≤ 16
writers_16 b w n H = omega (arith, H.layout.writers.1, H.writers)

pub readable-issues : (b : Record) (w n : ℕ) → ReadableOf b w n → IssuesOf b w n
readable-issues b w n R = record {
  header = R.header;
  issue = λ i l. R.readable.issue i (omega (arith, R.header.issues));
  every = ap (reads_before b) R.header.issues ∙ R.readable.every;
}

-- The keys of an issue's reads are items of a mask.
pub readable-keys : (b : Record) (w n : ℕ) → ReadableOf b w n → (i : ℕ) → i < n → KeysLow b i
readable-keys b w n R i l x m =
    omega (
      arith,
      (R.readable.reads i (omega (arith, R.header.issues)) x m).key,
      R.header.layout.keys.1,
    )

-- ---- the test of an issue

pub issue_strange : (b : Record) (i : ℕ) → writers_in b ≤ writer_at b i → false ≡ issue_ok b i
unfolding issue_ok
issue_strange b i h = rw (ge-ltb (writer_at b i) (writers_in b) h)

pub issue-empty : (b : Record) (i : ℕ) → writer_at b i < writers_in b → mask_at b i < 1
    → false ≡ issue_ok b i
unfolding issue_ok
issue-empty b i w h = rw (lt-ltb (writer_at b i) (writers_in b) w, gt-leb 1 (mask_at b i) h)

pub issue-wide : (b : Record) (i : ℕ) → writer_at b i < writers_in b → 1 ≤ mask_at b i
    → 2 ^ keys_in b ≤ mask_at b i → false ≡ issue_ok b i
unfolding issue_ok
issue-wide b i w s h =
    rw (
      lt-ltb (writer_at b i) (writers_in b) w,
      le-leb 1 (mask_at b i) s,
      ge-ltb (mask_at b i) (2 ^ keys_in b) h,
    )

pub issue-last : (b : Record) (i : ℕ) → writer_at b i < writers_in b → 1 ≤ mask_at b i
    → mask_at b i < 2 ^ keys_in b → eqb (first_at b i) (reads_before b i) ≡ issue_ok b i
unfolding issue_ok
issue-last b i w s h =
    rw (
      lt-ltb (writer_at b i) (writers_in b) w,
      le-leb 1 (mask_at b i) s,
      lt-ltb (mask_at b i) (2 ^ keys_in b) h,
    )

pub before_more : (b : Record) (i : ℕ) → reads_before b (i + 1) ≡ reads_before b i + number_at b i
unfolding reads_before
before_more b i = rw (add-one i)

-- ---- reads

before-next : (b : Record) (i n : ℕ) → i < n → reads_before b i + number_at b i ≤ reads_before b n
unfolding reads_before
before-next b i zero h = absurd (not-suc-le-zero h)
before-next b i (suc n) h =
    below-cases i n h (λ e. rw e (omega arith)) (λ m. omega (arith, before-next b i n m))

-- An issue without reads passes every test of them.
pub reads_none : (b : Record) (i : ℕ) (p : Items) → number_at b i ≡ 0 → true ≡ all_reads b i p
unfolding all_reads all_below
reads_none b i p e = rw e

-- Read r of issue i is one of the record's.
pub read-few : (b : Record) (w n : ℕ) → IssuesOf b w n → (i r : ℕ) → i < n → r < number_at b i
    → first_at b i + r < reads_in_of b
read-few b w n S i r h k =
    omega (arith, before-next b i n h, (S.issue i h).first, S.every)

pub read_next : (b : Record) (x : ℕ) → read_at_of b (suc x) ≡ read_at_of b x + 1 + writers_in b
unfolding read_at_of
read_next b x = omega (arith, suc-mul x (1 + writers_in b))

read-end : (b : Record) (w n : ℕ) → HeaderOf b w n → (x : ℕ) → x < reads_in_of b
    → read_at_of b x + 1 + writers_in b ≤ length b
unfolding read_at_of
read-end b w n H x h =
    omega (
      arith,
      slot-end x (reads_in_of b) (1 + writers_in b) h,
      H.layout.total,
      H.layout.fits,
    )

pub read_in : (b : Record) (w n : ℕ) → IssuesOf b w n → (i r at : ℕ) → i < n → r < number_at b i
    → at ≡ read_at_of b (first_at b i + r) → at + 1 + w ≤ length b
read_in b w n S i r at h k e =
    omega (
      arith,
      read-end b w n S.header (first_at b i + r) (read-few b w n S i r h k),
      S.header.writers,
      e,
    )

pub read-onward : (b : Record) (i r : ℕ)
    → read_at_of b (first_at b i + r) + 1 + writers_in b ≡ read_at_of b (first_at b i + (r + 1))
read-onward b i r =
    let x = first_at b i + r in
    let s : first_at b i + (r + 1) ≡ suc x = omega arith in
    rw s (omega (arith, read_next b x))

pub handed : (b : Record) (w n : ℕ) → IssuesOf b w n → (i r at : ℕ) → i < n → r < number_at b i
    → at ≡ read_at_of b (first_at b i + r)
    → read_from_of b at w ≡ Some (read_of b (first_at b i + r))
unfolding read_from_of key_of
handed b w n S i r at h k e =
    let l : at + w < length b = omega (arith, read_in b w n S i r at h k e) in
    rw (lt-ltb (at + w) (length b) l, e, S.header.writers)

pub counts-are : (b : Record) (x u : ℕ) → clock_at b (read_at_of b x + 1) u ≡ clock_of b x u
unfolding clock_at clock_of
counts-are b x u = refl

-- The first one.
pub read_first : (b : Record) (i at : ℕ) → at ≡ read_at_of b (first_at b i)
    → at ≡ read_at_of b (first_at b i + 0)
read_first b i at e =
    let z : first_at b i ≡ first_at b i + 0 = omega arith in
    e ∙ ap (read_at_of b) z

-- ---- of an issue in order

module _ (s : Issue) where
  -- The words of a read are there.
  pub inside-read : (x : ℕ) → ReadOf s.words.now s.i x → read_at_of s.words.now x + 1 + s.w
      ≤ length s.words.now
  inside-read x m =
      rw m.2 (read_in s.words.now s.w s.n s.in_order.0 s.i m.0 _ s.in_order.1 m.1 refl)

  -- The writer of an issue up to it is one of the record's.
  pub writer-low : (j : ℕ) → j ≤ s.i → writer_at s.words.now j < s.w
  writer-low j h =
      omega (
        arith,
        (s.in_order.0.issue j (omega (arith, s.in_order.1))).writer,
        s.in_order.0.header.writers,
      )

  pub issue-keys : Readable s.words.now → KeysLow s.words.now s.i
  issue-keys R =
      readable-keys s.words.now s.w s.n (record { header = s.in_order.0.header; readable = R }) s.i
      s.in_order.1

  -- What is handed out as read r, at its index.
  module _ (r at : ℕ) (k : r < number_at s.words.now s.i)
      (e : at ≡ read_at_of s.words.now (first_at s.words.now s.i + r)) (h : Option Read)
      (f : h ≡ read_from_of s.words.now at s.w) where
    is-handed : h ≡ Some (read_of s.words.now (first_at s.words.now s.i + r))
    is-handed = f ∙ handed s.words.now s.w s.n s.in_order.0 s.i r at s.in_order.1 k e

    pub handed-is : (x : Read) → h ≡ Some x
        → x ≡ read_of s.words.now (first_at s.words.now s.i + r)
    handed-is x g =
        let q : Some x ≡ Some (read_of s.words.now (first_at s.words.now s.i + r)) =
        sym g ∙ is-handed in cc

    pub handed-end : h ≡ None → ⊥
    handed-end g =
        let q : None ≡ Some (read_of s.words.now (first_at s.words.now s.i + r)) =
        sym g ∙ is-handed in cc
