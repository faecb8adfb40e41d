-- The record of a history, read back (CR 14).
-- Begins: words of a list from an index on. ..-length: how many words there are.
-- words, the-..: the words of an issue. key-is, counts-are: its reads.
-- Assumes nothing.
use mathlib.Core.Path.{◌≡◌, refl, sym, ◌∙◌}
use mathlib.Core.Bool.{So, cond}
use mathlib.Core.List.{List, [], ◌∷◌, ◌++◌}
use Prim.Native.Nat.{ℕ, zero, suc, ◌+◌, ◌*◌, ◌<◌}
use native.Mathlib.Omega.{arith}
use native.Mathlib.Nat.{not-suc-le-zero}
use lib.ListN.{length, get_or, length-append, get_or-append}
use Rattle.words.specs.Numbers.{count_below, when}
use Rattle.words.proofs.Bools.{test}
use Rattle.words.proofs.Tests.{below-cases}
use Rattle.clock.specs.Clock.{Clock}
use Rattle.history.specs.History.{Issue, History}
use Rattle.words.specs.Tests.{Items}
use Rattle.masks.specs.Mask.{mask_below}
use Rattle.records.specs.Format.{Record, keys_in, writers_in, issues_in, writer_at, mask_at, first_at, number_at, read_at_of, key_of, clock_of, reads_before}
use Rattle.records.specs.Own.{had_read, number_of, reads_up_to, row_words, read_words, keys_words, issues_words, reads_words, own_row}

-- The words of l from index at on begin with m.
abbrev pub Begins : List ℕ → ℕ → List ℕ → Type 0
Begins l at m = (k : ℕ) → k < length m → get_or l (at + k) 0 ≡ get_or m k 0

get-behind : (a b : List ℕ) (k : ℕ) → get_or (a ++ b) (length a + k) 0 ≡ get_or b k 0
get-behind [] b k = let e : 0 + k ≡ k = omega arith in rw e
get-behind (x ∷ a) b k =
    let e : suc (length a) + k ≡ suc (length a + k) = omega arith in
    rw e (get-behind a b k)

pub begins-left : (l : List ℕ) (at : ℕ) (a b : List ℕ) → Begins l at (a ++ b) → Begins l at a
begins-left l at a b f k h =
    f k (rw (length-append) (omega arith)) ∙ get_or-append a b 0 k h

pub begins-right : (l : List ℕ) (at n : ℕ) (a b : List ℕ) → length a ≡ n → Begins l at (a ++ b)
    → Begins l (at + n) b
begins-right l at n a b z f k h =
    let e : at + n + k ≡ at + (length a + k) = omega arith in
    rw e (f (length a + k) (rw (length-append) (omega arith)) ∙ get-behind a b k)

module _ (K W : ℕ) where
  row-length : (n : ℕ) (c : Clock) → length (row_words K W n c) ≡ n
  unfolding row_words
  row-length zero c = refl
  row-length (suc n) c = rw (length-append, row-length n c) (omega arith)

  row-at : (l : List ℕ) (at n : ℕ) (c : Clock) → Begins l at (row_words K W n c)
      → (u : ℕ) → u < n → get_or l (at + u) 0 ≡ c u
  unfolding row_words
  row-at l at zero c f u h = absurd (not-suc-le-zero h)
  row-at l at (suc n) c f u h =
      below-cases u n h
      (λ e.
      let a = row_words K W n c in
      let g = begins-right l at n a (c n ∷ []) (row-length n c) f 0 (omega arith) in
      let z : at + u ≡ at + n + 0 = omega arith in
      rw (z, e) g)
      (λ k. row-at l at n c (begins-left l at (row_words K W n c) (c n ∷ []) f) u k)

  read_length : (h : History) (e : Issue) (d : ℕ) → length (read_words K W h e d) ≡ 1 + W
  unfolding read_words
  read_length h e d = omega (arith, row-length W (own_row K W h (e.read d)))

  keys_length : (h : History) (e : Issue) (n : ℕ)
      → length (keys_words K W h e n) ≡ count_below n (had_read K W h e) * (1 + W)
  unfolding keys_words count_below when
  keys_length h e zero = omega arith
  keys_length h e (suc d) =
      test (had_read K W h e d)
      (λ y. rw (y, length-append, read_length h e d, keys_length h e d) (omega arith))
      (λ z. rw (z, length-append, keys_length h e d) (omega arith))

  -- The read of sheet d stands behind those of the smaller ones.
  key-at : (l : List ℕ) (at : ℕ) (h : History) (e : Issue) (n : ℕ)
      → Begins l at (keys_words K W h e n) → (d : ℕ) → d < n → So (had_read K W h e d)
      → Begins l (at + count_below d (had_read K W h e) * (1 + W)) (read_words K W h e d)
  unfolding keys_words
  key-at l at h e zero f d o p = absurd (not-suc-le-zero o)
  key-at l at h e (suc n) f d o p =
      let a = keys_words K W h e n in
      let c = cond (had_read K W h e n) (read_words K W h e n) [] in
      below-cases d n o
      (λ z.
      let y : So (had_read K W h e n) = rw z at p in
      let g : Begins l (at + count_below n (had_read K W h e) * (1 + W)) c =
      begins-right l at (count_below n (had_read K W h e) * (1 + W)) a c (keys_length h e n) f in
      rw z (rw y at g))
      (λ k. key-at l at h e n (begins-left l at a c f) d k p)

  pub issues-length : (h : History) → length (issues_words K W h) ≡ 4 * length h
  unfolding issues_words
  issues-length [] = omega arith
  issues-length (e ∷ h) = rw (length-append, issues-length h) (omega arith)

  pub reads-length : (h : History) → length (reads_words K W h) ≡ reads_up_to K W h * (1 + W)
  unfolding reads_words reads_up_to number_of
  reads-length [] = omega arith
  reads-length (e ∷ h) =
      rw (length-append, reads-length h, keys_length h e K) (omega arith)

-- ---- one issue

module _ (b : Record) (e : Issue) (h : History)
    (f : Begins b 7 (issues_words (keys_in b) (writers_in b) (e ∷ h)))
    (g : Begins b (7 + 4 * issues_in b) (reads_words (keys_in b) (writers_in b) (e ∷ h)))
    (q : reads_before b (length h) ≡ reads_up_to (keys_in b) (writers_in b) h) where
  pub words : (k : ℕ) → k < 4
      → get_or b (7 + 4 * length h + k) 0
      ≡ get_or (e.writer ∷ mask_below (keys_in b) e.keys ∷ reads_up_to (keys_in b) (writers_in b) h
      ∷ number_of (keys_in b) (writers_in b) h e ∷ []) k 0
  unfolding issues_words
  words =
      begins-right b 7 (4 * length h) (issues_words (keys_in b) (writers_in b) h) _
      (issues-length (keys_in b) (writers_in b) h) f

  pub the-writer : writer_at b (length h) ≡ e.writer
  unfolding writer_at
  the-writer =
      let z : 7 + 4 * length h ≡ 7 + 4 * length h + 0 = omega arith in
      rw z (words 0 (omega arith))

  pub the-mask : mask_at b (length h) ≡ mask_below (keys_in b) e.keys
  unfolding mask_at
  the-mask = words 1 (omega arith)

  pub the-first : first_at b (length h) ≡ reads_before b (length h)
  unfolding first_at
  the-first = words 2 (omega arith) ∙ sym q

  pub the_number : number_at b (length h) ≡ number_of (keys_in b) (writers_in b) h e
  unfolding number_at
  the_number = words 3 (omega arith)

  abbrev pub had : Items
  had = had_read (keys_in b) (writers_in b) h e

  abbrev pub read_of : (d : ℕ) → ℕ
  read_of d = first_at b (length h) + count_below d had

  the-read : (d : ℕ) → d < keys_in b → So (had d)
      → Begins b (read_at_of b (read_of d)) (read_words (keys_in b) (writers_in b) h e d)
  unfolding reads_words read_at_of
  the-read d l p =
      let K = keys_in b in
      let W = writers_in b in
      let at = 7 + 4 * issues_in b in
      let n = reads_up_to K W h * (1 + W) in
      let r = count_below d (had_read K W h e) in
      let all = begins-right b at n (reads_words K W h) (keys_words K W h e K)
      (reads-length K W h) g in
      let one = key-at K W b (at + n) h e K all d l p in
      let z : at + (first_at b (length h) + r) * (1 + W) ≡ at + n + r * (1 + W) =
      rw (the-first, q) (omega arith) in
      rw z one

  pub key-is : (d : ℕ) → d < keys_in b → So (had d) → key_of b (read_of d) ≡ d
  unfolding key_of read_words
  key-is d l p =
      let z : read_at_of b (read_of d) ≡ read_at_of b (read_of d) + 0 = omega arith in
      rw z (the-read d l p 0 (omega arith))

  pub counts-are : (d : ℕ) → d < keys_in b → So (had d) → (u : ℕ) → u < writers_in b
      → clock_of b (read_of d) u ≡ own_row (keys_in b) (writers_in b) h (e.read d) u
  unfolding clock_of read_words
  counts-are d l p u o =
      let K = keys_in b in
      let W = writers_in b in
      let row = own_row K W h (e.read d) in
      row-at K W b (read_at_of b (read_of d) + 1) W row
      (λ k m.
      let z : read_at_of b (read_of d) + 1 + k ≡ read_at_of b (read_of d) + suc k = omega arith in
      rw z (the-read d l p (suc k) (omega arith))) u o
