-- The test of header and length as a record of statements.
-- Shaped: the record. shaped_out, shaped_in: from the test and back.
-- Assumes nothing.
use mathlib.Core.Path.{◌≡◌, sym, ap}
use mathlib.Core.Bool.{So, ◌&&◌}
use mathlib.Core.List.{List, [], ◌∷◌}
use Prim.Native.Nat.{ℕ, ◌≤◌}
use native.Mathlib.Omega.{arith}
use lib.Dec.{eqb, leb}
use lib.ListN.{length, get_or}
use Rattle.words.specs.Lists.{window}
use Rattle.words.proofs.Bools.{and_intro, and_left, and_right, leb-le, le-leb, eqb-eq, eq-eqb}
use Rattle.sizes.specs.declared.Counts.{Counts}
use Rattle.sizes.specs.Bounds.{ranged, Ranged, master_at, sites_at, writers_at, runs_at, total_of}
use Rattle.sizes.proofs.Offsets.{ranged-out, ranged_in, ordered}
use Rattle.layout.specs.Words.{header_words}
use Rattle.layout.specs.Reading.{read_word_of, counts_in}
use Rattle.layout.specs.Buffer.{header_right, shaped}

pub record Shaped (l : List ℕ) : Type 0 where
  pub counts : Ranged (counts_in l)
  pub header : header_words (counts_in l) (read_word_of l 4) ≡ window l 0 10
  pub fits : total_of (counts_in l) ≤ length l

-- ---- the header

record Header (l : List ℕ) (z : Counts) : Type 0 where
  master : read_word_of l 5 ≡ master_at z
  sites : read_word_of l 6 ≡ sites_at z
  writers : read_word_of l 7 ≡ writers_at z
  runs : read_word_of l 8 ≡ runs_at z
  total : read_word_of l 9 ≡ total_of z

header-out : (l : List ℕ) (z : Counts) → So (header_right l z) → Header l z
unfolding header_right
header-out l z p =
    let m = eqb (read_word_of l 5) (master_at z) in
    let o = eqb (read_word_of l 6) (sites_at z) in
    let w = eqb (read_word_of l 7) (writers_at z) in
    let r = eqb (read_word_of l 8) (runs_at z) in
    let t = eqb (read_word_of l 9) (total_of z) in
    let p₁ = and_right m (o && (w && (r && t))) p in
    let p₂ = and_right o (w && (r && t)) p₁ in
    let p₃ = and_right w (r && t) p₂ in
    record {
      master = eqb-eq _ _ (and_left m (o && (w && (r && t))) p);
      sites = eqb-eq _ _ (and_left o (w && (r && t)) p₁);
      writers = eqb-eq _ _ (and_left w (r && t) p₂);
      runs = eqb-eq _ _ (and_left r t p₃);
      total = eqb-eq _ _ (and_right r t p₃);
    }

header_in : (l : List ℕ) (z : Counts) → Header l z → So (header_right l z)
unfolding header_right
header_in l z H =
    and_intro (eq-eqb _ _ H.master)
    (and_intro (eq-eqb _ _ H.sites)
    (and_intro (eq-eqb _ _ H.writers)
    (and_intro (eq-eqb _ _ H.runs) (eq-eqb _ _ H.total))))

header-words : (l : List ℕ) → Header l (counts_in l)
    → header_words (counts_in l) (read_word_of l 4) ≡ window l 0 10
unfolding header_words window counts_in
header-words l H =
    let m = sym H.master in
    let o = sym H.sites in
    let w = sym H.writers in
    let r = sym H.runs in
    let t = sym H.total in
    λ i. read_word_of l 0 ∷ read_word_of l 1 ∷ read_word_of l 2 ∷ read_word_of l 3 ∷ read_word_of
    l 4
    ∷ m i ∷ o i ∷ w i ∷ r i ∷ t i ∷ []

words-header : (l : List ℕ) → header_words (counts_in l) (read_word_of l 4) ≡ window l 0 10
    → Header l (counts_in l)
unfolding header_words window counts_in
words-header l e =
    record { master = at 5; sites = at 6; writers = at 7; runs = at 8; total = at 9 }
  where
    at : (i : ℕ) → get_or (window l 0 10) i 0 ≡ get_or (header_words (counts_in l)
        (read_word_of l 4)) i 0
    at i = ap (λ (m : List ℕ). get_or m i 0) (sym e)

-- ---- the whole test

pub shaped_out : (l : List ℕ) → So (shaped l) → Shaped l
unfolding shaped
shaped_out l p =
    let z = counts_in l in
    let h = header_right l z in
    let t = leb (total_of z) (length l) in
    let p₁ = and_right (leb 10 (length l)) (ranged z && (h && t)) p in
    let p₂ = and_right (ranged z) (h && t) p₁ in
    record {
      counts = ranged-out z (and_left (ranged z) (h && t) p₁);
      header = header-words l (header-out l z (and_left h t p₂));
      fits = leb-le _ _ (and_right h t p₂);
    }

long : (l : List ℕ) → Shaped l → 10 ≤ length l
long l S = let q = ordered (counts_in l) S.counts in omega (arith, S.fits)

pub shaped_in : (l : List ℕ) → Shaped l → So (shaped l)
unfolding shaped
shaped_in l S =
    let z = counts_in l in
    and_intro (le-leb 10 (length l) (long l S))
    (and_intro (ranged_in z S.counts)
    (and_intro (header_in l z (words-header l S.header))
    (le-leb (total_of z) (length l) S.fits)))
