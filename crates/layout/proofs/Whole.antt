-- The whole store: its words, and the way back.
-- FitStore: nothing stands outside of the counts. store_kept, store-back: words tied to a store.
-- to..: the words up to the end of an area, ..-long. written-..: what a written store leaves.
-- Assumes nothing.
use mathlib.Core.Path.{◌≡◌, refl, sym, ap, ap₂, ◌∙◌}
use mathlib.Core.Bool.{So}
use mathlib.Core.List.{List, ◌++◌}
use Prim.Native.Nat.{ℕ, ◌+◌, ◌≤◌}
use native.Mathlib.Nat.{zero-add}
use native.Mathlib.Omega.{arith}
use lib.ListN.{length, get_or, drop, length-append}
use lib.Seq.{drop_at}
use Rattle.words.specs.Lists.{window}
use Rattle.words.proofs.Lists.{append-same, window-add, window-all, window-front}
use Rattle.sizes.specs.declared.Counts.{Counts}
use Rattle.sizes.specs.Bounds.{Ranged, master_at, sites_at, writers_at, runs_at, tail_at, total_of}
use Rattle.model.specs.Algebra.{Place}
use Rattle.model.specs.Version.{Version}
use Rattle.model.specs.Tail.{Tail}
use Rattle.model.specs.Store.{Writer, Run, Site, Store}
use Rattle.layout.specs.Words.{header_words, place_words, sites_words, writers_words, runs_words, tail_words, store_words}
use Rattle.layout.specs.Reading.{read_word_of, counts_in, store_of}
use Rattle.layout.specs.Buffer.{written, shaped}
use Rattle.layout.proofs.Parts.{FitPlace, FitSites, FitWriters, place-laws, sites-laws, writers-laws}
use Rattle.layout.proofs.Runs.{FitRuns, runs-laws}
use Rattle.layout.proofs.Tail.{FitTail, tail-laws}
use Rattle.layout.proofs.Shapes.{shaped_out, shaped_in}

pub record FitStore (s : Store) : Type 0 where
  pub master : FitPlace s.counts s.master
  pub site : FitSites s.counts s.site
  pub writer : FitWriters s.counts s.writer
  pub run : FitRuns s.counts s.run
  pub tail : FitTail s.counts s.tail

-- ---- all words

-- The words up to the end of each area.
unfoldable pub to_master : Store → List ℕ
to_master s = header_words s.counts s.last ++ place_words s.counts s.master

unfoldable pub to_sites : Store → List ℕ
to_sites s = to_master s ++ sites_words s.counts s.site

unfoldable pub to_writers : Store → List ℕ
to_writers s = to_sites s ++ writers_words s.counts s.writer

unfoldable pub to_runs : Store → List ℕ
to_runs s = to_writers s ++ runs_words s.counts s.run

store-parts : (s : Store) → store_words s ≡ to_runs s ++ tail_words s.counts s.tail
unfolding store_words to_runs to_writers to_sites to_master
store-parts s = refl

-- Each of them is as long as the offset of the area behind it.
pub header-long : (s : Store) → length (header_words s.counts s.last) ≡ master_at s.counts
unfolding header_words master_at
header-long s = refl

joined : (a b : List ℕ) (m n : ℕ) → length a ≡ m → length b ≡ n → length (a ++ b) ≡ m + n
joined a b m n p q = length-append a b ∙ ap₂ ◌+◌ p q

pub master-long : (s : Store) → length (to_master s) ≡ sites_at s.counts
unfolding to_master sites_at
master-long s =
    let z = s.counts in
    joined (header_words z s.last) (place_words z s.master) _ _ (header-long s)
    ((place-laws z).long s.master)

pub sites_long : (s : Store) → length (to_sites s) ≡ writers_at s.counts
unfolding to_sites writers_at
sites_long s =
    let z = s.counts in
    joined (to_master s) (sites_words z s.site) _ _ (master-long s) ((sites-laws z).long s.site)

pub writers-long : (s : Store) → length (to_writers s) ≡ runs_at s.counts
unfolding to_writers runs_at
writers-long s =
    let z = s.counts in
    joined (to_sites s) (writers_words z s.writer) _ _ (sites_long s)
    ((writers-laws z).long s.writer)

pub runs-long : (s : Store) → length (to_runs s) ≡ tail_at s.counts
unfolding to_runs tail_at
runs-long s =
    let z = s.counts in
    joined (to_writers s) (runs_words z s.run) _ _ (writers-long s) ((runs-laws z).long s.run)

pub store_long : (s : Store) → length (store_words s) ≡ total_of s.counts
unfolding total_of
store_long s =
    let z = s.counts in
    ap length (store-parts s)
    ∙ joined (to_runs s) (tail_words z s.tail) _ _ (runs-long s) ((tail-laws z).long s.tail)

-- ---- words, read and written again

pub store-fits : (l : List ℕ) → FitStore (store_of l)
unfolding store_of
store-fits l =
    let z = counts_in l in
    record {
      master = (place-laws z).fits l (master_at z);
      site = (sites-laws z).fits l (sites_at z);
      writer = (writers-laws z).fits l (writers_at z);
      run = (runs-laws z).fits l (runs_at z);
      tail = (tail-laws z).fits l (tail_at z);
    }

-- One area more of a window that begins at 0.
next : (l x y : List ℕ) (m n : ℕ) → x ≡ window l 0 m → y ≡ window l m n
    → x ++ y ≡ window l 0 (m + n)
next l x y m n p q =
    rw (p, q)
    (ap (λ (j : ℕ). window l 0 m ++ window l j n) (sym (zero-add m)) ∙ sym (window-add l 0 m n))

-- Where the header is right, the words of the store that is read are the first words.
round : (l : List ℕ) → header_words (counts_in l) (read_word_of l 4) ≡ window l 0 10
    → store_words (store_of l) ≡ window l 0 (total_of (counts_in l))
unfolding store_words store_of total_of tail_at runs_at writers_at sites_at master_at
round l h =
    let z = counts_in l in
    let master = next l _ _ 10 _ h ((place-laws z).round l _) in
    let sites = next l _ _ _ _ master ((sites-laws z).round l _) in
    let writers = next l _ _ _ _ sites ((writers-laws z).round l _) in
    let runs = next l _ _ _ _ writers ((runs-laws z).round l _) in
    next l _ _ _ _ runs ((tail-laws z).round l _)

pub store_kept : (l : List ℕ) → So (shaped l) → written (store_of l) l ≡ l
unfolding written store_of
store_kept l p =
    let S = shaped_out l p in
    let n = total_of (counts_in l) in
    ap (λ (t : List ℕ). t ++ drop n l) (round l S.header) ∙ window-all l n S.fits

-- ---- a store, written and read again

-- A store by its parts.
abbrev store_with : Counts → ℕ → Place Version → (ℕ → Site) → (ℕ → Writer) → (ℕ → Run) → Tail
    → Store
store_with z n m o w r t =
    record { counts = z; last = n; master = m; site = o; writer = w; run = r; tail = t }

same-last : (z : Counts) (a b : ℕ) → header_words z a ≡ header_words z b → a ≡ b
unfolding header_words
same-last z a b e = ap (λ (l : List ℕ). get_or l 4 0) e

-- Stores in range that have the same counts and words are one.
alike : (z : Counts) (n₁ n₂ : ℕ) (m₁ m₂ : Place Version) (o₁ o₂ : ℕ → Site) (w₁ w₂ : ℕ → Writer)
    (r₁ r₂ : ℕ → Run) (t₁ t₂ : Tail)
    → let s = store_with z n₁ m₁ o₁ w₁ r₁ t₁ in let t = store_with z n₂ m₂ o₂ w₂ r₂ t₂ in
    FitStore s → FitStore t → store_words s ≡ store_words t → s ≡ t
unfolding to_runs to_writers to_sites to_master
alike z n₁ n₂ m₁ m₂ o₁ o₂ w₁ w₂ r₁ r₂ t₁ t₂ F G e =
    let s = store_with z n₁ m₁ o₁ w₁ r₁ t₁ in
    let t = store_with z n₂ m₂ o₂ w₂ r₂ t₂ in
    let g = append-same (to_runs s) (tail_words z t₁) (to_runs t) (tail_words z t₂)
    (runs-long s ∙ sym (runs-long t)) (sym (store-parts s) ∙ e ∙ store-parts t) in
    let a = append-same (to_writers s) (runs_words z r₁) (to_writers t) (runs_words z r₂)
    (writers-long s ∙ sym (writers-long t)) g.0 in
    let b = append-same (to_sites s) (writers_words z w₁) (to_sites t) (writers_words z w₂)
    (sites_long s ∙ sym (sites_long t)) a.0 in
    let c = append-same (to_master s) (sites_words z o₁) (to_master t) (sites_words z o₂)
    (master-long s ∙ sym (master-long t)) b.0 in
    let d = append-same (header_words z n₁) (place_words z m₁) (header_words z n₂) (place_words z
    m₂)
    (header-long s ∙ sym (header-long t)) c.0 in
    let n = same-last z n₁ n₂ d.0 in
    let p = (place-laws z).same m₁ m₂ F.master G.master d.1 in
    let q = (sites-laws z).same o₁ o₂ F.site G.site c.1 in
    let u = (writers-laws z).same w₁ w₂ F.writer G.writer b.1 in
    let v = (runs-laws z).same r₁ r₂ F.run G.run a.1 in
    let y = (tail-laws z).same t₁ t₂ F.tail G.tail g.1 in
    λ i. store_with z (n i) (p i) (q i) (u i) (v i) (y i)

header-back : (s : Store) (l : List ℕ)
    → header_words (counts_in (written s l)) (read_word_of (written s l) 4) ≡ window (written s l)
    0 10
unfolding written store_words header_words counts_in window
header-back s l = refl

pub counts-back : (s : Store) (l : List ℕ) → counts_in (written s l) ≡ s.counts
unfolding written store_words header_words counts_in
counts-back s l = refl

first-words : (s : Store) (l : List ℕ)
    → window (written s l) 0 (total_of s.counts) ≡ store_words s
unfolding written
first-words s l =
    let n = total_of s.counts in window-front (store_words s) (drop n l) n (store_long s)

words_back : (s : Store) (l : List ℕ) → store_words (store_of (written s l)) ≡ store_words s
words_back s l =
    round (written s l) (header-back s l)
    ∙ ap (λ (z : Counts). window (written s l) 0 (total_of z)) (counts-back s l) ∙ first-words s l

pub store-back : (s : Store) (l : List ℕ) → FitStore s → store_of (written s l) ≡ s
unfolding store_of counts_in written store_words header_words
store-back s l F =
    let t = store_of (written s l) in
    alike s.counts t.last s.last t.master s.master t.site s.site
    t.writer s.writer t.run s.run t.tail s.tail (store-fits (written s l)) F
    (words_back s l)

-- ---- what a written store leaves

-- The words past the total are as they were.
pub written-past : (s : Store) (l : List ℕ)
    → drop (total_of s.counts) (written s l) ≡ drop (total_of s.counts) l
unfolding written
written-past s l =
    let n = total_of s.counts in drop_at (store_words s) (drop n l) n (store_long s)

pub written_twice : (s t : Store) (l : List ℕ) → t.counts ≡ s.counts
    → written t (written s l) ≡ written t l
unfolding written
written_twice s t l e = ap (λ (r : List ℕ). store_words t ++ r) (rw e (written-past s l))

room : (s : Store) (l : List ℕ) → total_of s.counts ≤ length (written s l)
unfolding written
room s l = rw length-append (omega (arith, store_long s))

pub written-shaped : (s : Store) (l : List ℕ) → Ranged s.counts → So (shaped (written s l))
written-shaped s l R =
    shaped_in (written s l) (record {
      counts = rw (counts-back s l) R;
      header = header-back s l;
      fits = rw (counts-back s l) (room s l);
    })
