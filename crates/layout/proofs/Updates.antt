-- A store of words into one part of a written store, as a change of the store.
-- put-..-part: within one site or writer, or the tail. put-..: a whole part, or words of it.
-- put-twice, phase: one change after another. Of runs: RunUpdates.
-- Assumes nothing.
use mathlib.Core.Path.{◌≡◌, refl, sym, ap, ◌∙◌, fun_ext}
use mathlib.Core.Bool.{Bool, true, false, cond}
use mathlib.Core.List.{List, [], ◌∷◌, ◌++◌}
use Prim.Native.Nat.{ℕ, ◌+◌, ◌≤◌, ◌<◌}
use native.Mathlib.Nat.{add-zero}
use native.Mathlib.Omega.{arith}
use lib.Dec.{eqb}
use lib.ListN.{length, set}
use lib.Seq.{sets}
use Rattle.words.specs.Lists.{put_at}
use Rattle.words.proofs.Stores.{sets-left, sets_behind, sets-all}
use Rattle.words.proofs.Lists.{put_at_same}
use Rattle.sizes.specs.Bounds.{place_size, site_size, writer_size, master_at, site_at, stale_at, allowance_at, tail_size, tail_at, round_at_of, may_hold_at, may_save_at, writer_at}
use Rattle.model.specs.Algebra.{Place}
use Rattle.model.specs.Version.{Version}
use Rattle.model.specs.Marks.{stale_mask}
use Rattle.model.specs.Tail.{Tail, tail_round, tail_hold, tail_save}
use Rattle.model.specs.Store.{Writer, Site, Store, with_last, with_master, with_sites, with_site, site_cached, site_marked, site_allowed, site_with, with_cache, with_writer, with_tail_of, with_round, with_may_hold, with_may_save}
use Rattle.layout.specs.Words.{header_words, place_words, site_words, sites_words, writer_words, writers_words, tail_words, store_words}
use Rattle.layout.specs.Buffer.{written}
use Rattle.layout.specs.Reading.{store_of}
use Rattle.layout.proofs.Parts.{place-laws, site-laws, writer-laws}
use Rattle.layout.proofs.Tail.{tail-laws, tail-round, tail-hold, tail-save}
use Rattle.layout.proofs.Whole.{FitStore, store-back, written_twice}
use Rattle.layout.proofs.Views.{put-area, put-row-part, master-area, sites-area, writers-area, tail-area}

-- ---- the last number, the master and the words of the tail

pub put_last : (s : Store) (l : List ℕ) (n : ℕ) → set (written s l) 4 n ≡ written (with_last s n) l
unfolding with_last written store_words header_words
put_last s l n = refl

pub put-master : (s : Store) (l : List ℕ) (p : Place Version)
    → sets (written s l) (master_at s.counts) (place_words s.counts p)
    ≡ written (with_master s p) l
unfolding with_master
put-master s l p =
    let z = s.counts in
    let old = place_words z s.master in
    let same : length (place_words z p) ≡ length old =
    (place-laws z).long p ∙ sym ((place-laws z).long s.master) in
    let e : master_at z ≡ master_at z + 0 = omega arith in
    rw e (put-area (master-area s l) s.master p 0 (place_words z p) (omega (arith, same))
    (sets-all old (place_words z p) same))

-- A word of the tail.
put-tail-part : (s : Store) (l : List ℕ) (i m at : ℕ) (t : Tail) → i < tail_size s.counts
    → at ≡ tail_at s.counts + i
    → sets (tail_words s.counts s.tail) i (m ∷ []) ≡ tail_words s.counts t
    → set (written s l) at m ≡ written (with_tail_of s t) l
unfolding with_tail_of
put-tail-part s l i m at t h e p =
    rw e (put-area (tail-area s l) s.tail t i (m ∷ [])
    (omega (arith, (tail-laws s.counts).long s.tail)) p)

module _ (s : Store) (l : List ℕ) where
  pub put-round : (r : ℕ) → set (written s l) (round_at_of s.counts) r ≡ written (with_round s r) l
  unfolding tail_size
  put-round r =
      put-tail-part s l 0 r _ (tail_round s.tail r) (omega arith) (omega arith)
      (tail-round s.counts s.tail r)

  pub put-may_hold : (o m : ℕ) → o < s.counts.sites
      → set (written s l) (may_hold_at s.counts o) m ≡ written (with_may_hold s o m) l
  unfolding tail_size
  put-may_hold o m h =
      put-tail-part s l (1 + o) m _ (tail_hold s.tail o m) (omega arith) (omega arith)
      (tail-hold s.counts s.tail o m h)

  pub put-may_save : (w m : ℕ) → w < s.counts.writers
      → set (written s l) (may_save_at s.counts w) m ≡ written (with_may_save s w m) l
  unfolding tail_size
  put-may_save w m h =
      put-tail-part s l (1 + s.counts.sites + w) m _ (tail_save s.tail w m) (omega arith)
      (omega arith) (tail-save s.counts s.tail w m h)

-- ---- a store within one part of a row

put-site-part : (s : Store) (l : List ℕ) (o i : ℕ) (x : List ℕ) (y : Site)
    → o < s.counts.sites → i + length x ≤ site_size s.counts
    → sets (site_words s.counts (s.site o)) i x ≡ site_words s.counts y
    → sets (written s l) (site_at s.counts o + i) x ≡ written (with_site s o y) l
unfolding with_sites site_at sites_words
put-site-part s l = put-row-part (site-laws s.counts) (sites-area s l) s.site

put-writer-part : (s : Store) (l : List ℕ) (w i : ℕ) (x : List ℕ) (y : Writer)
    → w < s.counts.writers → i + length x ≤ writer_size s.counts
    → sets (writer_words s.counts (s.writer w)) i x ≡ writer_words s.counts y
    → sets (written s l) (writer_at s.counts w + i) x ≡ written (with_writer s w y) l
unfolding with_writer writer_at writers_words
put-writer-part s l = put-row-part (writer-laws s.counts) (writers-area s l) s.writer

-- ---- whole parts

-- A part put twice.
pub put-twice : {A : Type 0} (f : ℕ → A) (i : ℕ) (x y : A) → put_at (put_at f i x) i y ≡ put_at f
    i y
unfolding put_at
put-twice {A} f i x y = fun_ext (λ j. last (eqb j i) j)
  where
    last : (b : Bool) (j : ℕ) → cond b y (cond b x (f j)) ≡ cond b y (f j)
    last true j = refl
    last false j = refl

pub put-cache : (s : Store) (l : List ℕ) (o : ℕ) (p : Place Version) → o < s.counts.sites
    → sets (written s l) (site_at s.counts o) (place_words s.counts p)
    ≡ written (with_site s o (site_cached (s.site o) p)) l
unfolding site_words site_size
put-cache s l o p h =
    let z = s.counts in
    let L = place-laws z in
    let x = s.site o in
    let c = x.cache in
    let new = place_words z p in
    let e : site_at z o ≡ site_at z o + 0 = omega arith in
    let same : length new ≡ length (place_words z c) = L.long p ∙ sym (L.long c) in
    rw e (put-site-part s l o 0 new (site_cached x p) h (omega (arith, L.long p))
    (sets-left new (place_words z c) (x.stale ∷ x.allowance ∷ []) 0 (omega arith)
    ∙ ap (λ (t : List ℕ). t ++ (x.stale ∷ x.allowance ∷ []))
    (sets-all (place_words z c) new same)))

pub put-mark : (s : Store) (l : List ℕ) (o m : ℕ) → o < s.counts.sites
    → set (written s l) (stale_at s.counts (site_at s.counts o)) m
    ≡ written (with_site s o (site_marked (s.site o) m)) l
unfolding site_words site_size
put-mark s l o m h =
    let z = s.counts in
    let x = s.site o in
    let c = place_words z x.cache in
    let long = (place-laws z).long x.cache in
    let rest = x.stale ∷ x.allowance ∷ [] in
    put-site-part s l o (place_size z) (m ∷ []) (site_marked x m) h (omega arith)
    (ap (λ (i : ℕ). sets (c ++ rest) i (m ∷ [])) (sym long ∙ sym (add-zero (length c)))
    ∙ sets_behind c rest (m ∷ []) 0 (omega arith))

pub put-allowance : (s : Store) (l : List ℕ) (o n : ℕ) → o < s.counts.sites
    → set (written s l) (allowance_at s.counts (site_at s.counts o)) n
    ≡ written (with_site s o (site_allowed (s.site o) n)) l
unfolding site_words site_size
put-allowance s l o n h =
    let z = s.counts in
    let x = s.site o in
    let c = place_words z x.cache in
    let long = (place-laws z).long x.cache in
    let rest = x.stale ∷ x.allowance ∷ [] in
    let at : site_at z o + place_size z + 1 ≡ site_at z o + (place_size z + 1) = omega arith in
    rw at (put-site-part s l o (place_size z + 1) (n ∷ []) (site_allowed x n) h (omega arith)
    (ap (λ (i : ℕ). sets (c ++ rest) (i + 1) (n ∷ [])) (sym long)
    ∙ sets_behind c rest (n ∷ []) 1 (omega arith)))

-- Both: another cache, with a true mark.
pub put-site : (s : Store) (l : List ℕ) (o : ℕ) (p : Place Version) → o < s.counts.sites
    → set (sets (written s l) (site_at s.counts o) (place_words s.counts p))
    (stale_at s.counts (site_at s.counts o)) (stale_mask s.counts s.master p)
    ≡ written (with_cache s o p) l
unfolding with_cache with_sites site_with
put-site s l o p h =
    let z = s.counts in
    let m = stale_mask z s.master p in
    let x = s.site o in
    let t = with_site s o (site_cached x p) in
    ap (λ (w : List ℕ). set w (stale_at z (site_at z o)) m) (put-cache s l o p h)
    ∙ put-mark t l o m h
    ∙ ap (λ (f : ℕ → Site). written (with_sites s f) l)
    (put-twice s.site o (site_cached x p) _
    ∙ ap (λ (y : Site). put_at s.site o (site_marked y m))
    (put_at_same s.site o (site_cached x p)))

pub put-writer : (s : Store) (l : List ℕ) (w : ℕ) (y : Writer) → w < s.counts.writers
    → sets (written s l) (writer_at s.counts w) (writer_words s.counts y)
    ≡ written (with_writer s w y) l
put-writer s l w y h =
    let z = s.counts in
    let L = writer-laws z in
    let x = s.writer w in
    let e : writer_at z w ≡ writer_at z w + 0 = omega arith in
    rw e (put-writer-part s l w 0 (writer_words z y) y h (omega (arith, L.long y))
    (sets-all (writer_words z x) (writer_words z y) (L.long y ∙ sym (L.long x))))

-- ---- one change after another

-- A change of what the change before it left is the change of its store.
pub phase : (s : Store) (l : List ℕ) (f : Store → Store) → FitStore s → (f s).counts ≡ s.counts
    → written (f (store_of (written s l))) (written s l) ≡ written (f s) l
phase s l f F e =
    ap (λ (t : Store). written (f t) (written s l)) (store-back s l F) ∙ written_twice s (f s) l e
