-- The snapshot, cleared and merged, as a change of the store.
-- zeros-place: cleared words. place_twice: a place stored twice.
-- site-merged, site-passed: the code of one turn. merge-..: the loop over the sites.
-- Assumes nothing.
use mathlib.Core.Path.{◌≡◌, sym, ap, ap₂, ◌∙◌, fun_ext}
use mathlib.Core.Bool.{false, cond, So, ◌&&◌}
use mathlib.Core.Logic.{inr}
use mathlib.Core.List.{List, []}
use Prim.Native.Nat.{ℕ, zero, suc, ◌+◌, ◌≤◌, ◌<◌}
use native.Mathlib.Nat.{add-zero}
use native.Mathlib.Numerals.{add-one}
use native.Mathlib.Omega.{arith}
use lib.ListN.{length}
use lib.Seq.{sets}
use Rattle.words.specs.Lists.{upto}
use Rattle.words.specs.Numbers.{fold_below}
use Rattle.words.specs.Words.{put}
use Rattle.words.proofs.Stores.{sets-all}
use Rattle.masks.specs.Mask.{test_bit}
use Rattle.sizes.specs.declared.Counts.{Counts}
use Rattle.sizes.specs.Bounds.{place_size, site_at}
use Rattle.model.specs.Algebra.{Place}
use Rattle.model.specs.Version.{Version, unheld, merge, versions}
use Rattle.model.specs.Store.{empty_place}
use Rattle.model.specs.Prepare.{sites_merged}
use Rattle.layout.specs.Words.{place_words}
use Rattle.layout.specs.Reading.{read_clock, read_past_of, read_version, read_place}
use Rattle.layout.specs.Stored.{put_place}
use Rattle.layout.proofs.Parts.{FitPlace, place-laws}
use Rattle.layout.proofs.Fit.{fit-empty, fit-choice, fit-merged}
use Rattle.layout.proofs.Windows.{part-back, part-twice}
use Rattle.layout.proofs.Places.{place-again}
use Rattle.version.specs.Places.{choice, Areas}
use Rattle.version.proofs.Versions.{upto_all, nothing_read}
use Rattle.version.proofs.Stores.{place-beside}
use Rattle.status.proofs.Copies.{put-zeros}
use Rattle.prepare.specs.Turns.{site_merged, MergeArea}

-- ---- places

no_place : (z : Counts) (at : ℕ) → read_place z [] at ≡ empty_place
unfolding read_place read_version read_past_of read_clock
no_place z at =
    ap (λ (v : Version). upto z.keys unheld (λ k. v)) (nothing_read z)
    ∙ fun_ext (λ k. upto_all z.keys unheld k)

pub zeros-place : (z : Counts) (l : List ℕ) (at : ℕ)
    → put l at (place_size z) (λ _. 0) ≡ put_place z l at empty_place
zeros-place z l at =
    put-zeros l at (place_size z)
    ∙ ap (sets l at) (sym ((place-laws z).round [] 0) ∙ ap (place_words z) (no_place z 0))

pub place_twice : (z : Counts) (l : List ℕ) (at : ℕ) (p q : Place Version)
    → at + place_size z ≤ length l → put_place z (put_place z l at p) at q ≡ put_place z l at q
place_twice z l at p q h =
    let L = place-laws z in
    ap (λ (i : ℕ). sets (put_place z l at p) i (place_words z q)) (sym (add-zero at))
    ∙ part-twice L l at 0 (place_words z q) p q h (omega (arith, L.long q))
    (sets-all (place_words z p) (place_words z q) (L.long q ∙ sym (L.long p)))

-- ---- the code of one turn

-- A site of the mask: the keys of the plan are merged.
pub site-merged : (z : Counts) (l : List ℕ) (at o from sites plan : ℕ) (m : List ℕ)
    → So (test_bit sites o) → from ≡ site_at z o
    → m ≡ put_place z l at (choice (test_bit plan)
    (λ k. merge z.writers k (read_place z l at k) (read_place z l from k)) (read_place z l at))
    → m ≡ put_place z l at (site_merged z l at o sites plan)
unfolding site_merged
site-merged z l at o from sites plan m p q e = rw (p, ← q) e

-- Any other: nothing is stored.
pub site-passed : (z : Counts) (l : List ℕ) (at o sites plan : ℕ) → test_bit sites o ≡ false
    → l ≡ put_place z l at (site_merged z l at o sites plan)
unfolding site_merged
site-passed z l at o sites plan p = rw p (sym (place-again z l at))

-- ---- the loop over the sites

-- The first n sites of the mask, merged and cut down to the plan.
abbrev pub merged_after : Counts → List ℕ → ℕ → ℕ → ℕ → Place Version
merged_after z l sites plan n =
    sites_merged (versions z.writers) n (test_bit sites) (test_bit plan)
    (λ o. read_place z l (site_at z o))

module _ (z : Counts) (l : List ℕ) (at sites plan : ℕ) (C : MergeArea l z at) where
  abbrev after : ℕ → Place Version
  after = merged_after z l sites plan

  pub merge-start : l ≡ put_place z l at (after 0)
  unfolding sites_merged fold_below
  merge-start = sym C.empty

  after-fits : (n : ℕ) → FitPlace z (after n)
  unfolding sites_merged fold_below
  after-fits zero = fit-empty z
  after-fits (suc n) =
      let F = after-fits n in
      let p = after n in
      let q = read_place z l (site_at z n) in
      fit-choice z (λ k. test_bit sites n && test_bit plan k)
      (λ k. merge z.writers k (p k) (q k)) p
      (fit-merged z p q F ((place-laws z).fits l (site_at z n))) F

  pub merge-lies : (o : ℕ) → o < z.sites → Areas (length l) z at (site_at z o)
  merge-lies o h =
      let A = C.area in
      let b = C.behind o h in
      record {
        target = A;
        source = record {
          ranged = A.ranged;
          low = omega (arith, A.low);
          fits = omega (arith, A.fits);
        };
        apart = inr (inr b);
      }

  module _ (n : ℕ) (h : n < z.sites) (m : List ℕ) (e : m ≡ put_place z l at (after n)) where
    snapshot-read : read_place z m at ≡ after n
    snapshot-read =
        rw e (part-back (place-laws z) l at (after n) (after-fits n) C.area.fits)

    site-read : read_place z m (site_at z n) ≡ read_place z l (site_at z n)
    site-read = rw e (place-beside z l at (site_at z n) (after n) (inr (C.behind n h)))

    -- A place p with q merged into it.
    abbrev turned : Place Version → Place Version → Place Version
    turned p q k =
        cond (test_bit sites n && test_bit plan k) (merge z.writers k (p k) (q k)) (p k)

    pub merge-turn : (k : List ℕ) → k ≡ put_place z m at (site_merged z m at n sites plan)
        → k ≡ put_place z l at (after (n + 1))
    unfolding site_merged sites_merged fold_below
    merge-turn k f =
        let q = turned (after n) (read_place z l (site_at z n)) in
        let g : k ≡ put_place z m at q =
        f ∙ ap₂ (λ (p q : Place Version). put_place z m at (turned p q)) snapshot-read site-read in
        rw (add-one n) (g ∙ rw e (place_twice z l at (after n) q C.area.fits))
