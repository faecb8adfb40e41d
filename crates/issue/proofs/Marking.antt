-- The marks of a store that was just written, set again one site after the other.
-- remarked: a site with its mark set again. marks_to: the store with the first n sites so.
-- counted, master-back: what is read of the store. marks-stored: what the loop over the sites
-- leaves.
-- Assumes nothing.
use mathlib.Core.Path.{◌≡◌, sym, ap, ◌∙◌, fun_ext}
use mathlib.Core.Bool.{cond}
use mathlib.Core.List.{List}
use Prim.Native.Nat.{ℕ, zero, suc, ◌≤◌, ◌<◌}
use native.Mathlib.Omega.{arith}
use lib.Dec.{ltb}
use Rattle.words.specs.Numbers.{fold_below}
use Rattle.words.specs.Lists.{put_at}
use Rattle.words.proofs.Bools.{test, ltb-lt, lt-ltb, ltb-ge, ge-ltb}
use Rattle.words.proofs.Lists.{put_at_cases}
use Rattle.sizes.specs.declared.Counts.{Counts}
use Rattle.sizes.specs.Bounds.{master_at, site_at}
use Rattle.model.specs.Store.{Site, Store, site_with, with_sites, with_caches, with_marks}
use Rattle.layout.specs.Reading.{read_place, counts_in}
use Rattle.layout.specs.Buffer.{written}
use Rattle.layout.proofs.Whole.{FitStore, counts-back, store-back}
use Rattle.layout.proofs.Fit.{fit-sites, marks-beyond}
use Rattle.layout.proofs.Readings.{master_in, cache_in}
use Rattle.layout.proofs.Updates.{put-mark}
use Rattle.issue.specs.Saves.{mark_at}

-- ---- the store with the first n marks set again

abbrev remarked : Store → ℕ → Site
remarked s o = site_with s (s.site o) (s.site o).cache

abbrev site_to : Store → ℕ → ℕ → Site
site_to s n o = cond (ltb o n) (remarked s o) (s.site o)

abbrev marks_to : Store → ℕ → Store
marks_to s n = with_sites s (site_to s n)

module _ (s : Store) (F : FitStore s) where
  marks-none : marks_to s 0 ≡ s
  unfolding with_sites
  marks-none =
      ap (with_sites s) (fun_ext (λ o. rw (ge-ltb o 0 (omega arith))))

  marks-all : marks_to s s.counts.sites ≡ with_marks s
  unfolding with_marks with_caches
  marks-all =
      let N = s.counts.sites in
      ap (with_sites s) (fun_ext (λ o. test (ltb o N) (λ t. rw t)
      (λ t. rw t (sym (marks-beyond s F o (ltb-ge o N t))))))

  marks-fit : (n : ℕ) → FitStore (marks_to s n)
  unfolding site_with
  marks-fit n =
      fit-sites s F (site_to s n) (record {
        each = λ o h. test (ltb o n) (λ t. rw t (record { cache = (F.site.each o h).cache }))
            (λ t. rw t (F.site.each o h));
        rest = λ o h. test (ltb o n)
            (λ t. rw t (marks-beyond s F o h ∙ F.site.rest o h)) (λ t. rw t (F.site.rest o h));
      })

  -- One site more.
  marks-more : (n : ℕ)
      → with_sites s (put_at (site_to s n) n (remarked s n)) ≡ marks_to s (suc n)
  marks-more n =
      ap (with_sites s) (fun_ext (λ o.
      put_at_cases (λ (x : Site). x ≡ site_to s (suc n) o) (site_to s n) n (remarked s n) o
      (λ e. rw (e, lt-ltb n (suc n) (omega arith)))
      (λ e. test (ltb o n)
      (λ t. rw (t, lt-ltb o (suc n) (omega (arith, ltb-lt o n t))))
      (λ t. rw (t, ge-ltb o (suc n) (omega (arith, ltb-ge o n t, e)))))))

-- ---- a store that was just written

module _ (s : Store) (l : List ℕ) (z : Counts) (F : FitStore s) (e : s.counts ≡ z) where
  pub counted : z ≡ counts_in (written s l)
  counted = sym (counts-back s l ∙ e)

  pub master-back : read_place z (written s l) (master_at z) ≡ s.master
  master-back =
      sym (master_in (written s l) z counted) ∙ ap (λ (t : Store). t.master) (store-back s l F)

  cache-back : (o : ℕ) → o < z.sites
      → read_place z (written s l) (site_at z o) ≡ (s.site o).cache
  cache-back o h =
      sym (cache_in (written s l) z counted o h)
      ∙ ap (λ (t : Store). (t.site o).cache) (store-back s l F)

  -- The mark of one site.
  mark-put : (o : ℕ) → o < z.sites
      → mark_at z (master_at z) o (written s l)
      ≡ written (with_sites s (put_at s.site o (remarked s o))) l
  unfolding site_with
  mark-put o h =
      rw (master-back, cache-back o h, ← e) (put-mark s l o _ (rw e h))

-- ---- the loop over the sites

module _ (s : Store) (l : List ℕ) (z : Counts) (F : FitStore s) (e : s.counts ≡ z) where
  marks-turn : (n : ℕ) → n < z.sites
      → mark_at z (master_at z) n (written (marks_to s n) l) ≡ written (marks_to s (suc n)) l
  unfolding with_sites site_with
  marks-turn n h =
      let t = marks_to s n in
      let here : site_to s n n ≡ s.site n = rw (ge-ltb n n (omega arith)) in
      mark-put t l z (marks-fit s F n) e n h
      ∙ ap (λ (x : Site). written (with_sites s (put_at (site_to s n) n (site_with s x x.cache)))
      l)
      here
      ∙ ap (λ (t : Store). written t l) (marks-more s F n)

  marks-first : (n : ℕ) → n ≤ z.sites
      → fold_below n (mark_at z (master_at z)) (written s l) ≡ written (marks_to s n) l
  unfolding fold_below
  marks-first zero h = rw (marks-none s F)
  marks-first (suc n) h =
      ap (mark_at z (master_at z) n) (marks-first n (omega arith)) ∙ marks-turn n h

  pub marks-stored : fold_below z.sites (mark_at z (master_at z)) (written s l)
      ≡ written (with_marks s) l
  marks-stored =
      marks-first z.sites (omega arith)
      ∙ ap (λ (t : Store). written t l) (rw (← e) (marks-all s F))
