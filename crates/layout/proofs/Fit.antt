-- A changed part keeps the store in range.
-- fit-..: of a part, and of a store with one part changed.
-- Assumes nothing.
use mathlib.Core.Path.{◌≡◌, refl, sym, ap, ap₂, ◌∙◌, fun_ext}
use mathlib.Core.Bool.{Bool, cond}
use mathlib.Core.Logic.{◌⊎◌, inl, inr, ⊎_elim}
use Prim.Native.Nat.{ℕ, ◌≤◌, ◌<◌}
use Rattle.words.specs.Lists.{put_at}
use Rattle.words.proofs.Bools.{test, ge-ltb}
use Rattle.words.proofs.Tests.{below_or_not}
use Rattle.masks.proofs.Sets.{mask-no}
use Rattle.clock.specs.Clock.{Clock, join}
use Rattle.sizes.specs.declared.Counts.{Counts}
use Rattle.model.specs.Algebra.{Place}
use Rattle.model.specs.Version.{Version, unheld, held, larger, merge}
use Rattle.model.specs.Marks.{is_stale, stale_mask}
use Rattle.model.specs.Tail.{Tail}
use Rattle.model.specs.Store.{Writer, Run, Site, Store, empty_place, no_site, free_run, fresh, site_allowed, site_marked, site_with, with_last, with_marks, with_master, with_sites, with_site, with_cache, with_caches, with_writer, with_run, with_tail_of}
use Rattle.model.proofs.Merges.{held-unheld, merge-cases, merge-unheld-left}
use Rattle.layout.proofs.Codec.{FitMany, fit-put}
use Rattle.layout.proofs.Parts.{FitPast, FitVersion, FitPlace, FitSite, FitSites, FitWriter}
use Rattle.layout.proofs.Runs.{FitRun}
use Rattle.layout.proofs.Tail.{FitTail, fresh-tail}
use Rattle.layout.proofs.Whole.{FitStore}

-- ---- what stands where nothing does

pub fit-unheld : (z : Counts) → FitVersion z unheld
fit-unheld z = record {
  past = record {
    each = λ d h. record { each = λ w i. record {}; rest = λ w i. refl };
    rest = λ d h. refl;
  };
}

pub fit-empty : (z : Counts) → FitPlace z empty_place
fit-empty z = record { each = λ k h. fit-unheld z; rest = λ k h. refl }

pub fit_free : (z : Counts) → FitRun z free_run
fit_free z = record {
  job = record { each = λ j h. record {}; rest = λ j h. refl };
  snapshot = fit-empty z;
  second = fit-empty z;
}

pub fresh-fits : (z : Counts) → FitStore (fresh z)
unfolding fresh
fresh-fits z = record {
  master = fit-empty z;
  site = record {
    each = λ o h. record { cache = fit-empty z };
    rest = λ o h. rw (ge-ltb o z.sites h);
  };
  writer = record {
    each = λ w h. record { past = (fit-unheld z).past };
    rest = λ w h. refl;
  };
  run = record { each = λ r h. fit_free z; rest = λ r h. refl };
  tail = fresh-tail z;
}

pub fresh-cache : (z : Counts) (o k : ℕ) → ((fresh z).site o).cache k ≡ unheld
unfolding fresh
fresh-cache z o k = refl

-- ---- versions and places

-- One of two places for each key.
pub fit-choice : (z : Counts) (b : ℕ → Bool) (p q : Place Version) → FitPlace z p → FitPlace z q
    → FitPlace z (λ k. cond (b k) (p k) (q k))
fit-choice z b p q F G = record {
  each = λ k h. test (b k) (λ t. rw t (F.each k h)) (λ t. rw t (G.each k h));
  rest = λ k h. test (b k) (λ t. rw t (F.rest k h)) (λ t. rw t (G.rest k h));
}

fit-larger : (z : Counts) (k : ℕ) (a b : Version) → FitVersion z a → FitVersion z b
    → FitVersion z (larger z.writers k a b)
unfolding larger join
fit-larger z k a b F G = record {
  past = record {
    each = λ d h. record {
      each = λ w i. record {};
      rest = λ w i. rw ((F.past.each d h).rest w i, (G.past.each d h).rest w i) refl;
    };
    rest = λ d h. rw (F.past.rest d h, G.past.rest d h) refl;
  };
}

pub fit-merge : (z : Counts) (k : ℕ) (a b : Version) → FitVersion z a → FitVersion z b
    → FitVersion z (merge z.writers k a b)
fit-merge z k a b F G =
    merge-cases z.writers k (FitVersion z) a b (λ _ _. fit-larger z k a b F G) (λ _ _. F)
    (λ _. G)

-- Two places merged.
pub fit-merged : (z : Counts) (p q : Place Version) → FitPlace z p → FitPlace z q
    → FitPlace z (λ k. merge z.writers k (p k) (q k))
fit-merged z p q F G = record {
  each = λ k h. fit-merge z k (p k) (q k) (F.each k h) (G.each k h);
  rest = λ k h.
      rw (F.rest k h, G.rest k h) (merge-unheld-left z.writers k unheld unheld held-unheld);
}

-- A past is zero outside of the counts, and fits if it is.
pub past-out : (z : Counts) (p : ℕ → Clock) → FitPast z p → (d w : ℕ)
    → (z.keys ≤ d) ⊎ (z.writers ≤ w) → p d w ≡ 0
past-out z p F d w (inl h) = ap (λ (c : Clock). c w) (F.rest d h)
past-out z p F d w (inr h) =
    ⊎_elim (λ i. (F.each d i).rest w h) (λ i. ap (λ (c : Clock). c w) (F.rest d i))
    (below_or_not d z.keys)

pub past_in : (z : Counts) (p : ℕ → Clock)
    → ((d w : ℕ) → (z.keys ≤ d) ⊎ (z.writers ≤ w) → p d w ≡ 0) → FitPast z p
past_in z p f = record {
  each = λ d h. record { each = λ w i. record {}; rest = λ w i. f d w (inr i) };
  rest = λ d h. fun_ext (λ w. f d w (inl h));
}

-- Every version of a place fits, also beyond the counts.
pub place-fit : (z : Counts) (p : Place Version) → FitPlace z p → (k : ℕ) → FitVersion z (p k)
place-fit z p F k =
    ⊎_elim (λ h. F.each k h) (λ h. rw (F.rest k h) (fit-unheld z)) (below_or_not k z.keys)

-- ---- a site with another cache

fit-site-with : (s : Store) (x : Site) (p : Place Version) → FitSite s.counts x
    → FitPlace s.counts p → FitSite s.counts (site_with s x p)
unfolding site_with
fit-site-with s x p F G = record { cache = G }

-- An empty cache has no mark.
no-marks : (s : Store) → site_with s no_site empty_place ≡ no_site
unfolding site_with stale_mask is_stale held
no-marks s =
    let e : stale_mask s.counts s.master empty_place ≡ 0 =
    mask-no s.counts.keys _ (λ k l. refl) in
    λ i. site_marked no_site (e i)

-- ---- the store with one part changed

module _ (s : Store) (F : FitStore s) where
  pub fit-last : (n : ℕ) → FitStore (with_last s n)
  unfolding with_last
  fit-last n = record {
    master = F.master;
    site = F.site;
    writer = F.writer;
    run = F.run;
    tail = F.tail;
  }

  pub fit-master : (p : Place Version) → FitPlace s.counts p → FitStore (with_master s p)
  unfolding with_master
  fit-master p G = record {
    master = G;
    site = F.site;
    writer = F.writer;
    run = F.run;
    tail = F.tail;
  }

  pub fit-sites : (f : ℕ → Site) → FitSites s.counts f → FitStore (with_sites s f)
  unfolding with_sites
  fit-sites f G = record {
    master = F.master;
    site = G;
    writer = F.writer;
    run = F.run;
    tail = F.tail;
  }

  pub fit-cache : (o : ℕ) (p : Place Version) → o < s.counts.sites → FitPlace s.counts p
      → FitStore (with_cache s o p)
  unfolding with_cache
  fit-cache o p h G =
      let x = site_with s (s.site o) p in
      fit-sites (put_at s.site o x) (fit-put s.site o x F.site h
      (fit-site-with s (s.site o) p (F.site.each o h) G))

  pub fit-allowed : (o n : ℕ) → o < s.counts.sites
      → FitStore (with_site s o (site_allowed (s.site o) n))
  fit-allowed o n h =
      let x = site_allowed (s.site o) n in
      fit-sites (put_at s.site o x)
      (fit-put s.site o x F.site h (record { cache = (F.site.each o h).cache }))

  pub fit-caches : (p : ℕ → Place Version)
      → FitMany s.counts.sites empty_place (FitPlace s.counts) p
      → FitStore (with_caches s p)
  unfolding with_caches
  fit-caches p G =
      fit-sites (λ o. site_with s (s.site o) (p o)) (record {
        each = λ o h. fit-site-with s (s.site o) (p o) (F.site.each o h) (G.each o h);
        rest = λ o h. ap₂ (site_with s) (F.site.rest o h) (G.rest o h) ∙ no-marks s;
      })

  pub fit-marks : FitStore (with_marks s)
  unfolding with_marks
  fit-marks = fit-caches (λ o. (s.site o).cache) (record {
    each = λ o h. (F.site.each o h).cache;
    rest = λ o h. ap (λ (x : Site). x.cache) (F.site.rest o h);
  })

  -- Beyond the sites a mark set again is as it was.
  pub marks-beyond : (o : ℕ) → s.counts.sites ≤ o
      → site_with s (s.site o) (s.site o).cache ≡ s.site o
  unfolding with_marks with_caches with_sites
  marks-beyond o h = fit-marks.site.rest o h ∙ sym (F.site.rest o h)

  pub fit-writer : (w : ℕ) (x : Writer) → w < s.counts.writers → FitWriter s.counts x
      → FitStore (with_writer s w x)
  unfolding with_writer
  fit-writer w x h G = record {
    master = F.master;
    site = F.site;
    writer = fit-put s.writer w x F.writer h G;
    run = F.run;
    tail = F.tail;
  }

  pub fit-run : (r : ℕ) (x : Run) → r < s.counts.runs → FitRun s.counts x
      → FitStore (with_run s r x)
  unfolding with_run
  fit-run r x h G = record {
    master = F.master;
    site = F.site;
    writer = F.writer;
    run = fit-put s.run r x F.run h G;
    tail = F.tail;
  }

  pub fit-tail : (t : Tail) → FitTail s.counts t → FitStore (with_tail_of s t)
  unfolding with_tail_of
  fit-tail t G = record {
    master = F.master;
    site = F.site;
    writer = F.writer;
    run = F.run;
    tail = G;
  }
