-- The loop over the sites: a buffer after some of them have taken their T.
-- sites-start: none of them. sites-form: the buffer is in form there. sites-turn: one more.
-- prepared, sets-taken: all of them, as the rule has it. prepared-..: the buffer after that.
-- Assumes nothing.
use mathlib.Core.Path.{◌≡◌, refl, sym, ap, subst, ◌∙◌, fun_ext}
use mathlib.Core.Bool.{Bool, cond, false, ◌||◌}
use mathlib.Core.Logic.{⊎_elim}
use mathlib.Core.List.{List}
use Prim.Native.Nat.{ℕ, ◌+◌, ◌≤◌, ◌<◌}
use native.Mathlib.Omega.{arith}
use lib.Dec.{eqb, ltb}
use Rattle.words.specs.Tests.{Items}
use Rattle.words.specs.Numbers.{count_below}
use Rattle.words.specs.Lists.{put_at}
use Rattle.words.specs.Words.{put}
use Rattle.words.proofs.Bools.{test, or_left, or_right, eqb-eq, eqb-ne, lt-ltb, ltb-ge, ge-ltb}
use Rattle.words.proofs.Numbers.{count-le}
use Rattle.words.proofs.Tests.{below_or_not}
use Rattle.masks.specs.Mask.{test_bit, mask_below}
use Rattle.sizes.specs.declared.Counts.{Counts}
use Rattle.model.specs.Algebra.{Place}
use Rattle.model.specs.Version.{Version, held}
use Rattle.model.specs.Tail.{barred}
use Rattle.model.specs.Store.{Site, Store, site_with, with_sites, with_cache, with_caches}
use Rattle.model.specs.Allowance.{held_count}
use Rattle.model.specs.Prepare.{prepare_caches}
use Rattle.model.proofs.FormedPlaces.{formed-choice}
use Rattle.model.proofs.Formed.{well-out}
use Rattle.model.proofs.Rights.{unbarred-at, unbarred_in}
use Rattle.model.proofs.FormedNext.{formed-caches}
use Rattle.layout.specs.Reading.{store_of}
use Rattle.layout.specs.Buffer.{written}
use Rattle.layout.proofs.Whole.{FitStore, counts-back, store-back}
use Rattle.layout.proofs.Fit.{fit-choice, fit-caches}
use Rattle.layout.proofs.Updates.{phase}
use Rattle.layout.proofs.Follow.{Fine, fine-form, form-fine}
use Rattle.layout.proofs.Kept.{fine-next}
use Rattle.version.specs.Places.{choice}
use Rattle.form.specs.Parts.{FormWith}
use Rattle.form.proofs.Known.{form-counts, form-again}
use Rattle.fetching.specs.Takes.{takes_over}
use Rattle.fetching.proofs.Taking.{taken-cache, site-again}
use Rattle.trial.specs.Jobs.{UsedRun}
use Rattle.trial.proofs.Known.{job-known}
use Rattle.prepare.specs.Turns.{no_sets, taken_at_of, set_of_at, Fitting, taken_sites}
use Rattle.prepare.proofs.Fetching.{set_at, prepared-cache, prepared-beyond}

-- ---- by the store

-- The cache of site o after the first n sites.
abbrev after : Store → (ℕ → ℕ) → ℕ → ℕ → Place Version
after s f n o =
    cond (ltb o n) (choice (test_bit (f o)) s.master (s.site o).cache) (s.site o).cache

no-sites : (s : Store) (f : ℕ → ℕ) → Fine s → taken_sites s f 0 ≡ s
unfolding taken_sites with_caches with_sites
no-sites s f F = ap (with_sites s) (fun_ext (λ o. rw (ge-ltb o 0 (omega arith)) (site-again s F
    o)))

-- The store with the next cache.
abbrev turned : Store → (ℕ → ℕ) → ℕ → Store
turned t f n = with_cache t n (choice (test_bit (f n)) t.master (t.site n).cache)

one_more : (s : Store) (f : ℕ → ℕ) (n : ℕ) → turned (taken_sites s f n) f n ≡ taken_sites s f (n +
    1)
unfolding taken_sites with_cache with_caches with_sites site_with put_at
one_more s f n =
    let own : after s f n n ≡ (s.site n).cache = rw (ge-ltb n n (omega arith)) in
    ap (with_sites s) (fun_ext (λ o. test (eqb o n)
    (λ y.
    let e : o ≡ n = eqb-eq o n y in
    rw (y, own, e, lt-ltb n (n + 1) (omega arith)))
    (λ y. rw y (ap (λ (b : Bool). site_with s (s.site o)
    (cond b (choice (test_bit (f o)) s.master (s.site o).cache) (s.site o).cache))
    (same o y)))))
  where
    same : (o : ℕ) → eqb o n ≡ false → ltb o n ≡ ltb o (n + 1)
    same o y =
        let ne = eqb-ne o n y in
        ⊎_elim (λ h. rw (lt-ltb o n h, lt-ltb o (n + 1) (omega arith)))
        (λ h. rw (ge-ltb o n h, ge-ltb o (n + 1) (omega (arith, ne)))) (below_or_not o n)

-- With the keys of a mask no more is held than by both.
taken-less : (z : Counts) (x : Site) (master : Place Version) (m : ℕ) → takes_over z x m ≡ false
    → held_count z.keys (choice (test_bit m) master x.cache) ≤ x.allowance
unfolding takes_over held_count
taken-less z x master m e =
    let both : Items = λ k. test_bit m k || held (x.cache k) in
    omega (
      arith,
      ltb-ge x.allowance (count_below z.keys both) e,
      count-le z.keys
          (λ k. held (choice (test_bit m) master x.cache k)) both
          (λ k _ h. test (test_bit m k) (or_left (held (x.cache k)))
          (λ n. or_right (test_bit m k) (rw n at h))),
    )

-- Nothing barred is held with keys that aren't barred.
taken-right : (K m : ℕ) (S : Items) (master cache : Place Version) → barred K m S ≡ false
    → barred K m (λ k. held (cache k)) ≡ false
    → barred K m (λ k. held (choice S master cache k)) ≡ false
taken-right K m S master cache u v =
    unbarred_in K m (λ k. held (choice S master cache k)) (λ k i p.
    test (S k) (unbarred-at K m S u k i)
    (λ n. unbarred-at K m (λ k. held (cache k)) v k i (rw n at p)))

sites-fine : (s : Store) (f : ℕ → ℕ) (n : ℕ) → n ≤ s.counts.sites → Fine s
    → ((o : ℕ) → o < s.counts.sites
    → barred s.counts.keys (s.tail.may_hold o) (test_bit (f o)) ≡ false)
    → ((o : ℕ) → o < s.counts.sites → takes_over s.counts (s.site o) (f o) ≡ false)
    → Fine (taken_sites s f n)
unfolding taken_sites with_caches with_sites
sites-fine s f n h F right room =
    let z = s.counts in
    let G = well-out s F.formed in
    let taken : ℕ → Place Version = λ o.
    choice (test_bit (f o)) s.master (s.site o).cache in
    let fits = fit-caches s F.fits (after s f n) (record {
      each = λ o i.
          let C = (F.fits.site.each o i).cache in
          test (ltb o n) (λ y. rw y (fit-choice z (test_bit (f o)) _ _ F.fits.master C))
          (λ y. rw y C);
      rest = λ o i. rw (ge-ltb o n (omega arith))
          (ap (λ (x : Site). x.cache) (F.fits.site.rest o i));
    }) in
    let formed = formed-caches s G (after s f n) (λ o i.
    test (ltb o n)
    (λ y. rw y (
      formed-choice z (test_bit (f o)) s.master (s.site o).cache G.master (G.cache o i),
      taken-less z (s.site o) s.master (f o) (room o i),
      taken-right z.keys (s.tail.may_hold o) (test_bit (f o)) s.master (s.site o).cache
          (right o i) (G.right o i),
    ))
    (λ y. rw y (G.cache o i, (G.room o i).1, G.right o i))) in
    fine-next s (taken_sites s f n) F fits formed refl

-- ---- l: the buffer before, and m: after the first n sites

module _ (l : List ℕ) (z : Counts) (H : FormWith l z) (t : List ℕ) (R : Fitting l z t) where
  abbrev f : ℕ → ℕ
  f = set_of_at t

  pub sites-start : l ≡ written (taken_sites (store_of l) f 0) l
  sites-start =
      rw (no-sites (store_of l) f (form-fine l H.form)) (sym (form-again l z H))

  module _ (n : ℕ) (h : n ≤ z.sites) (m : List ℕ)
      (e : m ≡ written (taken_sites (store_of l) f n) l) where
    fine : Fine (taken_sites (store_of l) f n)
    fine =
        let s = store_of l in
        let same = form-counts l z H in
        sites-fine s f n (rw same h) (form-fine l H.form)
        (λ o i. subst
        (λ (y : Counts). barred y.keys (s.tail.may_hold o) (test_bit (f o)) ≡ false) (sym same)
        (R.right o (rw (← same) i)))
        (λ o i. subst (λ (y : Counts). takes_over y (s.site o) (f o) ≡ false) (sym same)
        (R.fits o (rw (← same) i)))

    pub sites-store : store_of m ≡ taken_sites (store_of l) f n
    sites-store = rw e (store-back (taken_sites (store_of l) f n) l fine.fits)

    pub sites-form : FormWith m z
    unfolding taken_sites with_caches with_sites
    sites-form = record {
      form = rw e (fine-form (taken_sites (store_of l) f n) l fine);
      counts = sym (form-counts l z H) ∙ rw e (sym (counts-back (taken_sites (store_of l) f n) l));
    }

    pub sites-turn : (k : List ℕ)
        → k ≡ written (with_cache (store_of m) n (choice (test_bit (f n)) (store_of m).master
        ((store_of m).site n).cache)) m
        → k ≡ written (taken_sites (store_of l) f (n + 1)) l
    unfolding with_cache with_sites
    sites-turn k g =
        let s = taken_sites (store_of l) f n in
        g ∙ rw e (phase s l (λ (t : Store). turned t f n) fine.fits refl)
        ∙ ap (λ (t : Store). written t l) (one_more (store_of l) f n)

-- ---- all of them

-- The store after the fetches of a prepare of run r.
abbrev pub prepared : Store → ℕ → Store
prepared s r = with_caches s (prepare_caches s r)

module _ (l : List ℕ) (z : Counts) (r : ℕ) (U : UsedRun l z r) (t : List ℕ)
    (e : t ≡ put no_sets 0 z.sites (λ o. mask_below z.keys (taken_at_of z (store_of l) r o))) where
  pub sets-taken : taken_sites (store_of l) (set_of_at t) z.sites ≡ prepared (store_of l) r
  unfolding taken_sites taken_at_of
  sets-taken =
      let s = store_of l in
      let F = form-fine l U.form.form in
      let same = form-counts l z U.form in
      ap (with_caches s) (fun_ext (λ o. ⊎_elim
      (λ h.
      let C = (F.fits.site.each o (rw same h)).cache in
      rw (lt-ltb o z.sites h, prepared-cache s z r o same)
      (taken-cache z s.master (s.site o).cache _ (set_of_at t o) (set_at l z r U t e o h)
      (rw (← same) F.fits.master) (rw (← same) C)))
      (λ h. rw (ge-ltb o z.sites h)
      (sym (prepared-beyond s r o (λ j i. omega (arith, (job-known l z r U j i).site)))))
      (below_or_not o z.sites)))

  module _ (m : List ℕ) (f : m ≡ written (taken_sites (store_of l) (set_of_at t) z.sites) l)
      (R : Fitting l z t) where
    pub prepared-left : m ≡ written (prepared (store_of l) r) l
    prepared-left = f ∙ ap (λ (x : Store). written x l) sets-taken

    pub prepared-fits : FitStore (prepared (store_of l) r)
    prepared-fits =
        rw (← sets-taken)
        (fine l z U.form t R z.sites (omega arith) m f).fits

    pub prepared-used : UsedRun m z r
    unfolding taken_sites with_caches with_sites
    prepared-used =
        let n = z.sites in record {
          form = sites-form l z U.form t R n (omega arith) m f;
          run = U.run;
          used = rw (sites-store l z U.form t R n (omega arith) m f) U.used;
        }
