-- What a run's jobs fetch, site by site.
-- reads-..: what the jobs at a site read. start-..: what its cache lacks of that.
-- prepared-cache: the cache after the fetches of a prepare.
-- sets-..: a mask for each site, as the code has it. sets-barred: whether a site may not hold a
-- key. sets-lacked: whether the master lacks one. sets_over: whether a site would hold too much.
-- Assumes nothing.
use mathlib.Core.Path.{◌≡◌, refl, sym, ap, ◌∙◌, fun_ext}
use mathlib.Core.Bool.{false, not, ◌&&◌}
use mathlib.Core.Logic.{⊎_elim}
use mathlib.Core.List.{List}
use Prim.Native.Nat.{ℕ, ◌+◌, ◌<◌, ◌^◌}
use native.Mathlib.Nat.{zero-add}
use native.Mathlib.Omega.{arith}
use lib.Dec.{eqb}
use lib.Bits.{bit_or}
use lib.ListN.{length}
use Rattle.words.specs.Tests.{Items, none, any_below}
use Rattle.words.specs.Numbers.{when}
use Rattle.words.specs.Words.{put}
use Rattle.words.proofs.Bools.{ne_eqb}
use Rattle.words.proofs.Numbers.{when-le}
use Rattle.words.proofs.Tests.{below_or_not, any_none, any-no, any_same}
use Rattle.words.proofs.Words.{length-put, put_in}
use Rattle.masks.specs.Mask.{test_bit, union_below, mask_below}
use Rattle.masks.proofs.Bits.{test-high, test-when}
use Rattle.masks.proofs.Sets.{mask_lt, test-mask, union_more, union-lt, test-union}
use Rattle.sizes.specs.declared.Counts.{Counts}
use Rattle.sizes.specs.Bounds.{Ranged, site_at}
use Rattle.model.specs.Algebra.{Algebra, Place, lacking}
use Rattle.model.specs.Version.{Version, versions}
use Rattle.model.specs.Sets.{fetched, unfetchable}
use Rattle.model.specs.Tail.{barred}
use Rattle.model.specs.Store.{Store}
use Rattle.model.specs.Prepare.{unentitled, unpreparable, site_caches, any_over, prepare_caches}
use Rattle.model.specs.Allowance.{over}
use Rattle.model.proofs.Draws.{fetched-none}
use Rattle.model.proofs.AtOnce.{site_reads, site_set, prepared-at-once, unpreparable-sites, unentitled-sites}
use Rattle.layout.specs.Reading.{read_place, store_of}
use Rattle.layout.proofs.Readings.{cache_in}
use Rattle.form.proofs.Known.{form-area, form-counts}
use Rattle.fetching.specs.Takes.{takes_over}
use Rattle.fetching.proofs.Taking.{taken-lacked, taken-count}
use Rattle.trial.specs.Jobs.{UsedRun}
use Rattle.trial.proofs.Known.{job-known}
use Rattle.prepare.specs.Turns.{no_sets, reads_at_of, taken_at_of, set_of_at, SetsOf}

-- ---- what the jobs at a site read

-- One job more.
pub reads_more : (s : Store) (r o n : ℕ) → let a = s.run r in
    union_below (n + 1) (λ j. when (eqb (a.job j).site o) (a.job j).reads)
    ≡ bit_or (union_below n (λ j. when (eqb (a.job j).site o) (a.job j).reads))
    (when (eqb (a.job n).site o) (a.job n).reads)
reads_more s r o n =
    let a = s.run r in union_more (λ j. when (eqb (a.job j).site o) (a.job j).reads) n

reads-bits : (s : Store) (r o : ℕ)
    → test_bit (reads_at_of s r o) ≡ site_reads (s.run r).jobs (s.run r).job o
unfolding reads_at_of
reads-bits s r o =
    let a = s.run r in
    let f : ℕ → ℕ = λ j. when (eqb (a.job j).site o) (a.job j).reads in
    fun_ext (λ k. test-union a.jobs f k
    ∙ any_same a.jobs (λ j. test_bit (f j) k)
    (λ j. eqb (a.job j).site o && test_bit (a.job j).reads k)
    (λ j _. test-when (eqb (a.job j).site o) (a.job j).reads k))

-- A cache after all fetches: one fetch of what it lacks of them.
pub prepared-cache : (s : Store) (z : Counts) (r o : ℕ) → s.counts ≡ z
    → let alg = versions z.writers in
    let cache = (s.site o).cache in
    prepare_caches s r o
    ≡ fetched alg z.keys s.master cache
    (lacking alg z.keys cache (test_bit (reads_at_of s r o)))
unfolding prepare_caches site_caches
prepared-cache s z r o e =
    let a = s.run r in
    let cache = (s.site o).cache in
    let once : Counts → Items → Place Version = λ y S.
    fetched (versions y.writers) y.keys s.master cache
    (lacking (versions y.writers) y.keys cache S) in
    let y = s.counts in
    prepared-at-once (versions y.writers) y.keys s.master a.job (site_caches s)
    a.jobs o
    ∙ ap (once y) (sym (reads-bits s r o))
    ∙ ap (λ (y : Counts). once y (test_bit (reads_at_of s r o))) e

-- A site that no job is at keeps its cache.
pub prepared-beyond : (s : Store) (r o : ℕ)
    → ((j : ℕ) → j < (s.run r).jobs → ((s.run r).job j).site < o)
    → prepare_caches s r o ≡ (s.site o).cache
unfolding lacking
prepared-beyond s r o h =
    let z = s.counts in
    let a = s.run r in
    let idle : site_reads a.jobs a.job o ≡ none =
    fun_ext (λ k. any-no a.jobs (λ j. eqb (a.job j).site o && test_bit (a.job j).reads k)
    (λ j i. rw (ne_eqb (a.job j).site o (λ e. absurd (omega (arith, h j i)))))) in
    prepared-cache s z r o refl
    ∙ rw (reads-bits s r o, idle)
    (fetched-none (versions z.writers) z.keys s.master (s.site o).cache)

-- ---- on a buffer

-- A mask of lacking keys is their set.
lacking-bits : {A : Type 0} (alg : Algebra A) (K : ℕ) (p : Place A) (m : ℕ) → m < 2 ^ K
    → test_bit (mask_below K (lacking alg K p (test_bit m))) ≡ lacking alg K p (test_bit m)
unfolding lacking
lacking-bits alg K p m h =
    let S : Items = λ k. test_bit m k && not (alg.held (p k)) in
    fun_ext (λ k. ⊎_elim (test-mask K S k)
    (λ g. test-high (mask_below K S) K k (mask_lt K S K (omega arith)) g
    ∙ rw (test-high m K k h g)) (below_or_not k K))

-- The mask of a set is barred as the set is.
mask-barred : (K right : ℕ) (S : Items)
    → barred K right (test_bit (mask_below K S)) ≡ barred K right S
unfolding barred
mask-barred K right S =
    any_same K (λ k. test_bit (mask_below K S) k && not (test_bit right k))
    (λ k. S k && not (test_bit right k)) (λ k i. rw (test-mask K S k i))

module _ (l : List ℕ) (z : Counts) (r : ℕ) (U : UsedRun l z r) where
  abbrev s : Store
  s = store_of l

  pub reads-low : (o : ℕ) → reads_at_of s r o < 2 ^ z.keys
  unfolding reads_at_of
  reads-low o =
      let a = s.run r in
      union-lt a.jobs (λ j. when (eqb (a.job j).site o) (a.job j).reads) z.keys
      (λ j i. omega (
        arith,
        when-le (eqb (a.job j).site o) (a.job j).reads,
        (job-known l z r U j i).reads,
      ))

  -- What site o has to fetch.
  abbrev start : ℕ → Items
  start o = lacking (versions z.writers) z.keys (s.site o).cache (test_bit (reads_at_of s r o))

  -- at, reads, m: where the site is, what is read there, and what its cache lacks of it.
  pub start_as : (o at reads m : ℕ) → o < z.sites → at ≡ site_at z o → reads ≡ reads_at_of s r o
      → m ≡ mask_below z.keys (lacking (versions z.writers) z.keys (read_place z l at)
      (test_bit reads))
      → test_bit m ≡ start o
  start_as o at reads m h p q e =
      let found : m ≡ mask_below z.keys (start o) =
      rw (cache_in l z U.form.counts o h, ← p, ← q) e in
      ap test_bit found
      ∙ lacking-bits (versions z.writers) z.keys (s.site o).cache (reads_at_of s r o)
      (reads-low o)

  -- ---- T of each site

  -- t: the masks as the code has them.
  module _ (t : List ℕ)
      (e : t ≡ put no_sets 0 z.sites (λ o. mask_below z.keys (taken_at_of z s r o))) where
    long : 8 ≡ length t
    unfolding no_sets
    long = rw e (sym (length-put no_sets 0 z.sites _))

    pub set_at : (o : ℕ) → o < z.sites → set_of_at t o ≡ mask_below z.keys (taken_at_of z s r o)
    unfolding no_sets
    set_at o h =
        let f : ℕ → ℕ = λ o. mask_below z.keys (taken_at_of z s r o) in
        let R : Ranged z = (form-area l z U.form).ranged in
        rw e (ap (set_of_at (put no_sets 0 z.sites f)) (sym (zero-add o))
        ∙ put_in no_sets 0 z.sites f o h (omega (arith, R.sites-high)))

    pub sets_of : SetsOf z t
    sets_of =
        let R : Ranged z = (form-area l z U.form).ranged in
        record {
          long = omega (arith, R.sites-high, long);
          low = λ o h. rw (set_at o h)
              (mask_lt z.keys (taken_at_of z s r o) z.keys (omega arith));
        }

    -- Where the master lacks none, a site would hold too much with its mask exactly if it would
    -- after all fetches.
    pub sets_over :
        unpreparable (versions z.writers) z.keys s.master (s.run r).job (s.run r).jobs
        (site_caches s) ≡ false
        → any_below z.sites (λ o. takes_over z (s.site o) (set_of_at t o))
        ≡ any_over s (prepare_caches s r)
    unfolding takes_over over any_over taken_at_of site_caches
    sets_over u =
        let alg = versions z.writers in
        let a = s.run r in
        let same = form-counts l z U.form in
        let by-site = unpreparable-sites alg z.keys s.master a.job (site_caches s)
        z.sites a.jobs (λ j i. (job-known l z r U j i).site) in
        let none = any_none z.sites _ (sym by-site ∙ u) in
        any_same z.sites (λ o. takes_over z (s.site o) (set_of_at t o))
        (λ o. over z (s.site o) (prepare_caches s r o))
        (λ o h.
        let fetchable : unfetchable alg z.keys s.master (start o) ≡ false =
        rw (reads-bits s r o) (none o h) in
        rw (
          prepared-cache s z r o same,
          taken-count z s.master (s.site o).cache (start o) (set_of_at t o) (set_at o h)
              fetchable,
        ))
        ∙ ap (λ (y : Counts). any_below y.sites (λ o. over y (s.site o) (prepare_caches s r o)))
        (sym same)

    -- The master lacks a key for a job exactly if it lacks one of these.
    pub sets-lacked :
        any_below z.sites
        (λ o. unfetchable (versions z.writers) z.keys s.master (test_bit (set_of_at t o)))
        ≡ unpreparable (versions z.writers) z.keys s.master (s.run r).job
        (s.run r).jobs (site_caches s)
    unfolding taken_at_of site_caches
    sets-lacked =
        let alg = versions z.writers in
        let a = s.run r in
        any_same z.sites
        (λ o. unfetchable alg z.keys s.master (test_bit (set_of_at t o)))
        (λ o. unfetchable alg z.keys s.master
        (lacking alg z.keys (s.site o).cache (site_reads a.jobs a.job o)))
        (λ o h. taken-lacked z s.master (s.site o).cache (start o) (set_of_at t o) (set_at o h)
        ∙ rw (reads-bits s r o))
        ∙ sym (unpreparable-sites alg z.keys s.master a.job (site_caches s) z.sites
        a.jobs (λ j i. (job-known l z r U j i).site))

    -- A site may not hold a key of these exactly if a job fetches one that its site may not hold.
    pub sets-barred :
        any_below z.sites (λ o. barred z.keys (s.tail.may_hold o) (test_bit (set_of_at t o)))
        ≡ unentitled (versions z.writers) z.keys s.master (s.run r).job
        s.tail.may_hold (s.run r).jobs (site_caches s)
    unfolding taken_at_of site_caches
    sets-barred =
        let alg = versions z.writers in
        let a = s.run r in
        let right = s.tail.may_hold in
        any_same z.sites (λ o. barred z.keys (right o) (test_bit (set_of_at t o)))
        (λ o. barred z.keys (right o)
        (site_set alg z.keys s.master a.job (site_caches s) a.jobs o))
        (λ o h. rw (set_at o h, ← reads-bits s r o)
        (mask-barred z.keys (right o) (taken_at_of z s r o)))
        ∙ sym (unentitled-sites alg z.keys s.master a.job (site_caches s) right z.sites
        a.jobs (λ j i. (job-known l z r U j i).site))
