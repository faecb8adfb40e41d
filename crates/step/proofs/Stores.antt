-- What a step that doesn't break stores: the cache with T and its mark, the snapshot with C, and
-- two masks.
-- merge_areas: where the places lie. site-taken, merged: the two places as the rule has them.
-- step_left: the buffer after it.
-- Assumes nothing.
use mathlib.Core.Path.{◌≡◌, sym, ap, subst, ◌∙◌}
use mathlib.Core.List.{List}
use Prim.Native.Nat.{ℕ, ◌+◌, ◌<◌}
use lib.Bits.{bit_or}
use lib.Dec.{eqb}
use lib.ListN.{length, get_or, set}
use Rattle.words.proofs.Bools.{test}
use Rattle.words.proofs.Lists.{put_at_same}
use Rattle.masks.specs.Mask.{test_bit, with_bit, mask_below}
use Rattle.sizes.specs.declared.Counts.{Counts}
use Rattle.sizes.specs.Bounds.{site_at, run_at_of, read_at_of, snapshot_at}
use Rattle.sizes.specs.Runs.{done_offset}
use Rattle.model.specs.Algebra.{Place}
use Rattle.model.specs.Version.{Version, merge, versions}
use Rattle.model.specs.Sets.{fetch_set, fetched, pulled}
use Rattle.model.specs.Store.{Branch, branch_of, Run, Site, Store, site_with, with_sites, with_cache, with_run, with_job_done}
use Rattle.model.specs.Step.{step_branch, step_site, step_start, step_fetch, step_cache, step_pull, step_snapshot, step_done}
use Rattle.layout.specs.Reading.{read_place, counts_in, store_of}
use Rattle.layout.specs.Stored.{put_place}
use Rattle.layout.specs.Buffer.{written}
use Rattle.layout.specs.Calls.{leaves}
use Rattle.layout.proofs.Parts.{FitPlace, place-laws}
use Rattle.layout.proofs.Whole.{counts-back, store-back}
use Rattle.layout.proofs.Fit.{fit-choice, fit-cache}
use Rattle.layout.proofs.Readings.{cache_in, snapshot_in}
use Rattle.layout.proofs.Follow.{form-fine}
use Rattle.layout.proofs.RunUpdates.{with_branch, put-card, put-masks, run-twice}
use Rattle.version.specs.Places.{choice, Areas}
use Rattle.version.proofs.Stores.{snapshot-site}
use Rattle.form.specs.Parts.{FormWith}
use Rattle.form.proofs.Known.{form-area, form-counts}
use Rattle.sets.proofs.Views.{chosen}
use Rattle.fetching.proofs.Taking.{taken-cache}
use Rattle.trial.specs.declared.Visit.{Visit}
use Rattle.trial.specs.declared.Trial.{Trial}
use Rattle.trial.specs.Jobs.{UsedRun}
use Rattle.trial.specs.Trials.{Finds}
use Rattle.trial.proofs.Known.{done-word}
use Rattle.trial.proofs.Finds.{found-counts, found-run, found-site, found-site-at, found-taken, found-pulled, found-read, found-reads, found-cache-at, found-snapshot-at, found-master, found-cache}

-- ---- by the store

-- A branch and the done mask changed, then another read mask and done mask.
done-twice : (a : Run) (n d x y : ℕ) (b : Branch) → let c = with_job_done a n d b in
    with_job_done c n x (record { read = y; snapshot = (branch_of n c).snapshot })
    ≡ with_job_done a n x (record { read = y; snapshot = b.snapshot })
unfolding with_job_done
done-twice a n d x y b = test (eqb n 0) (λ p. rw p) (λ p. rw p)

-- The snapshot of branch n, then the done mask and the branch's read mask.
run-stepped : (s : Store) (l : List ℕ) (r n : ℕ) (q : Place Version) (x y : ℕ)
    → r < s.counts.runs → let z = s.counts in
    set (set (put_place z (written s l) (snapshot_at z r n) q) (run_at_of z r + done_offset) x)
    (read_at_of z r n) y
    ≡ written (with_run s r (with_job_done (s.run r) n x (record { read = y; snapshot = q }))) l
unfolding with_run
run-stepped s l r n q x y h =
    let z = s.counts in
    let b : Branch = record { read = (branch_of n (s.run r)).read; snapshot = q } in
    let a = with_branch (s.run r) n b in
    let t = with_run s r a in
    let here : t.run r ≡ a = put_at_same s.run r a in
    let after : Run → Store = λ c.
    with_run t r (with_job_done c n x (record { read = y; snapshot = (branch_of n c).snapshot }))
    in
    rw (put-card s l r n q h)
    (put-masks t l r n x y h ∙ ap (λ (c : Run). written (after c) l) here
    ∙ ap (λ (c : Run). written (with_run t r c) l) (done-twice (s.run r) n (s.run r).done x y b)
    ∙ ap (λ (s : Store). written s l) (run-twice s r a _))

-- The cache before them.
step-stored : (l : List ℕ) (z : Counts) (r n o : ℕ) (p q : Place Version) (x y : ℕ) → FormWith l z
    → r < z.runs
    → set (set (put_place z (written (with_cache (store_of l) o p) l) (snapshot_at z r n) q)
    (run_at_of z r + done_offset) x) (read_at_of z r n) y
    ≡ written (with_run (with_cache (store_of l) o p) r
    (with_job_done ((store_of l).run r) n x (record { read = y; snapshot = q }))) l
unfolding with_cache with_sites
step-stored l z r n o p q x y H h =
    let same = form-counts l z H in
    rw (← same) (run-stepped (with_cache (store_of l) o p) l r n q x y (rw same h))

-- ---- by what was found

-- The store with the cache that has taken T, and a true mark.
abbrev pub shelved : Store → ℕ → ℕ → ℕ → Store
shelved s r j n = with_cache s (step_site s r j n) (step_cache s r j n)

module _ (l : List ℕ) (z : Counts) (r j n : ℕ) (v : Visit) (t : Trial)
    (F : Finds l z r j n v t) where
  abbrev s : Store
  s = store_of l

  used : UsedRun l z r × (j < (s.run r).jobs)
  used = found-run l z r j n v t F

  counts : s.counts ≡ z
  counts = found-counts l z r j n v t F

  site-low : step_site s r j n < z.sites
  site-low = found-site l z r j n v t F

  -- ---- where the places lie

  site-at : v.cache ≡ site_at z (step_site s r j n)
  site-at = found-cache-at l z r j n v t F

  snapshot-at : v.snapshot ≡ snapshot_at z r n
  snapshot-at = found-snapshot-at l z r j n v t F

  pub merge_areas : Areas (length l) z v.snapshot v.cache
  merge_areas =
      let S = form-area l z F.form in
      rw (site-at, snapshot-at)
      (snapshot-site (length l) z S.ranged S.fits r n _ used.0.run site-low)

  -- ---- the cache

  fits : (FitPlace z s.master) × (FitPlace z (s.site (step_site s r j n)).cache)
  fits =
      let P = (place-laws z).fits l in (
        rw (found-master l z r j n v t F) (P v.master),
        rw (found-cache l z r j n v t F) (P v.cache),
      )

  -- The cache with the keys of T.
  taken_as : choice (test_bit t.taken) s.master (s.site (step_site s r j n)).cache
      ≡ step_cache s r j n
  unfolding step_cache step_fetch
  taken_as =
      let start = step_start s r j n in
      let old = (s.site (step_site s r j n)).cache in
      let mask : t.taken
      ≡ mask_below z.keys (fetch_set (versions z.writers) z.keys s.master old start) =
      found-taken l z r j n v t F
      ∙ ap (λ (y : Counts). mask_below y.keys (fetch_set (versions y.writers) y.keys
      s.master old start)) counts in
      taken-cache z s.master old start t.taken mask fits.0 fits.1
      ∙ ap (λ (y : Counts). fetched (versions y.writers) y.keys s.master old start)
      (sym counts)

  cache-fits : FitPlace z (step_cache s r j n)
  cache-fits = rw (← taken_as) (fit-choice z (test_bit t.taken) _ _ fits.0 fits.1)

  pub site-taken : (m : List ℕ)
      → m ≡ written (with_cache s v.site
      (choice (test_bit t.taken) s.master (s.site v.site).cache)) l
      → m ≡ written (shelved s r j n) l
  site-taken m e =
      let o = step_site s r j n in
      let at-site : m ≡ written (with_cache s o
      (choice (test_bit t.taken) s.master (s.site o).cache)) l =
      rw (← found-site-at l z r j n v t F) e in
      at-site ∙ ap (λ (p : Place Version). written (with_cache s o p) l) taken_as

  -- ---- the snapshot, on the buffer with that cache

  module _ (m : List ℕ) (e : m ≡ written (shelved s r j n) l) where
    store-there : store_of m ≡ shelved s r j n
    store-there =
        let o = step_site s r j n in
        let p = step_cache s r j n in
        rw e (store-back (shelved s r j n) l (fit-cache s (form-fine l F.form.form).fits o p
        (subst (λ (y : Counts). o < y.sites) (sym counts) site-low)
        (subst (λ (y : Counts). FitPlace y p) (sym counts) cache-fits)))

    counts-there : z ≡ counts_in m
    unfolding with_cache with_sites
    counts-there = sym counts ∙ rw e (sym (counts-back (shelved s r j n) l))

    cache-back : read_place z m v.cache ≡ step_cache s r j n
    unfolding with_cache with_sites site_with
    cache-back =
        let o = step_site s r j n in
        rw site-at (sym (cache_in m z counts-there o site-low)
        ∙ ap (λ (t : Store). (t.site o).cache) store-there
        ∙ ap (λ (x : Site). x.cache) (put_at_same s.site o _))

    snapshot-back : read_place z m v.snapshot ≡ (step_branch s r j n).snapshot
    unfolding with_cache with_sites
    snapshot-back =
        rw snapshot-at (sym (snapshot_in m z counts-there r n used.0.run)
        ∙ ap (λ (t : Store). (branch_of n (t.run r)).snapshot) store-there)

    pub merged : put_place z m v.snapshot (choice (test_bit t.pulled)
        (λ k. merge z.writers k (read_place z m v.snapshot k) (read_place z m v.cache k))
        (read_place z m v.snapshot))
        ≡ put_place z m v.snapshot (step_snapshot s r j n)
    unfolding step_snapshot pulled step_pull
    merged =
        let old = (step_branch s r j n).snapshot in
        let new : Counts → Place Version =
        λ y k. merge y.writers k (old k) (step_cache s r j n k) in
        rw (snapshot-back, cache-back)
        (ap (λ (y : Counts). put_place z m v.snapshot (choice (test_bit t.pulled) (new y) old))
        (sym counts)
        ∙ chosen z m v.snapshot t.pulled (step_pull s r j n) (new s.counts) old
        (found-pulled l z r j n v t F
        ∙ ap (λ (y : Counts). mask_below y.keys (step_pull s r j n)) counts))

  -- ---- all that is stored

  -- at, read: where the run begins, and where its branch's read mask stands.
  pub step_left : (at read : ℕ) → at ≡ run_at_of z r → read ≡ read_at_of z r n
      → set (set (put_place z (written (shelved s r j n) l) v.snapshot
      (step_snapshot s r j n)) (at + done_offset) (with_bit (get_or l (at + done_offset) 0) j))
      read (bit_or v.read v.reads)
      ≡ leaves (step_done s r j n) l
  unfolding leaves step_done
  step_left at read e f =
      rw (
        e,
        f,
        done-word l z r used.0,
        found-read l z r j n v t F,
        found-reads l z r j n v t F,
        snapshot-at,
      )
      (step-stored l z r n (step_site s r j n) (step_cache s r j n) (step_snapshot s r j n) _ _
      F.form used.0.run)
