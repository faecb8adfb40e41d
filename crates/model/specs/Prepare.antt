-- Prepare: what the jobs of a run read is fetched, and the snapshot ("card") becomes the merge of
-- their caches. fetch_reads, prepared_caches, sites_merged serve versions and copies alike.
-- Assumes nothing.
use Rattle.std.specs.Prelude.{Bool, cond, not, ◌&&◌, [], ◌∷◌, ℕ, eqb}
use Rattle.words.specs.Tests.{Items, any_below}
use Rattle.words.specs.Numbers.{fold_below}
use Rattle.words.specs.Lists.{put_at}
use Rattle.masks.specs.Mask.{test_bit, mask_below}
use Rattle.model.specs.Algebra.{Algebra, Place, lacking}
use Rattle.model.specs.Version.{Version, held, versions}
use Rattle.model.specs.Sets.{fetch_set, fetched, unfetchable}
use Rattle.model.specs.Tail.{barred}
use Rattle.model.specs.Store.{Job, forked_mark, Store, planned, with_caches, with_run, with_snapshot}
use Rattle.model.specs.Allowance.{over}
use Rattle.model.specs.Outcome.{Outcome, done, refuse, unless, prepare_row, run_cause}

module _ {A : Type 0} (alg : Algebra A) (K : ℕ) (master : Place A) (job : ℕ → Job) where
  -- What job j has to fetch: "its reads that its shelf lacks".
  unfoldable pub job_start : ℕ → (ℕ → Place A) → Items
  job_start j cache = lacking alg K (cache (job j).site) (test_bit (job j).reads)

  -- The caches after job j's fetch.
  unfoldable pub fetch_reads : ℕ → (ℕ → Place A) → ℕ → Place A
  fetch_reads j cache =
      put_at cache (job j).site (fetched alg K master (cache (job j).site) (job_start j cache))

  -- "for each job in number order": the caches after the first n jobs' fetches.
  unfoldable pub prepared_caches : ℕ → (ℕ → Place A) → ℕ → Place A
  prepared_caches n cache = fold_below n fetch_reads cache

  -- T of job j.
  abbrev pub job_fetch : ℕ → (ℕ → Place A) → Items
  job_fetch j cache = fetch_set alg K master (cache (job j).site) (job_start j cache)

  -- CR 9: one of n jobs fetches a key that its site may not hold. A key that a job reads there and
  -- that may not be held isn't in the cache (form asks it), so this job or an earlier one at the
  -- site fetches it.
  unfoldable pub unentitled : (ℕ → ℕ) → ℕ → (ℕ → Place A) → Bool
  unentitled right n cache =
      any_below n (λ j. barred K (right (job j).site) (job_fetch j (prepared_caches j cache)))

  -- A key that one of n jobs has to fetch isn't held by the master.
  unfoldable pub unpreparable : ℕ → (ℕ → Place A) → Bool
  unpreparable n cache =
      any_below n (λ j. unfetchable alg K master (job_start j (prepared_caches j cache)))

-- Some of n jobs is at site o.
unfoldable pub uses_site : ℕ → (ℕ → Job) → Items
uses_site n job o = any_below n (λ j. eqb (job j).site o)

-- "the merge, over the jobs' offices (lowest number first, each once), of their shelves cut down
-- to the plan's sheets"
unfoldable pub sites_merged : {A : Type 0} → Algebra A → ℕ → Items → Items → (ℕ → Place A) → Place
    A
sites_merged alg N sites plan cache k =
    fold_below N (λ o a. cond (sites o && plan k) (alg.merge k a (cache o k)) a) alg.nothing

unfoldable pub site_caches : Store → ℕ → Place Version
site_caches s o = (s.site o).cache

-- The caches after the fetches of run r's jobs.
unfoldable pub prepare_caches : Store → ℕ → ℕ → Place Version
prepare_caches s r =
    let z = s.counts in
    let a = s.run r in
    prepared_caches (versions z.writers) z.keys s.master a.job a.jobs (site_caches s)

-- CR 7: caches that "would leave any shelf above its allowance".
unfoldable pub any_over : Store → (ℕ → Place Version) → Bool
any_over s cache = any_below s.counts.sites (λ o. over s.counts (s.site o) (cache o))

-- 14: "prepare or issue when forked" (CR 10).
unfoldable pub prepare_cause : Store → ℕ → ℕ
prepare_cause s r =
    let z = s.counts in
    let a = s.run r in
    let alg = versions z.writers in
    run_cause s prepare_row r
    (refuse (eqb a.mark forked_mark) 14
    (refuse (not (eqb a.done 0)) 6
    (refuse (unentitled alg z.keys s.master a.job s.tail.may_hold a.jobs
    (site_caches s)) 13
    (refuse (unpreparable alg z.keys s.master a.job a.jobs (site_caches s)) 7
    (refuse (any_over s (prepare_caches s r)) 12
    0)))))

unfoldable pub prepare_snapshot : Store → ℕ → Place Version
prepare_snapshot s r =
    let z = s.counts in
    let a = s.run r in
    sites_merged (versions z.writers) z.sites (uses_site a.jobs a.job)
    (planned a.jobs a.job) (prepare_caches s r)

-- "Answers the carried mask."
unfoldable pub prepare_done : Store → ℕ → Outcome
prepare_done s r =
    done (mask_below s.counts.keys (λ k. held (prepare_snapshot s r k)) ∷ [])
    (with_run (with_caches s (prepare_caches s r)) r
    (with_snapshot (s.run r) (prepare_snapshot s r)))

unfoldable pub prepare_rule : ℕ → Store → Outcome
prepare_rule r s = unless (prepare_cause s r) (prepare_done s r)
