-- After an accepted prepare the card holds the whole plan.
-- prepared-held: a cache after the fetches holds what the jobs at its site read, for every
-- algebra. merged-held: a merge of caches holds what one of them holds. prepared-plan: the card.
-- Assumes nothing.
use mathlib.Core.Path.{◌≡◌, refl}
use mathlib.Core.Bool.{Bool, true, false, cond, So, ◌&&◌}
use mathlib.Core.Logic.{inl, inr}
use Prim.Native.Nat.{ℕ, zero, suc, ◌<◌}
use native.Mathlib.Omega.{arith}
use native.Mathlib.Nat.{not-suc-le-zero}
use Rattle.words.specs.Tests.{Items}
use Rattle.words.specs.Numbers.{fold_below}
use Rattle.words.proofs.Bools.{test, and_intro, eq-eqb}
use Rattle.words.proofs.Tests.{below-cases, any-intro, any_some, any_none}
use Rattle.words.proofs.Lists.{put_at_cases}
use Rattle.masks.specs.Mask.{test_bit}
use Rattle.model.specs.Algebra.{Algebra, Place}
use Rattle.model.specs.Version.{Version, held, merge, versions}
use Rattle.model.specs.Sets.{fetched, unfetchable}
use Rattle.model.specs.Store.{Job, Store, planned}
use Rattle.model.specs.Prepare.{job_start, fetch_reads, prepared_caches, unpreparable, uses_site, sites_merged, site_caches, prepare_caches, prepare_snapshot}
use Rattle.model.proofs.Draws.{lacking-iff, fetched-held}
use Rattle.model.proofs.Merges.{merge-held-left, merge-held-right}

module _ {A : Type 0} (alg : Algebra A) (K : ℕ) (master : Place A) (job : ℕ → Job)
    (cache : ℕ → Place A) where
  -- What is fetched in turn for the first n jobs.
  abbrev caches : ℕ → ℕ → Place A
  caches n = prepared_caches alg K master job n cache

  fetchable : (n : ℕ) → unpreparable alg K master job n cache ≡ false → (j : ℕ) → j < n
      → unfetchable alg K master (job_start alg K master job j (caches j)) ≡ false
  unfolding unpreparable
  fetchable n u =
      any_none n (λ j. unfetchable alg K master (job_start alg K master job j (caches j))) u

  -- A job's own fetch brings what it reads; later fetches keep what is held.
  turns : (j k n : ℕ) → ((i : ℕ) → i < n
      → unfetchable alg K master (job_start alg K master job i (caches i)) ≡ false)
      → j < n → k < K → So (test_bit (job j).reads k) → So (alg.held (caches n (job j).site k))
  unfolding prepared_caches fetch_reads job_start fold_below
  turns j k zero f b h p = absurd (not-suc-le-zero b)
  turns j k (suc n) f b h p =
      let c = caches n in
      let s = (job n).site in
      let start = job_start alg K master job n c in
      let low : j < n → So (alg.held (c (job j).site k)) =
      λ i. turns j k n (λ i m. f i (omega arith)) i h p in
      put_at_cases (λ (x : Place A). So (alg.held (x k))) c s
      (fetched alg K master (c s) start) (job j).site
      (λ e. fetched-held alg K master (c s) start (f n (omega arith)) k h
      (test (alg.held (c s k)) (λ y. inr y) (λ m. below-cases j n b
      (λ i. inl ((lacking-iff alg K (c s) (test_bit (job n).reads) k).1 (rw (← i) p, m)))
      (λ i. inr (rw (← e) (low i))))))
      (λ e. below-cases j n b (λ i. absurd (e (rw i refl))) low)

  pub prepared-held : (n : ℕ) → unpreparable alg K master job n cache ≡ false
      → (j k : ℕ) → j < n → k < K → So (test_bit (job j).reads k)
      → So (alg.held (prepared_caches alg K master job n cache (job j).site k))
  prepared-held n u j k l h p = turns j k n (fetchable n u) l h p

-- A merge of versions of key k over the sites holds the key if one of the sites does.
pub merged-held : (W N k : ℕ) (sites plan : Items) (cache : ℕ → Place Version) (o : ℕ) → o < N
    → So (sites o) → So (plan k) → So (held (cache o k))
    → So (held (sites_merged (versions W) N sites plan cache k))
unfolding sites_merged fold_below
merged-held W zero k sites plan cache o l s p h = absurd (not-suc-le-zero l)
merged-held W (suc N) k sites plan cache o l s p h =
    let v : Version = sites_merged (versions W) N sites plan cache k in
    below-cases o N l
    (λ e. here (sites N && plan k) v (cache N k) (and_intro {a = sites N} (rw (← e) s) p)
    (rw (← e) h))
    (λ i. kept (sites N && plan k) v (cache N k) (merged-held W N k sites plan cache o i s p h))
  where
    here : (b : Bool) (v x : Version) → So b → So (held x) → So (held (cond b (merge W k v x) v))
    here b v x y q = rw y (merge-held-right W k v x q)

    kept : (b : Bool) (v x : Version) → So (held v) → So (held (cond b (merge W k v x) v))
    kept true v x q = merge-held-left W k v x q
    kept false v x q = q

-- "after prepare the card holds the whole plan"
pub prepared-plan : (s : Store) (r : ℕ)
    → ((j : ℕ) → j < (s.run r).jobs → ((s.run r).job j).site < s.counts.sites)
    → unpreparable (versions s.counts.writers) s.counts.keys s.master (s.run r).job
    (s.run r).jobs (site_caches s) ≡ false
    → (k : ℕ) → k < s.counts.keys → So (planned (s.run r).jobs (s.run r).job k)
    → So (held (prepare_snapshot s r k))
unfolding prepare_snapshot prepare_caches planned uses_site
prepared-plan s r low u k l p =
    let z = s.counts in
    let a = s.run r in
    let x = any_some a.jobs (λ j. test_bit (a.job j).reads k) p in
    let o = (a.job x.0).site in
    merged-held z.writers z.sites k (uses_site a.jobs a.job)
    (planned a.jobs a.job) (prepare_caches s r) o (low x.0 x.1)
    (any-intro a.jobs _ x.0 x.1 (eq-eqb o o refl)) p
    (prepared-held (versions z.writers) z.keys s.master a.job (site_caches s)
    a.jobs u x.0 k x.1 l x.2)
