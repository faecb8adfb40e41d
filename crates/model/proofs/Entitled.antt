-- What calls that aren't refused keep to (CR 9).
-- step-entitled, prepare-entitled: jobs read only what their sites may hold. issue-entitled: only
-- what its writer may save is saved. mayhold-keeps, mayhold-mask-only: where nothing that is held
-- is taken away.
-- Assumes nothing.
use mathlib.Core.Path.{◌≡◌, refl, sym, ap, ◌∙◌, fun_ext}
use mathlib.Core.Bool.{false, ◌&&◌, ◌||◌, So}
use mathlib.Core.List.{[], ◌∷◌}
use Prim.Native.Nat.{ℕ, ◌≤◌, ◌<◌}
use native.Mathlib.Omega.{arith}
use lib.Dec.{eqb, leb}
use Rattle.words.specs.Tests.{Items, none}
use Rattle.words.specs.Lists.{put_at}
use Rattle.words.proofs.Bools.{test, and_intro, or_left, leb-le, leb-gt, eq-eqb}
use Rattle.words.proofs.Tests.{any-intro, any_none}
use Rattle.words.proofs.Lists.{put_at_itself}
use Rattle.masks.specs.Mask.{test_bit}
use Rattle.reach.proofs.Closures.{closure-start, closure-same, closure-none}
use Rattle.model.specs.Algebra.{Place, lacking}
use Rattle.model.specs.Version.{Version, held, versions}
use Rattle.model.specs.Sets.{fetch_set, draw_set, evict_set, evicted}
use Rattle.model.specs.Tail.{barred}
use Rattle.model.specs.Store.{Site, Store, site_with, with_sites, with_cache, with_tail_of, with_may_hold}
use Rattle.model.specs.Outcome.{Outcome, done, prepare_row, allowed, run_cause}
use Rattle.model.specs.Prepare.{unentitled, site_caches, prepare_cause}
use Rattle.model.specs.Step.{step_site, step_reads, step_fetch, step_barred}
use Rattle.model.specs.Issue.{issue_cause}
use Rattle.model.specs.Calls.Rights.{taken_away, mayhold_cache, mayhold_done}
use Rattle.model.proofs.Outcomes.{no-cause, no-lack, allowed-used}
use Rattle.model.proofs.Draws.{lacking-iff}
use Rattle.model.proofs.Rights.{unbarred-at}
use Rattle.model.proofs.AtOnce.{site_reads, site_set, unentitled-sites}
use Rattle.model.proofs.Steps.{Accepted}
use Rattle.model.proofs.Formed.{Unbarred, Formed}
use Rattle.model.proofs.Plans.{valid-out, plan-out}

-- "a job may not read it at that office, even from the card"
pub step-entitled : (s : Store) (r j n k : ℕ) → Accepted s r j n → k < s.counts.keys
    → So (step_reads s r j n k) → So (test_bit (s.tail.may_hold (step_site s r j n)) k)
unfolding step_barred
step-entitled s r j n k a l p =
    unbarred-at s.counts.keys (s.tail.may_hold (step_site s r j n))
    (λ k. step_reads s r j n k || step_fetch s r j n k) a.entitled k l
    (or_left (step_fetch s r j n k) p)

pub issue-entitled : (s : Store) (r w S k : ℕ) → issue_cause s r w S ≡ 0 → k < s.counts.keys
    → So (test_bit S k) → So (test_bit (s.tail.may_save w) k)
unfolding issue_cause run_cause
issue-entitled s r w S k e l p =
    let a = no-cause _ 3 _ (omega arith) e in
    let b = no-cause _ 3 _ (omega arith) a.1 in
    let c = no-cause _ 3 _ (omega arith) b.1 in
    let d = no-cause _ 4 _ (omega arith) c.1 in
    let m = no-cause _ 14 _ (omega arith) d.1 in
    let f = no-cause _ 6 _ (omega arith) m.1 in
    let g = no-cause _ 13 _ (omega arith) f.1 in
    unbarred-at s.counts.keys (s.tail.may_save w) (test_bit S) g.0 k l p

-- ---- prepare

-- The run of a prepare that isn't refused, and the right of its jobs.
prepared : (s : Store) (r : ℕ) → prepare_cause s r ≡ 0
    → (r < s.counts.runs) × (1 ≤ (s.run r).state)
    × (unentitled (versions s.counts.writers) s.counts.keys s.master (s.run r).job
    s.tail.may_hold (s.run r).jobs (site_caches s) ≡ false)
unfolding prepare_cause run_cause allowed
prepared s r e =
    let a = no-cause (leb s.counts.runs r) 3 _ (omega arith) e in
    let b = no-lack (allowed prepare_row (s.run r).state) 4 _ (omega arith) a.1 in
    let m = no-cause _ 14 _ (omega arith) b.1 in
    let c = no-cause _ 6 _ (omega arith) m.1 in (
      leb-gt s.counts.runs r a.0,
      allowed-used prepare_row (s.run r).state refl b.0,
      (no-cause _ 13 _ (omega arith) c.1).0,
    )

-- A read is in the cache, which has nothing that is barred, or it is fetched.
pub prepare-entitled : (s : Store) (r j k : ℕ) → Formed s → prepare_cause s r ≡ 0
    → j < (s.run r).jobs → k < s.counts.keys → So (test_bit ((s.run r).job j).reads k)
    → So (test_bit (s.tail.may_hold ((s.run r).job j).site) k)
unfolding site_caches fetch_set draw_set
prepare-entitled s r j k F e h l p =
    let z = s.counts in
    let alg = versions z.writers in
    let K = z.keys in
    let a = s.run r in
    let n = a.jobs in
    let o = (a.job j).site in
    let right = s.tail.may_hold in
    let cache = site_caches s in
    let free = prepared s r e in
    let P = plan-out z a free.1 (F.run r free.0) in
    let low : (i : ℕ) → i < n → (a.job i).site < z.sites =
    λ i q. (valid-out z i (a.job i) (P.jobs.valid i q)).site in
    let T = site_set alg K s.master a.job cache n o in
    let clear = any_none z.sites
    (λ o. barred K (right o) (site_set alg K s.master a.job cache n o))
    (sym (unentitled-sites alg K s.master a.job cache right z.sites n low) ∙ free.2)
    o (low j h) in
    let read : So (site_reads n a.job o k) =
    any-intro n (λ i. eqb (a.job i).site o && test_bit (a.job i).reads k) j h
    (and_intro (eq-eqb o o refl) p) in
    test (held (cache o k))
    (λ y. unbarred-at K (right o) (λ k. held (cache o k)) (F.right o (low j h)) k l y)
    (λ m. unbarred-at K (right o) T clear k l
    (closure-start K _ (lacking alg K (cache o) (site_reads n a.job o)) k
    ((lacking-iff alg K (cache o) (site_reads n a.job o) k).1 (read, m))))

-- ---- mayhold

-- "Taking a sheet from an office evicts it there": where no key that is held is taken away,
module _ (s : Store) (o m : ℕ) (u : Unbarred s.counts m (s.site o).cache) where
  abbrev cache : Place Version
  cache = (s.site o).cache

  abbrev start : Items
  start = taken_away (versions s.counts.writers) cache m

  none-taken : (k : ℕ) → k < s.counts.keys → start k ≡ false
  unfolding taken_away
  none-taken k l =
      test (held (cache k))
      (λ y. rw (y, unbarred-at s.counts.keys m (λ k. held (cache k)) u k l y))
      (λ n. rw n)

  -- every key stays,
  pub mayhold-keeps : (k : ℕ) → k < s.counts.keys → mayhold_cache s o m k ≡ cache k
  unfolding mayhold_cache evicted evict_set
  mayhold-keeps k l =
      let out : evict_set (versions s.counts.writers) s.counts.keys cache start k ≡ false =
      closure-same s.counts.keys _ _ start none (λ _ _ _ _. refl) none-taken k l
      ∙ ap (λ (x : Items). x k) (closure-none s.counts.keys _) in
      rw out

  -- and with nothing held beyond K, as in a store that words stand for, the mask alone changes.
  pub mayhold-mask-only : Formed s → o < s.counts.sites
      → ((k : ℕ) → s.counts.keys ≤ k → held (cache k) ≡ false)
      → mayhold_done s o m ≡ done (0 ∷ []) (with_may_hold s o m)
  unfolding mayhold_done with_cache site_with with_sites with_tail_of mayhold_cache evicted
      evict_set
      taken_away
  mayhold-mask-only F l b =
      let none-at : start ≡ none = fun_ext (λ k.
      test (leb s.counts.keys k) (λ y. rw (b k (leb-le _ _ y))) (λ n.
      none-taken k (leb-gt s.counts.keys k n))) in
      let same : mayhold_cache s o m ≡ cache = fun_ext (λ k.
      rw (none-at, closure-none s.counts.keys)) in
      let site : site_with s (s.site o) (mayhold_cache s o m) ≡ s.site o =
      rw same (rw (← F.mark o l) refl) in
      let next : (ℕ → Site) → Outcome = λ f. done (0 ∷ []) (with_may_hold (with_sites s f) o m) in
      ap (λ x. next (put_at s.site o x)) site ∙ ap next (put_at_itself s.site o)
