-- A step whose reads are all on the card: nothing is fetched, nothing pulled, and the store stays
-- but for the run's masks.
-- pulled-none: from nothing nothing comes. site-again, cache-again: a true mark set again.
-- Carried: of a run. carried_step: what a step of such a run comes to, on any line.
-- Assumes nothing.
use mathlib.Core.Path.{◌≡◌, refl, sym, ap, ◌∙◌, fun_ext}
use mathlib.Core.Bool.{Bool, true, false, not, ◌&&◌, ◌||◌, So}
use mathlib.Core.Logic.{◌⊎◌, inl, inr, ◌≢◌, ⊎_elim}
use mathlib.Core.List.{[], ◌∷◌}
use Prim.Native.Nat.{ℕ, zero, suc, ◌<◌, ◌^◌}
use native.Mathlib.Omega.{arith}
use lib.Dec.{leb}
use Rattle.words.specs.Tests.{Items, none, any_below}
use Rattle.words.proofs.Bools.{test, clash, gt-leb, le-leb, ne_eqb, and-false-right, or_left, or-false-right}
use Rattle.words.proofs.Tests.{below_or_not, any-intro, any-no}
use Rattle.words.proofs.Lists.{put_at_itself}
use Rattle.masks.specs.Mask.{test_bit, mask_below}
use Rattle.masks.proofs.Bits.{test-high}
use Rattle.masks.proofs.Sets.{mask-same, mask-no, mask-of}
use Rattle.reach.proofs.Closures.{closure-none}
use Rattle.sizes.specs.declared.Counts.{Counts}
use Rattle.model.specs.Algebra.{Algebra, Place, lacking}
use Rattle.model.specs.Version.{held, versions}
use Rattle.model.specs.Sets.{draws, draw_set, unfetchable, pull_set, pulled}
use Rattle.model.specs.Tail.{barred}
use Rattle.model.specs.Store.{Run, forked_mark, Store, planned, site_marked, site_with, with_sites, with_cache, with_run}
use Rattle.model.specs.Allowance.{over}
use Rattle.model.specs.Outcome.{done, refuse, unless, allowed, open_state}
use Rattle.model.specs.Step.{read_start, step_site, step_reads, step_start, step_fetch, step_cache, step_plan, step_pull, step_snapshot, step_moved, step_barred, job_limit, off_branch, job_cause, step_cause, step_done, step_rule_of}
use Rattle.model.proofs.Allowances.{no-over}
use Rattle.model.proofs.Draws.{lacking-iff, fetch_set-none, fetched-none, pulled-out}
use Rattle.model.proofs.Formed.{well-out}
use Rattle.model.proofs.Plans.{valid-out, Plan, plan-out}
use Rattle.layout.proofs.Fit.{marks-beyond}
use Rattle.layout.proofs.Follow.{Fine}
use Rattle.booked.specs.Prepared.{booked_cause, ran_on_of, Smooth}

and_true_right : (b : Bool) → b && true ≡ b
and_true_right true = refl
and_true_right false = refl

-- ---- from nothing

module _ {A : Type 0} (alg : Algebra A) (K : ℕ) where
  unfetchable-none : (master : Place A) → unfetchable alg K master none ≡ false
  unfolding unfetchable lacking
  unfetchable-none master = any-no K _ (λ i _. refl)

  -- C is empty where the card holds all that is read, and the card stays.
  module _ (plan : Items) (snapshot cache : Place A) (reads : Items)
      (e : lacking alg K snapshot reads ≡ none) where
    pull_set-none : pull_set alg K plan snapshot cache reads ≡ none
    unfolding pull_set draw_set
    pull_set-none = rw e (closure-none K (draws alg K plan snapshot cache))

    pulled-none : pulled alg K plan snapshot cache reads ≡ snapshot
    pulled-none =
        fun_ext (λ k. pulled-out alg K plan snapshot cache reads k
        (ap (λ (m : Items). m k) pull_set-none))

-- A site of a fine store is as it is with its mark set again.
site-again : (s : Store) → Fine s → (o : ℕ)
    → site_with s (s.site o) (s.site o).cache ≡ s.site o
unfolding site_with
site-again s F o =
    ⊎_elim
    (λ h. ap (λ (m : ℕ). site_marked (s.site o) m) (sym ((well-out s F.formed).mark o h)))
    (marks-beyond s F.fits o) (below_or_not o s.counts.sites)

cache-again : (s : Store) → Fine s → (o : ℕ) → with_cache s o (s.site o).cache ≡ s
unfolding with_cache with_sites
cache-again s F o = rw (site-again s F o) (ap (with_sites s) (put_at_itself s.site o))

-- ---- a run that is open and not forked, and whose card holds its plan

pub record Carried (z : Counts) (r : ℕ) (a : Run) : Type 0 where
  pub run_in : r < z.runs
  pub open_run_lem : a.state ≡ open_state
  pub single : a.mark ≢ forked_mark
  pub holds : (k : ℕ) → k < z.keys → So (planned a.jobs a.job k)
      → So (held (a.branch.snapshot k))

-- A step of it on line 0, of one of its jobs.
module _ (s : Store) (r j : ℕ) (F : Fine s) (C : Carried s.counts r (s.run r))
    (l : j < (s.run r).jobs) where
  in_plan : Plan s.counts (s.run r)
  in_plan =
      plan-out s.counts (s.run r) (omega (arith, C.open_run_lem))
      ((well-out s F.formed).run r C.run_in)

  reads-low : ((s.run r).job j).reads < 2 ^ s.counts.keys
  reads-low = (valid-out s.counts j ((s.run r).job j) (in_plan.jobs.valid j l)).reads

  site-low : ((s.run r).job j).site < s.counts.sites
  site-low = (valid-out s.counts j ((s.run r).job j) (in_plan.jobs.valid j l)).site

  -- The card holds all that the job reads,
  read_held : (k : ℕ) → So (step_reads s r j 0 k) → So (held ((s.run r).branch.snapshot k))
  unfolding step_reads planned
  read_held k p =
      ⊎_elim (λ h. C.holds k h (any-intro (s.run r).jobs _ j l p))
      (λ h. clash p (test-high ((s.run r).job j).reads s.counts.keys k reads-low h))
      (below_or_not k s.counts.keys)

  none-lacked : lacking (versions s.counts.writers) s.counts.keys
      (s.run r).branch.snapshot (step_reads s r j 0) ≡ none
  none-lacked =
      let alg = versions s.counts.writers in
      fun_ext (λ k. test (lacking alg s.counts.keys (s.run r).branch.snapshot
      (step_reads s r j 0) k)
      (λ y. let h = (lacking-iff alg s.counts.keys (s.run r).branch.snapshot
      (step_reads s r j 0) k).0 y in clash (read_held k h.0) h.1)
      (λ n. n))

  -- so nothing is fetched,
  none-start : step_start s r j 0 ≡ none
  unfolding step_start read_start lacking
  none-start = rw none-lacked refl

  none-fetched : step_fetch s r j 0 ≡ none
  unfolding step_fetch
  none-fetched =
      rw none-start
      (fetch_set-none (versions s.counts.writers) s.counts.keys s.master
      (s.site (step_site s r j 0)).cache)

  idle-fetchable : unfetchable (versions s.counts.writers) s.counts.keys s.master
      (step_start s r j 0) ≡ false
  idle-fetchable =
      rw none-start
      (unfetchable-none (versions s.counts.writers) s.counts.keys s.master)

  -- the shelf stays, and so is within its allowance,
  idle-cache : step_cache s r j 0 ≡ (s.site (step_site s r j 0)).cache
  unfolding step_cache
  idle-cache =
      rw none-start
      (fetched-none (versions s.counts.writers) s.counts.keys s.master
      (s.site (step_site s r j 0)).cache)

  idle-fits : over s.counts (s.site (step_site s r j 0)) (step_cache s r j 0) ≡ false
  unfolding step_site
  idle-fits =
      let x = s.site ((s.run r).job j).site in
      rw idle-cache (no-over s.counts x x.cache
      ((well-out s F.formed).room ((s.run r).job j).site site-low).1)

  -- a right that is missing is one to what is read,
  idle-barred : step_barred s r j 0 ≡ barred s.counts.keys
      (s.tail.may_hold ((s.run r).job j).site) (test_bit ((s.run r).job j).reads)
  unfolding step_barred step_site step_reads
  idle-barred =
      let R : Items = test_bit ((s.run r).job j).reads in
      let same : (λ k. R k || step_fetch s r j 0 k) ≡ R =
      rw none-fetched (fun_ext (λ k. or-false-right (R k))) in
      ap (barred s.counts.keys (s.tail.may_hold ((s.run r).job j).site)) same

  -- C is empty,
  none-pulled : step_pull s r j 0 ≡ none
  unfolding step_pull
  none-pulled =
      pull_set-none (versions s.counts.writers) s.counts.keys (step_plan s r j 0)
      (s.run r).branch.snapshot (step_cache s r j 0) (step_reads s r j 0) none-lacked

  idle-snapshot : step_snapshot s r j 0 ≡ (s.run r).branch.snapshot
  unfolding step_snapshot
  idle-snapshot =
      pulled-none (versions s.counts.writers) s.counts.keys (step_plan s r j 0)
      (s.run r).branch.snapshot (step_cache s r j 0) (step_reads s r j 0) none-lacked

  -- nothing moves, and the step is done.
  idle-moved : any_below s.counts.keys (step_moved s r j 0) ≡ false
  unfolding step_moved
  idle-moved = any-no s.counts.keys _ (λ i _. rw none-pulled refl)

  idle-done : step_done s r j 0
      ≡ done (((s.run r).job j).reads ∷ 0 ∷ 0 ∷ []) (with_run s r (ran_on_of (s.run r) j))
  unfolding step_done ran_on_of step_reads
  idle-done =
      let K = s.counts.keys in
      let R : Items = test_bit ((s.run r).job j).reads in
      let C₀ = step_pull s r j 0 in
      let card : mask_below K (λ k. R k && not (C₀ k)) ≡ ((s.run r).job j).reads =
      mask-same K (λ k. R k && not (C₀ k)) R (λ k _. rw none-pulled (and_true_right (R k)))
      ∙ mask-of K ((s.run r).job j).reads reads-low in
      let shelf : mask_below K (λ k. R k && (C₀ k && not (step_fetch s r j 0 k))) ≡ 0 =
      mask-no K _ (λ k _. rw none-pulled (and-false-right (R k))) in
      let master : mask_below K (λ k. R k && (C₀ k && step_fetch s r j 0 k)) ≡ 0 =
      mask-no K _ (λ k _. rw none-pulled (and-false-right (R k))) in
      let same : with_cache s (step_site s r j 0) (step_cache s r j 0) ≡ s =
      rw idle-cache (cache-again s F (step_site s r j 0)) in
      rw (card, shelf, master, same, idle-snapshot) refl

-- ---- the step as an equation

-- A run that isn't forked has line 0 alone.
off-other : (mark n : ℕ) → mark ≢ forked_mark → So (off_branch mark (suc n))
unfolding off_branch
off-other mark zero h = rw (ne_eqb mark forked_mark h) refl
off-other mark (suc n) h = or_left _ (le-leb 2 (suc (suc n)) (omega arith))

-- A job or a line that an open run hasn't: whatever the rows below say.
early : (a : Run) (j n : ℕ) → a.state ≡ open_state
    → So (leb a.jobs j) ⊎ So (off_branch a.mark n)
    → (rest : ℕ) → job_cause a j n rest ≡ refuse (leb a.jobs j) 3 14
unfolding job_cause job_limit allowed refuse
early a j n e (inl y) rest = rw (e, y) refl
early a j n e (inr y) rest = rw (e, y) refl

module _ (s : Store) (r j : ℕ) (F : Fine s) (C : Carried s.counts r (s.run r)) where
  -- Turned down there,
  step-early : (n : ℕ) → So (leb (s.run r).jobs j) ⊎ So (off_branch (s.run r).mark n)
      → Smooth s r j n (step_rule_of r j n s)
  unfolding step_rule_of step_cause booked_cause refuse unless
  step-early n h =
      let a = s.run r in
      let cause = early a j n C.open_run_lem h in
      rw (gt-leb s.counts.runs r C.run_in, cause _, cause _)
      (test (leb a.jobs j) (λ y. rw y refl) (λ y. rw y refl))

  -- and by the same rows on line 0, since nothing is fetched and nothing moves.
  step-idle : j < (s.run r).jobs → Smooth s r j 0 (step_rule_of r j 0 s)
  unfolding step_rule_of step_cause booked_cause refuse
  step-idle l =
      rw (
        idle-barred s r j F C l,
        idle-fetchable s r j F C l,
        idle-fits s r j F C l,
        idle-moved s r j F C l,
        idle-done s r j F C l,
      ) refl

-- No 7, no 12, no break: whatever the master and the shelves have.
pub carried_step : (s : Store) (r j n : ℕ) → Fine s → Carried s.counts r (s.run r)
    → Smooth s r j n (step_rule_of r j n s)
carried_step s r j zero F C =
    ⊎_elim (step-idle s r j F C)
    (λ h. step-early s r j F C zero (inl (le-leb (s.run r).jobs j h)))
    (below_or_not j (s.run r).jobs)
carried_step s r j (suc n) F C =
    step-early s r j F C (suc n) (inr (off-other (s.run r).mark n C.single))
