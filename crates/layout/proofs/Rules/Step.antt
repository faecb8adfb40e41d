-- Step keeps a store fine.
-- state-kept: one that breaks, as a join does.
-- was, valid, site: the run before it, and its job. cache-.., snapshot-.., stepped-..: the cache,
-- the snapshot and the run after it.
-- Assumes nothing.
use mathlib.Core.Path.{◌≡◌, refl, ap, ◌∙◌}
use mathlib.Core.Bool.{So, ◌||◌}
use mathlib.Core.Logic.{◌⊎◌, inl, inr}
use Prim.Native.Nat.{ℕ, ◌<◌}
use native.Mathlib.Omega.{arith}
use lib.Bits.{bit_or}
use lib.Dec.{eqb}
use Rattle.words.specs.Tests.{any_below}
use Rattle.words.proofs.Bools.{test, ◌∙˙◌, or_cases, or_right}
use Rattle.masks.specs.Mask.{test_bit, with_bit}
use Rattle.masks.proofs.Bits.{test-or, with-lt}
use Rattle.model.specs.Algebra.{Place}
use Rattle.model.specs.Version.{Version, held, merge, versions}
use Rattle.model.specs.Sets.{pull_set, pulled}
use Rattle.model.specs.Store.{forked_mark, branch_of, Store, with_sites, with_cache, with_run, with_state, with_job_done}
use Rattle.model.specs.Form.{run_formed}
use Rattle.model.specs.Outcome.{broken, broken_state}
use Rattle.model.specs.Step.{step_branch, step_site, step_reads, step_start, step_cache, step_plan, step_snapshot, step_moved, step_fetch, step_barred, step_cause, step_broken, step_done, step_rule_of}
use Rattle.model.proofs.Draws.{pulled-cases}
use Rattle.model.proofs.Allowances.{over_no}
use Rattle.model.proofs.Rights.{unbarred-within, unbarred-fetched}
use Rattle.model.proofs.Steps.{Accepted, accepted, accepted-used, step_snapshot-keeps, step_snapshot-held, step_snapshot-planned, stepped_branch, stepped_run}
use Rattle.model.proofs.Branches.{Snapshot, Vacant}
use Rattle.model.proofs.Forks.{on-second, done-branch, done-reads}
use Rattle.model.proofs.DoneReads.{done_reads-mask}
use Rattle.layout.proofs.Parts.{FitPlace}
use Rattle.layout.proofs.Runs.{FitRun, fit-branch}
use Rattle.layout.proofs.Fit.{fit-choice, fit-merged, fit-cache, fit-run}
use Rattle.model.proofs.FormedPlaces.{VersionFormed, version-merge, PlaceFormed}
use Rattle.model.proofs.Formed.{Unbarred, Formed, well-out}
use Rattle.model.proofs.FormedNext.{formed-cache, formed-run}
use Rattle.model.proofs.Plans.{Valid, valid-out, Plan, plan-out, plan_in}
use Rattle.layout.proofs.Follow.{Fine}
use Rattle.layout.proofs.Kept.{Kept, kept-done, kept-broken, kept-unless, fetched-fits, fetched-formed}

-- A run that breaks: its state alone changes.
pub state-kept : (s : Store) (r : ℕ) → Fine s → r < s.counts.runs → Plan s.counts (s.run r)
    → (m : ℕ) → Kept s (broken m (with_run s r (with_state (s.run r) broken_state)))
unfolding with_state with_run
state-kept s r F h P m =
    let z = s.counts in
    let b = with_state (s.run r) broken_state in
    let fitting = F.fits.run.each r h in
    let fits : FitRun z b = record {
      job = fitting.job;
      snapshot = fitting.snapshot;
      second = fitting.second;
    } in
    kept-broken s (with_run s r b) _ F (fit-run s F.fits r b h fits)
    (formed-run s (well-out s F.formed) r b (plan_in z b (omega arith) (record {
      state = omega arith;
      jobs = P.jobs;
      masks = P.masks;
      mark = record { high = P.mark.high; single = P.mark.single };
      snapshot = P.snapshot;
    }))) refl

module _ (s : Store) (r j n : ℕ) (F : Fine s) (A : Accepted s r j n) where
  formed : Formed s
  formed = well-out s F.formed

  pub was : Plan s.counts (s.run r)
  was = plan-out s.counts (s.run r) (accepted-used A) (formed.run r A.run_in)

  pub valid : Valid s.counts j ((s.run r).job j)
  valid = valid-out s.counts j ((s.run r).job j) (was.jobs.valid j A.job_in_lem)

  pub site : step_site s r j n < s.counts.sites
  unfolding step_site
  site = valid.site

  fitting : FitRun s.counts (s.run r)
  fitting = F.fits.run.each r A.run_in

  -- ---- the cache

  pub cache-fits : FitPlace s.counts (step_cache s r j n)
  unfolding step_cache
  cache-fits =
      fetched-fits s.counts s.master (s.site (step_site s r j n)).cache (step_start s r j n)
      F.fits.master (F.fits.site.each (step_site s r j n) site).cache

  pub cache-formed : PlaceFormed s.counts (step_cache s r j n)
  unfolding step_cache
  cache-formed =
      fetched-formed s.counts s.master (s.site (step_site s r j n)).cache
      (step_start s r j n) formed.master (formed.cache (step_site s r j n) site)

  -- T has no key that the site may not hold.
  cache-unbarred : Unbarred s.counts (s.tail.may_hold (step_site s r j n)) (step_cache s r j n)
  unfolding step_cache step_barred step_fetch
  cache-unbarred =
      let z = s.counts in
      let o = step_site s r j n in
      let right = s.tail.may_hold o in
      unbarred-fetched z.keys right z.writers (s.site o).cache (step_start s r j n)
      s.master
      (formed.right o site)
      (unbarred-within z.keys right (λ k. step_reads s r j n k || step_fetch s r j n k)
      (step_fetch s r j n) (λ k _ p. or_right (step_reads s r j n k) p) A.entitled)

  -- ---- the snapshot

  pub snapshot-fits : FitPlace s.counts (step_snapshot s r j n)
  unfolding step_snapshot pulled
  snapshot-fits =
      let z = s.counts in
      let old = (step_branch s r j n).snapshot in
      let both : Place Version = λ k. merge z.writers k (old k) (step_cache s r j n k) in
      let C = pull_set (versions z.writers) z.keys (step_plan s r j n) old (step_cache s r j n)
      (step_reads s r j n) in
      let was = fit-branch fitting n in
      fit-choice z C both old (fit-merged z old (step_cache s r j n) was cache-fits) was

  pub snapshot-formed : PlaceFormed s.counts (step_snapshot s r j n)
  unfolding step_snapshot
  snapshot-formed k h =
      let z = s.counts in
      let old = (step_branch s r j n).snapshot in
      let place = (was.snapshot n).place in
      pulled-cases (versions z.writers) z.keys (step_plan s r j n) old (step_cache s r j n)
      (step_reads s r j n) (VersionFormed z k) k
      (λ _. version-merge z k (old k) (step_cache s r j n k) (place k h) (cache-formed k h))
      (λ _. place k h)

  -- ---- the run and the store

  snapshots-fit : (m : ℕ) → FitPlace s.counts (branch_of m (stepped_run s r j n)).snapshot
  snapshots-fit m =
      done-branch (λ b. FitPlace s.counts b.snapshot) (s.run r) n _ _ m
      (λ _. snapshot-fits) (λ _. fit-branch fitting m)

  stepped-fits : FitRun s.counts (stepped_run s r j n)
  unfolding with_job_done
  stepped-fits =
      record { job = fitting.job; snapshot = snapshots-fit 0; second = snapshots-fit 1 }

  read_held : (k : ℕ) → k < s.counts.keys
      → So (test_bit (bit_or (step_branch s r j n).read ((s.run r).job j).reads) k)
      → So (held (step_snapshot s r j n k))
  unfolding step_reads
  read_held k l p =
      let a = s.run r in
      elim (or_cases (test_bit (step_branch s r j n).read k) (test_bit (a.job j).reads k)
      (test-or (step_branch s r j n).read (a.job j).reads k ∙˙ p)) [
        | inl h ↦ step_snapshot-keeps s r j n k ((was.snapshot n).has k l h)
        | inr h ↦ step_snapshot-held s r j n A k l h
      ]

  -- The branch that was stepped, and either one.
  branch-formed : Snapshot s.counts (s.run r).jobs (s.run r).job (stepped_branch s r j n)
  unfolding step_plan
  branch-formed = record {
    place = snapshot-formed;
    carried = step_snapshot-planned s r j n A (was.snapshot n).carried;
    has = read_held;
  }

  either-formed : (m : ℕ)
      → Snapshot s.counts (s.run r).jobs (s.run r).job (branch_of m (stepped_run s r j n))
  either-formed m =
      done-branch (Snapshot s.counts (s.run r).jobs (s.run r).job) (s.run r) n _ _ m
      (λ _. branch-formed) (λ _. was.snapshot m)

  -- A run that isn't forked is stepped on its one branch.
  single : ((s.run r).mark ≡ forked_mark) ⊎ Vacant s.counts (stepped_run s r j n).second
  unfolding with_job_done
  single = elim was.mark.single [
    | inl e ↦ inl e
    | inr B ↦ test (eqb n 0) (λ y. rw y (inr B))
        (λ y. inl (on-second (s.run r).mark n A.on_branch y))
  ]

  stepped-formed : So (run_formed s.counts (stepped_run s r j n))
  unfolding with_job_done
  stepped-formed =
      let z = s.counts in
      let a = s.run r in
      plan_in z (stepped_run s r j n) (accepted-used A) (record {
        state = was.state;
        jobs = was.jobs;
        masks = record {
          low = with-lt a.done j a.jobs was.masks.low A.job_in_lem;
          reads = done-reads a n (with_bit a.done j) (a.job j).reads (step_snapshot s r j n)
              ∙ ap (λ (m : ℕ). bit_or m (a.job j).reads) was.masks.reads
              ∙ done_reads-mask z.keys a.jobs a.job a.done j A.job_in_lem valid.reads;
        };
        mark = record { high = was.mark.high; single = single };
        snapshot = either-formed;
      })

  done-kept : Kept s (step_done s r j n)
  unfolding step_done with_cache with_sites with_run
  done-kept =
      let o = step_site s r j n in
      let p = step_cache s r j n in
      let b = stepped_run s r j n in
      let s₁ = with_cache s o p in
      let f₁ = fit-cache s F.fits o p site cache-fits in
      let g₁ = formed-cache s formed o p cache-formed
      (over_no s.counts (s.site o) p A.fits) cache-unbarred in
      kept-done s (with_run s₁ r b) _ F (fit-run s₁ f₁ r b A.run_in stepped-fits)
      (formed-run s₁ g₁ r b stepped-formed) refl

  broken-kept : Kept s (step_broken s r j n)
  unfolding step_broken
  broken-kept = state-kept s r F A.run_in was _

pub step_kept : (r j n : ℕ) (s : Store) → Fine s → Kept s (step_rule_of r j n s)
unfolding step_rule_of
step_kept r j n s F =
    kept-unless s (step_cause s r j n) _ F (λ e.
    let A = accepted s r j n e in
    test (any_below s.counts.keys (step_moved s r j n))
    (λ t. rw t (broken-kept s r j n F A)) (λ t. rw t (done-kept s r j n F A)))
