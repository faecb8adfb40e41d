-- Step: a job reads its keys, on a branch ("line") of its run, from the snapshot ("card"), its
-- site's cache or the master.
-- step_branch (read mask and card), step_reads (R), step_start (what is fetched), step_cache (the
-- cache after the fetch), step_pull (C), step_moved. job_limit, off_branch, not_ready, job_cause:
-- the causes that the run decides alone.
-- Assumes nothing.
use Rattle.std.specs.Prelude.{Bool, cond, not, ◌&&◌, ◌||◌, [], ◌∷◌, ℕ, eqb, leb}
use Rattle.std.specs.Int.Bits.{bit_or}
use Rattle.words.specs.Tests.{Items, any_below}
use Rattle.masks.specs.Mask.{test_bit, with_bit, mask_below}
use Rattle.sizes.specs.Runs.{max_jobs}
use Rattle.model.specs.Algebra.{Algebra, Place, lacking}
use Rattle.model.specs.Version.{Version, versions}
use Rattle.model.specs.Sets.{fetch_set, fetched, unfetchable, pull_set, pulled}
use Rattle.model.specs.Tail.{barred}
use Rattle.model.specs.Store.{Branch, branch_of, Run, forked_mark, Store, planned, with_cache, with_run, with_state, with_job_done}
use Rattle.model.specs.Allowance.{over}
use Rattle.model.specs.Outcome.{Outcome, broken, done, refuse, unless, allowed, step_row, free_state, broken_state}

-- "reads R that the card lacks and the shelf lacks are fetched together"
unfoldable pub read_start : {A : Type 0} → Algebra A → ℕ → Place A → Place A → Items → Items
read_start alg K snapshot cache reads = lacking alg K cache (lacking alg K snapshot reads)

-- "a job not below its run's number of jobs (below 8 if the run is free)"
unfoldable pub job_limit : ℕ → ℕ → ℕ
job_limit state jobs = cond (eqb state free_state) max_jobs jobs

-- "job done, or an upstream job not done", by a done mask and the job's upstream mask.
unfoldable pub not_ready : ℕ → ℕ → ℕ → Bool
not_ready finished upstream j =
    test_bit finished j || any_below max_jobs (λ i. test_bit upstream i && not
    (test_bit finished i))

-- CR 10: "line 1 on a run not forked, or a line above 1", by the run's mark.
unfoldable pub off_branch : ℕ → ℕ → Bool
off_branch mark n = leb 2 n || (eqb n 1 && not (eqb mark forked_mark))

-- The rows of the refusal table that the run decides alone, above the rows that are left. CR 10:
-- 14 is "placed after 4".
unfoldable pub job_cause : Run → ℕ → ℕ → ℕ → ℕ
job_cause a j n rest =
    refuse (leb (job_limit a.state a.jobs) j) 3
    (refuse (not (allowed step_row a.state)) 4
    (refuse (off_branch a.mark n) 14
    (refuse (not_ready a.done (a.job j).upstream j) 6
    rest)))

module _ (s : Store) (r j n : ℕ) where
  -- The read mask and the card that the step goes by.
  abbrev pub step_branch : Branch
  step_branch = branch_of n (s.run r)

  unfoldable pub step_site : ℕ
  step_site = ((s.run r).job j).site

  -- R
  unfoldable pub step_reads : Items
  step_reads = test_bit ((s.run r).job j).reads

  unfoldable pub step_start : Items
  step_start =
      read_start (versions s.counts.writers) s.counts.keys step_branch.snapshot
      (s.site step_site).cache step_reads

  -- T
  unfoldable pub step_fetch : Items
  step_fetch =
      fetch_set (versions s.counts.writers) s.counts.keys s.master
      (s.site step_site).cache step_start

  unfoldable pub step_cache : Place Version
  step_cache =
      fetched (versions s.counts.writers) s.counts.keys s.master
      (s.site step_site).cache step_start

  unfoldable pub step_plan : Items
  step_plan = planned (s.run r).jobs (s.run r).job

  -- C
  unfoldable pub step_pull : Items
  step_pull =
      pull_set (versions s.counts.writers) s.counts.keys step_plan step_branch.snapshot
      step_cache step_reads

  -- The card after a step that doesn't break.
  unfoldable pub step_snapshot : Place Version
  step_snapshot =
      pulled (versions s.counts.writers) s.counts.keys step_plan step_branch.snapshot
      step_cache step_reads

  -- "If C has a sheet of the read mask, the run is broken .. with those sheets."
  unfoldable pub step_moved : Items
  step_moved k = step_pull k && test_bit step_branch.read k

  -- CR 9: "a barred sheet in T stops the fetch", and "a job may not read it at that office, even
  -- from the card".
  unfoldable pub step_barred : Bool
  step_barred =
      barred s.counts.keys (s.tail.may_hold step_site) (λ k. step_reads k || step_fetch k)

  -- CR 7: "Over the allowance is 12, .. before a break", of the cache as the fetch would leave it.
  unfoldable pub step_cause : ℕ
  step_cause =
      let alg = versions s.counts.writers in
      refuse (leb s.counts.runs r) 3
      (job_cause (s.run r) j n
      (refuse step_barred 13
      (refuse (unfetchable alg s.counts.keys s.master step_start) 7
      (refuse (over s.counts (s.site step_site) step_cache) 12
      0))))

  -- "its state becomes 2, nothing else changes (the shelf too is as before the fetch)"
  unfoldable pub step_broken : Outcome
  step_broken =
      broken (mask_below s.counts.keys step_moved)
      (with_run s r (with_state (s.run r) broken_state))

  -- "R outside C (card), R in C not fetched in this step (shelf), R in C fetched (master)"
  unfoldable pub step_done : Outcome
  step_done =
      let K = s.counts.keys in
      done (mask_below K (λ k. step_reads k && not (step_pull k))
      ∷ mask_below K (λ k. step_reads k && (step_pull k && not (step_fetch k)))
      ∷ mask_below K (λ k. step_reads k && (step_pull k && step_fetch k)) ∷ [])
      (with_run (with_cache s step_site step_cache) r
      (with_job_done (s.run r) n (with_bit (s.run r).done j) (record {
        read = bit_or step_branch.read ((s.run r).job j).reads;
        snapshot = step_snapshot;
      })))

unfoldable pub step_rule_of : ℕ → ℕ → ℕ → Store → Outcome
step_rule_of r j n s =
    unless (step_cause s r j n)
    (cond (any_below s.counts.keys (step_moved s r j n)) (step_broken s r j n) (step_done s r j n))
