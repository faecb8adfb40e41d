-- What is known of a run that isn't free and of its jobs, and the causes of step that a run
-- decides alone.
-- JobsKnown, jobs-known: where the run lies, and its plan; snapshot-behind: its snapshot.
-- job-known: one of its jobs. ..-word: what is read where. job-found: a job as the code reads it.
-- limit_in, state_in, done_in, mark-found: parts of a cause, by the words. job_open: a job in
-- range of an open run. job-ready: where no cause holds.
-- Assumes nothing.
use mathlib.Core.Path.{◌≡◌, sym, ap, ◌∙◌}
use mathlib.Core.Bool.{false, So}
use mathlib.Core.List.{List}
use Prim.Native.Nat.{ℕ, ◌+◌, ◌≤◌, ◌<◌, ◌^◌}
use native.Mathlib.Omega.{arith}
use lib.Dec.{leb}
use lib.ListN.{length, get_or}
use lib.Pow.{pow_mono}
use Rattle.words.proofs.Bools.{leb-gt}
use Rattle.sizes.specs.declared.Counts.{Counts}
use Rattle.sizes.specs.Bounds.{place_size, site_size, run_size, site_at, run_at_of, mark_at, snapshot_at}
use Rattle.sizes.specs.Runs.{max_jobs, reads_offset, upstream_offset, jobs_offset, done_offset, plan_offset, snapshot_offset, job_at_of}
use Rattle.sizes.proofs.Offsets.{ordered, site-lies, run_lies, snapshot-lies, branch-mark-lies}
use Rattle.model.specs.Store.{Job, Run}
use Rattle.model.specs.Form.{run_formed}
use Rattle.model.specs.Outcome.{allowed, step_row}
use Rattle.model.specs.Step.{job_limit, job_cause}
use Rattle.model.proofs.Outcomes.{no-cause, no-lack}
use Rattle.model.proofs.Plans.{Valid, Plan, valid-out, plan-out}
use Rattle.model.proofs.Steps.{step-used, job_limit_lem}
use Rattle.layout.specs.Reading.{read_jobs, read_run, store_of}
use Rattle.layout.proofs.Readings.{mark_in}
use Rattle.form.specs.Parts.{RunArea, FormWith, job_of}
use Rattle.form.proofs.Known.{form-area}
use Rattle.form.proofs.Runs.{job-words}
use Rattle.status.proofs.Known.{RunKnown, run-known}
use Rattle.trial.specs.declared.jobs.PlannedJob.{PlannedJob}
use Rattle.trial.specs.Jobs.{UsedRun, planned_job}

-- ---- a run that isn't free

pub record JobsKnown (l : List ℕ) (z : Counts) (r : ℕ) : Type 0 where
  pub area : RunArea (length l) z (run_at_of z r)
  pub run : (store_of l).run r ≡ read_run z l (run_at_of z r)
  pub plan : Plan z ((store_of l).run r)

module _ (l : List ℕ) (z : Counts) (r : ℕ) (U : UsedRun l z r) where
  pub jobs-known : JobsKnown l z r
  jobs-known =
      let K = run-known l z r U.form U.run in
      let formed : So (run_formed z ((store_of l).run r)) = rw K.run K.formed in
      record {
        area = K.area;
        run = K.run;
        plan = plan-out z ((store_of l).run r) U.used formed;
      }

  -- at: where it begins.
  pub run_index : (at : ℕ) → at ≡ run_at_of z r → at + snapshot_offset ≤ length l
  unfolding run_size
  run_index at e = omega (arith, jobs-known.area.fits)

  -- Its snapshot lies behind the caches.
  pub snapshot-behind : (n o : ℕ) → o < z.sites → site_at z o + place_size z ≤ snapshot_at z r n
  unfolding site_size
  snapshot-behind n o h =
      let q = ordered z (form-area l z U.form).ranged in
      let s = site-lies z o h in
      let t = run_lies z r U.run in
      let u = snapshot-lies z r n in omega arith

  pub count_word : get_or l (run_at_of z r + jobs_offset) 0 ≡ ((store_of l).run r).jobs
  unfolding read_run
  count_word = sym (ap (λ (a : Run). a.jobs) jobs-known.run)

  pub done-word : get_or l (run_at_of z r + done_offset) 0 ≡ ((store_of l).run r).done
  unfolding read_run
  done-word = sym (ap (λ (a : Run). a.done) jobs-known.run)

  pub jobs-words : read_jobs l (run_at_of z r + plan_offset) ≡ ((store_of l).run r).job
  unfolding read_run
  jobs-words = sym (ap (λ (a : Run). a.job) jobs-known.run)

  -- Job j is valid.
  module _ (j : ℕ) (h : j < ((store_of l).run r).jobs) where
    pub job-low : j < max_jobs
    job-low = omega (arith, jobs-known.plan.jobs.high)

    pub job-known : Valid z j (((store_of l).run r).job j)
    job-known = valid-out z j (((store_of l).run r).job j) (jobs-known.plan.jobs.valid j h)

    pub upstream-low : (((store_of l).run r).job j).upstream < 2 ^ max_jobs
    upstream-low =
        let low = job-low in
        let most : j ≤ max_jobs = omega arith in
        let top : 2 ^ j ≤ 2 ^ max_jobs = pow_mono most in
        omega (arith, job-known.upstream)

    pub job-found : (at : ℕ) → at ≡ job_at_of (run_at_of z r + plan_offset) j
        → ◌≡◌ {A = PlannedJob} (record {
          site = get_or l at 0;
          reads = get_or l (at + reads_offset) 0;
          upstream = get_or l (at + upstream_offset) 0;
        })
        (planned_job (((store_of l).run r).job j))
    job-found at e =
        let same : ((store_of l).run r).job j ≡ job_of (get_or l at 0) (get_or l
        (at + reads_offset) 0)
        (get_or l (at + upstream_offset) 0) =
        rw e (ap (λ (f : ℕ → Job). f j) (sym jobs-words)
        ∙ job-words l (run_at_of z r + plan_offset) j job-low) in
        sym (ap planned_job same)

-- ---- the causes

-- at: where the run begins.
module _ (l : List ℕ) (z : Counts) (r : ℕ) (K : RunKnown l z r) (at : ℕ) (e : at ≡ run_at_of z r)
  where
    pub limit_in : job_limit ((store_of l).run r).state ((store_of l).run r).jobs
        ≡ job_limit (get_or l at 0) (get_or l (at + jobs_offset) 0)
    unfolding read_run
    limit_in = rw (e, K.run)

    pub state_in : ((store_of l).run r).state ≡ get_or l at 0
    unfolding read_run
    state_in = rw (e, K.run)

    pub done_in : ((store_of l).run r).done ≡ get_or l (at + done_offset) 0
    unfolding read_run
    done_in = rw (e, K.run)

-- The mark, and where it stands.
pub mark-found : (l : List ℕ) (z : Counts) (r : ℕ) → FormWith l z → r < z.runs
    → (mark_at z r < length l) × (((store_of l).run r).mark ≡ get_or l (mark_at z r) 0)
mark-found l z r H h =
    let K = run-known l z r H h in
    let e = branch-mark-lies z r in
    (omega (arith, K.area.fits), mark_in l z H.counts r h)

module _ (l : List ℕ) (z : Counts) (r j : ℕ) (H : FormWith l z) (h : r < z.runs) where
  pub job_open : leb (job_limit ((store_of l).run r).state ((store_of l).run r).jobs) j ≡ false
      → So (allowed step_row ((store_of l).run r).state)
      → UsedRun l z r × (j < ((store_of l).run r).jobs)
  job_open out p =
      let x = (store_of l).run r in
      let limit = job_limit_lem x.state x.jobs p in (
        record { form = H; run = h; used = step-used x.state p },
        omega (arith, leb-gt _ j out, limit),
      )

  pub job-ready : (n : ℕ) → job_cause ((store_of l).run r) j n 0 ≡ 0
      → UsedRun l z r × (j < ((store_of l).run r).jobs)
  unfolding job_cause
  job-ready n e =
      let x = (store_of l).run r in
      let a = no-cause (leb (job_limit x.state x.jobs) j) 3 _ (omega arith) e in
      let b = no-lack (allowed step_row x.state) 4 _ (omega arith) a.1 in
      job_open a.0 b.0
