-- `job_of` reads the three words of job j.
-- Assumes nothing.
-- The words of the job lie in the buffer.
use mathlib.Core.Path.{ap, ◌∙◌}
use Prim.Native.Nat.{ℕ, ◌+◌, ◌≤◌, ◌<◌}
use native.Mathlib.Omega.{arith}
use lib.ListN.{length}
use Rattle.sizes.specs.Runs.{max_jobs, job_size, plan_offset, snapshot_offset, job_at_of}
use Rattle.sizes.proofs.Offsets.{job-lies}
use Rattle.trial.proofs.Known.{jobs-known, run_index, job-low, job-found}
use Rattle.trial.proofs.jobs.job_of.Goals as goal
use Rattle.trial.proofs.jobs.job_of.Goals.{After-job_at-job, After-run_at-at}

here : (c : After-run_at-at) → let a = c.args in
    (c.run_at-at.result + snapshot_offset ≤ length a.words.now) × (a.j < max_jobs)
here c =
    let s = c in
    let a = s.args in (
      run_index a.words.now a.z a.r s.requires.used_run _ c.run_at-at.ensures,
      job-low a.words.now a.z a.r s.requires.used_run a.j s.requires.j_bound,
    )

inside : (c : After-job_at-job) → let a = c.args in
    c.job_at-job.result + job_size ≤ length a.words.now
inside c =
    let n = c in
    let a = n.args in
    let lies = job-lies (n.run_at-at.result + 4) a.j ((let it : let a = n.args in
    (n.run_at-at.result + snapshot_offset ≤ length a.words.now) × (a.j < max_jobs) = let s = n in
    let a = s.args in (
      run_index a.words.now a.z a.r s.requires.used_run _ n.run_at-at.ensures,
      job-low a.words.now a.z a.r s.requires.used_run a.j s.requires.j_bound,
    ) in it)).1 in
    omega (
      arith,
      lies.1,
      c.job_at-job.ensures,
      ((let it : let a = n.args in
          (n.run_at-at.result + snapshot_offset ≤ length a.words.now) × (a.j < max_jobs) = let s =
          n in
          let a = s.args in (
            run_index a.words.now a.z a.r s.requires.used_run _ n.run_at-at.ensures,
            job-low a.words.now a.z a.r s.requires.used_run a.j s.requires.j_bound,
          ) in it)).0,
    )

pub run_at-at-requires : goal.run_at-at-requires
run_at-at-requires c =
    let s = c in
    let a = s.args in
    record {
      ranged = (jobs-known a.words.now a.z a.r s.requires.used_run).area.ranged;
      r_lt_runs = s.requires.used_run.run;
    }

pub job_at-job-requires : goal.job_at-job-requires
job_at-job-requires c =
    let s = c in
    let a = s.args in
    let K = jobs-known a.words.now a.z a.r s.requires.used_run in (
      omega (arith, K.area.low, c.run_at-at.ensures),
      (here
          (goal.at.job_at-job-requires c).After-run_at-at).1,
    )

pub returns : goal.returns
returns c =
    let j = c in
    let n = j in
    let s = n in
    let a = s.args in
    job-found a.words.now a.z a.r s.requires.used_run a.j s.requires.j_bound j.job_at-job.result
    (j.job_at-job.ensures ∙ ap (λ (i : ℕ). job_at_of (i + plan_offset) a.j) n.run_at-at.ensures)

pub overflow_add-at : goal.overflow_add-at
overflow_add-at c = omega (arith, here (goal.at.overflow_add-at c).After-run_at-at)

pub offset_bounds-words-job : goal.offset_bounds-words-job
offset_bounds-words-job c = omega (
  arith,
  inside (goal.at.offset_bounds-words-job
      c).After-job_at-job,
)

pub bounds-words-job : goal.bounds-words-job
bounds-words-job c = omega (arith, inside (goal.at.bounds-words-job c).After-job_at-job)

pub overflow_add-result : goal.overflow_add-result
overflow_add-result c = omega (arith, inside (goal.at.overflow_add-result c).After-job_at-job)

pub offset_bounds-words-job-2 : goal.offset_bounds-words-job-2
offset_bounds-words-job-2 c = omega (
  arith,
  inside (goal.at.offset_bounds-words-job-2
      c).After-job_at-job,
)

pub bounds-words-job-2 : goal.bounds-words-job-2
bounds-words-job-2 c = omega (arith, inside (goal.at.bounds-words-job-2 c).After-job_at-job)

pub overflow_add-result-2 : goal.overflow_add-result-2
overflow_add-result-2 c = omega (arith, inside (goal.at.overflow_add-result-2 c).After-job_at-job)

pub offset_bounds-words-job-3 : goal.offset_bounds-words-job-3
offset_bounds-words-job-3 c = omega (
  arith,
  inside (goal.at.offset_bounds-words-job-3
      c).After-job_at-job,
)

pub bounds-words-job-3 : goal.bounds-words-job-3
bounds-words-job-3 c = omega (arith, inside (goal.at.bounds-words-job-3 c).After-job_at-job)
