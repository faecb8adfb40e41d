-- `is_ready` asks what row 6 of step asks.
-- Assumes nothing.
-- The job's number and its upstream mask are small.
use native.Mathlib.Omega.{arith}
use mathlib.Core.Path.{◌≡◌, ap, ap₂, ◌∙◌}
use mathlib.Core.Bool.{not}
use Prim.Native.Nat.{ℕ, ◌+◌, ◌≤◌, ◌<◌, ◌^◌}
use lib.ListN.{length, get_or}
use Rattle.sizes.specs.Runs.{max_jobs, done_offset, snapshot_offset}
use Rattle.model.specs.Step.{not_ready}
use Rattle.model.specs.Calls.Pick.{ready}
use Rattle.layout.specs.Reading.{store_of}
use Rattle.trial.specs.declared.jobs.PlannedJob.{PlannedJob}
use Rattle.trial.proofs.Known.{jobs-known, run_index, done-word, job-low, upstream-low}
use Rattle.pick.proofs.ready.is_ready.Goals as goal
use Rattle.pick.proofs.ready.is_ready.Goals.{After-job_of-job, After-run_at-at}

here : (c : After-run_at-at)
    → c.run_at-at.result + snapshot_offset ≤ length c.args.words.now
here c =
    run_index c.args.words.now c.args.z c.args.r c.requires.used_run _ c.run_at-at.ensures

low : (c : After-job_of-job) → let a = c.args in
    (a.j < max_jobs) × (c.job_of-job.result.upstream < 2 ^ max_jobs)
low c =
    let a = c.args in (
      job-low a.words.now a.z a.r c.requires.used_run a.j c.requires.j_bound,
      rw c.job_of-job.ensures
          (upstream-low a.words.now a.z a.r c.requires.used_run a.j c.requires.j_bound),
    )

pub run_at-at-requires : goal.run_at-at-requires
run_at-at-requires c =
    let a = c.args in
    record {
      ranged = (jobs-known a.words.now a.z a.r c.requires.used_run).area.ranged;
      r_lt_runs = c.requires.used_run.run;
    }

pub returns : goal.returns
unfolding ready
returns c =
    let a = c.args in
    let x = (store_of a.words.now).run a.r in
    let done : get_or a.words.now (c.run_at-at.result + done_offset) 0 ≡ x.done =
    ap (λ (i : ℕ). get_or a.words.now (i + done_offset) 0) c.run_at-at.ensures
    ∙ done-word a.words.now a.z a.r c.requires.used_run in
    let before : c.job_of-job.result.upstream ≡ (x.job a.j).upstream =
    ap (λ (y : PlannedJob). y.upstream) c.job_of-job.ensures in
    let asked : c.is_unready.result ≡ not_ready x.done (x.job a.j).upstream a.j =
    c.is_unready.ensures ∙ ap₂ (λ (m u : ℕ). not_ready m u a.j) done before in
    ap not asked

pub overflow_add-done : goal.overflow_add-done
overflow_add-done c = omega (arith, here (goal.at.overflow_add-done c).After-run_at-at)

pub offset_bounds-words-at : goal.offset_bounds-words-at
offset_bounds-words-at c = omega (arith, here (goal.at.offset_bounds-words-at c).After-run_at-at)

pub bounds-words-at : goal.bounds-words-at
bounds-words-at c = omega (arith, here (goal.at.bounds-words-at c).After-run_at-at)

pub overflow_cast-j : goal.overflow_cast-j
overflow_cast-j c = omega (arith, low (goal.at.overflow_cast-j c).After-job_of-job)

pub is_unready-requires : goal.is_unready-requires
is_unready-requires c = low (goal.at.is_unready-requires c).After-job_of-job
