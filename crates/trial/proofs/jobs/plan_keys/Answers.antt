-- `plan_keys` has what all jobs read.
-- Assumes nothing.
use Prim.Native.Nat.{◌+◌, ◌≤◌}
use borrow.Author.Rules.{rules}
use native.Mathlib.Omega.{arith}
use lib.ListN.{length}
use Rattle.sizes.specs.Runs.{max_jobs, snapshot_offset}
use Rattle.trial.proofs.Known.{jobs-known, run_index, jobs-words}
use Rattle.trial.proofs.jobs.plan_keys.Goals as goal
use Rattle.trial.proofs.jobs.plan_keys.Goals.{After-run_at-at}

here : (c : After-run_at-at) → let a = c.args in
    (c.run_at-at.result + snapshot_offset ≤ length a.words.now)
    × (c.job_count-n.result ≤ max_jobs)
here c =
    let s = c in
    let a = s.args in (
      run_index a.words.now a.z a.r s.requires _ c.run_at-at.ensures,
      rw c.job_count-n.ensures
          (jobs-known a.words.now a.z a.r s.requires).plan.jobs.high,
    )

pub job_count-n-requires : goal.job_count-n-requires
job_count-n-requires c = search rules

pub run_at-at-requires : goal.run_at-at-requires
run_at-at-requires c =
    let s = c in
    let a = s.args in
    record {
      ranged = (jobs-known a.words.now a.z a.r s.requires).area.ranged;
      r_lt_runs = s.requires.run;
    }

pub overflow_add-at : goal.overflow_add-at
overflow_add-at c = omega (arith, here (goal.at.overflow_add-at c).After-run_at-at)

pub reads_of-requires : goal.reads_of-requires
reads_of-requires c = (
  omega (arith, here (goal.at.reads_of-requires c).After-run_at-at),
  (here (goal.at.reads_of-requires c).After-run_at-at).1,
)

pub returns : goal.returns
returns c =
    let t = c in
    let s = t in
    let a = s.args in
    rw (
      ← jobs-words a.words.now a.z a.r s.requires,
      ← t.run_at-at.ensures,
      ← t.job_count-n.ensures,
    )
    c.reads_of.ensures
