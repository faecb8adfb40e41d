-- `job_formed` makes the test that is asked of job i.
-- Assumes nothing.
-- The three words of the job lie in the buffer.
use native.Mathlib.Omega.{arith}
use Prim.Native.Nat.{◌+◌, ◌≤◌}
use lib.ListN.{length}
use borrow.Author.Tests.{lt-ltb, le-ltb}
use Rattle.sizes.specs.Runs.{job_size}
use Rattle.sizes.proofs.Offsets.{job-lies}
use Rattle.form.specs.Parts.{job_formed}
use Rattle.form.proofs.Runs.{job-words}
use Rattle.form.proofs.job.job_formed.Goals as goal
use Rattle.form.proofs.job.job_formed.Goals.{After-job_at-job}

inside : (c : After-job_at-job) → let a = c.args in
    c.job_at-job.result + job_size ≤ length a.words.now
inside c =
    let a = c.args in
    omega (
      arith,
      (job-lies a.at a.i c.requires.plan_size_in_bounds.1).1,
      c.job_at-job.ensures,
      c.requires.plan_size_in_bounds.0,
    )

pub returns-then-i-n : goal.returns-then-i-n
unfolding job_formed
returns-then-i-n c =
    let a = c.args in
    let words = job-words a.words.now a.at a.i (omega arith) in
    rw (lt-ltb _ _ c.if-i-n.true, words, ← c.job_at-job.ensures)
    c.valid_job.ensures

pub returns-else-i-n : goal.returns-else-i-n
unfolding job_formed
returns-else-i-n c =
    let a = c.args in
    let words = job-words a.words.now a.at a.i (omega arith) in
    rw (le-ltb _ _ c.if-i-n.false, words, ← c.job_at-job.ensures)
    c.zero_job.ensures

pub offset_bounds-words-job : goal.offset_bounds-words-job
offset_bounds-words-job c = omega (
  arith,
  inside (goal.at.offset_bounds-words-job
      c).After-job_at-job,
)

pub bounds-words-job : goal.bounds-words-job
bounds-words-job c = omega (arith, inside (goal.at.bounds-words-job c).After-job_at-job)

pub overflow_add-reads : goal.overflow_add-reads
overflow_add-reads c = omega (arith, inside (goal.at.overflow_add-reads c).After-job_at-job)

pub offset_bounds-words-job-2 : goal.offset_bounds-words-job-2
offset_bounds-words-job-2 c = omega (
  arith,
  inside (goal.at.offset_bounds-words-job-2
      c).After-job_at-job,
)

pub bounds-words-job-2 : goal.bounds-words-job-2
bounds-words-job-2 c = omega (arith, inside (goal.at.bounds-words-job-2 c).After-job_at-job)

pub overflow_add-upstream : goal.overflow_add-upstream
overflow_add-upstream c = omega (arith, inside (goal.at.overflow_add-upstream c).After-job_at-job)

pub offset_bounds-words-job-3 : goal.offset_bounds-words-job-3
offset_bounds-words-job-3 c = omega (
  arith,
  inside (goal.at.offset_bounds-words-job-3
      c).After-job_at-job,
)

pub bounds-words-job-3 : goal.bounds-words-job-3
bounds-words-job-3 c = omega (arith, inside (goal.at.bounds-words-job-3 c).After-job_at-job)
