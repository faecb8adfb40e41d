-- `reads_of` gives what the jobs of a mask read.
-- The loop's invariant: the union over the jobs passed.
-- Assumes nothing.
-- The three words of the job lie in the buffer.
use mathlib.Core.Path.{refl}
use Prim.Native.Nat.{◌+◌, ◌≤◌}
use lib.ListN.{length}
use native.Mathlib.Omega.{arith}
use Rattle.masks.specs.Mask.{union_below}
use Rattle.sizes.specs.Runs.{job_size}
use Rattle.sizes.proofs.Offsets.{job-lies}
use Rattle.form.specs.Parts.{reads_of}
use Rattle.form.proofs.Masks.{reads-step}
use Rattle.form.proofs.job.reads_of.Goals as goal
use Rattle.form.proofs.job.reads_of.Goals.{After-job_at-job}

inside : (c : After-job_at-job) → c.job_at-job.result + job_size ≤ length c.args.words.now
inside c = omega (
  arith,
  (job-lies c.args.at c.loop-j.j (omega arith)).1,
  c.job_at-job.ensures,
  c.requires.0,
)

pub loop-j-preserved : goal.loop-j-preserved
loop-j-preserved c =
    let a = c.args in
    rw (
      reads-step a.words.now a.at a.mask c.loop-j.j (omega arith),
      c.loop-j.invariant,
      c.mask_if-all.ensures,
      c.has.ensures,
      c.job_at-job.ensures,
    )

pub overflow_add-job : goal.overflow_add-job
overflow_add-job c = omega (arith, inside (goal.at.overflow_add-job c).After-job_at-job)

pub offset_bounds-words-job : goal.offset_bounds-words-job
offset_bounds-words-job c = omega (
  arith,
  inside (goal.at.offset_bounds-words-job
      c).After-job_at-job,
)

pub bounds-words-job : goal.bounds-words-job
bounds-words-job c = omega (arith, inside (goal.at.bounds-words-job c).After-job_at-job)

pub loop-j-init : goal.loop-j-init
unfolding union_below reads_of
loop-j-init c = refl
