-- `jobs_formed` tests the number of jobs and each job.
-- Assumes nothing.
use Rattle.form.proofs.Masks.{jobs-test}
use Rattle.form.proofs.run.jobs_formed.Goals as goal

pub returns : goal.returns
returns c =
    let a = c.args in
    rw (c.is_between.ensures, c.each_job.ensures) (jobs-test a.z a.words.now a.at)
