-- `each_job` answers whether each job is in form.
-- Assumes nothing.
use Rattle.std.proofs.Common.{rules}
use Rattle.words.proofs.Ranges.{all-range}
use Rattle.sizes.specs.Runs.{max_jobs}
use Rattle.layout.specs.Reading.{read_jobs}
use Rattle.form.specs.Parts.{job_formed}
use Rattle.form.proofs.job.each_job.Goals as goal

pub returns : goal.returns
returns c =
    let a = c.args in
    all-range max_jobs (λ i. job_formed a.z a.n i (read_jobs a.words.now a.at i))
    (λ k b q h. search rules) _ c.all.ensures.ran
