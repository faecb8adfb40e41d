-- `each_valid` answers whether each job is valid.
-- Assumes nothing.
use Rattle.std.proofs.Common.{rules}
use Rattle.words.proofs.Ranges.{all-range}
use Rattle.model.specs.Form.{valid_job}
use Rattle.model.specs.Runs.{listed_job}
use Rattle.runs.proofs.jobs.each_valid.Goals as goal

pub returns : goal.returns
unfolding listed_job
returns c =
    let a = c.args in
    all-range a.n (λ i. valid_job a.z i (listed_job a.jobs.now i)) (λ i b q h. search rules) _
    c.all.ensures.ran
