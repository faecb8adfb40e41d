-- `ready_job` has the first job that is ready.
-- Assumes nothing.
use Rattle.std.proofs.Common.{rules}
use Rattle.model.specs.Calls.Pick.{ready, ready_job}
use Rattle.layout.specs.Reading.{store_of}
use Rattle.words.proofs.Ranges.{find-range}
use Rattle.pick.proofs.Searches.{first-below}
use Rattle.pick.proofs.ready.ready_job.Goals as goal

pub returns : goal.returns
unfolding ready_job
returns c =
    let a = c.args in
    let p = ready ((store_of a.words.now).run a.r) in
    rw (← c.job_count.ensures)
    (first-below _ p _ (find-range _ p (λ j b q h. search rules) _ _ c.find.ensures.ran))
