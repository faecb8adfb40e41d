-- `job_at` is where a job begins.
-- Assumes nothing.
use mathlib.Core.Path.{refl}
use Rattle.sizes.specs.Runs.{job_at_of}
use Rattle.sizes.proofs.job_at.Goals as goal

pub returns : goal.returns
unfolding job_at_of
returns c = refl
