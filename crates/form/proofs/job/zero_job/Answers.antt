-- `zero_job` compares three numbers with 0.
-- Assumes nothing.
use mathlib.Core.Path.{refl}
use Rattle.model.specs.Form.{zero_job}
use Rattle.form.proofs.job.zero_job.Goals as goal

pub returns : goal.returns
unfolding zero_job
returns c = refl
