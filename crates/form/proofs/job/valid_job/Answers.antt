-- `valid_job` makes the three tests of a valid job.
-- Assumes nothing.
use Rattle.model.specs.Form.{valid_job}
use Rattle.form.proofs.job.valid_job.Goals as goal

pub returns : goal.returns
unfolding valid_job
returns c = rw (c.is_below.ensures, c.is_below-2.ensures)
