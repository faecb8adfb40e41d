-- `is_vacant` compares the read mask and the snapshot with nothing.
-- Assumes nothing.
use Rattle.model.specs.Form.{zero_branch}
use Rattle.form.proofs.run.is_vacant.Goals as goal

pub returns : goal.returns
unfolding zero_branch
returns c = rw (c.word_is.ensures, c.is_empty.ensures)
