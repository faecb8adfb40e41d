-- `leaders_formed` tests that the mask isn't 0, and that it is below a power.
-- Assumes nothing.
use Rattle.model.specs.Form.{leaders_formed}
use Rattle.form.proofs.place.leaders_formed.Goals as goal

pub returns : goal.returns
unfolding leaders_formed
returns c = rw c.is_below.ensures
