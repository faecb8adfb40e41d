-- `put_front` lays three words over the front.
-- Assumes nothing.
use Rattle.look.proofs.row.put_front.Goals as goal

pub returns : goal.returns
returns c =
    rw (← c.from.ensures) c.put_three.ensures
