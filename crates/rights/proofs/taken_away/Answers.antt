-- `taken_away` leaves out of the held keys those of the mask.
-- Assumes nothing.
use Rattle.layout.specs.Reading.{read_place}
use Rattle.rights.proofs.Away.{away-mask}
use Rattle.rights.proofs.taken_away.Goals as goal

pub returns : goal.returns
returns c =
    let a = c.args in
    away-mask a.z (read_place a.z a.words.now a.at) a.mask _ _
    c.held_mask-kept.ensures c.without.ensures
