-- `is_empty` tests the place as one run of words.
-- Assumes nothing.
use Rattle.form.proofs.Flat.{flat-place}
use Rattle.form.proofs.run.is_empty.Goals as goal

pub present-requires : goal.present-requires
present-requires c = rw c.place_size-n.ensures c.requires.fits

pub returns : goal.returns
returns c =
    let a = c.args in
    rw (c.present.ensures, c.place_size-n.ensures)
    (flat-place a.z a.words.now a.at)
