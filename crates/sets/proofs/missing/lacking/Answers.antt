-- `lacking` takes the held keys out of the mask.
-- Assumes nothing.
use Rattle.model.specs.Version.{versions}
use Rattle.layout.specs.Reading.{read_place}
use Rattle.sets.proofs.Lacks.{lacking-mask}
use Rattle.sets.proofs.missing.lacking.Goals as goal

pub returns : goal.returns
returns c =
    let a = c.args in
    lacking-mask (versions a.z.writers) a.z.keys (read_place a.z a.words.now a.at)
    a.mask _ _ c.requires.mask_bound c.held_mask-carried.ensures c.without.ensures
