-- `held_mask` has the keys that a place holds.
-- Assumes nothing.
use Rattle.std.proofs.Common.{rules}
use Rattle.model.specs.Version.{held}
use Rattle.layout.specs.Reading.{read_place}
use Rattle.version.proofs.held_mask.Goals as goal

pub returns : goal.returns
returns c =
    let a = c.args in
    c.mask_of.ensures (λ k. held (read_place a.z a.words.now a.at k)) (λ k b h q. search rules)
