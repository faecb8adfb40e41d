-- `stale_mask` has the stale keys of a cache.
-- Assumes nothing.
use Rattle.std.proofs.Common.{rules}
use Rattle.model.specs.Marks.{is_stale, stale_mask}
use Rattle.layout.specs.Reading.{read_place}
use Rattle.version.proofs.mark.stale_mask.Goals as goal

pub returns : goal.returns
unfolding stale_mask
returns c =
    let a = c.args in
    c.mask_of.ensures
    (λ k. is_stale a.z.writers k (read_place a.z a.words.now a.cache k)
    (read_place a.z a.words.now a.master k)) (λ k b h q. search rules)
