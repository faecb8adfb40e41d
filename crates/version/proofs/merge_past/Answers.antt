-- `merge_past` stores the larger words, which are those of the larger counts.
-- Assumes nothing.
use Rattle.layout.proofs.Pasts.{merge-past}
use Rattle.version.proofs.merge_past.Goals as goal

pub merge_into-requires : goal.merge_into-requires
merge_into-requires c =
    rw c.past_size-n.ensures c.requires.apart

pub returns : goal.returns
returns c =
    let a = c.args in
    rw (
      ← merge-past a.z a.words.now a.to a.from c.requires.apart.dst_in,
      ← c.past_size-n.ensures,
    )
    c.merge_into.ensures
