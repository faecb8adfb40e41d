-- `moved_keys` has the keys that move.
-- Assumes nothing.
use Rattle.std.proofs.Common.{rules}
use Rattle.model.specs.Stays.{moved_keys, moved_set}
use Rattle.version.specs.Branches.{branch_at}
use Rattle.version.proofs.moved.moved_keys.Goals as goal

pub returns : goal.returns
unfolding moved_set
returns c =
    let a = c.args in
    c.mask_of.ensures (moved_keys a.z (branch_at a.z a.words.now a.m a.a)
    (branch_at a.z a.words.now a.n a.b)) (λ k b h q. search rules)
