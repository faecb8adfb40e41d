-- `named` has the writers that lead.
-- Assumes nothing.
use Rattle.std.proofs.Common.{rules}
use Rattle.clock.specs.Clock.{clock_at}
use Rattle.model.specs.Version.{leads_on}
use Rattle.version.proofs.merge.named.Goals as goal

pub returns : goal.returns
unfolding leads_on clock_at
returns c =
    let a = c.args in
    c.mask_of.ensures (leads_on a.m (clock_at a.words.now a.p) a.n (clock_at a.words.now a.q))
    (λ k b h q. search rules)
