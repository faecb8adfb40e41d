-- `merged_leaders` takes the writers with a count where nobody is named.
-- Assumes nothing.
use borrow.Author.Tests.{eq-eqb, ne_eqb}
use Rattle.model.specs.Version.{merged_leaders}
use Rattle.version.proofs.merge.merged_leaders.Goals as goal

pub returns-then-leading-eq0 : goal.returns-then-leading-eq0
unfolding merged_leaders
returns-then-leading-eq0 c =
    rw (← c.named-leading.ensures, eq-eqb _ _ c.if-leading-eq0.true) c.present_writers.ensures

pub returns : goal.returns
unfolding merged_leaders
returns c = rw (← c.named-leading.ensures, ne_eqb _ _ c.if-leading-eq0.false)
