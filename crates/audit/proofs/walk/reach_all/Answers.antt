-- `reach_all` compares the counts, at each eighth issue.
-- Assumes nothing.
use mathlib.Core.Path.{ap, ◌∙◌}
use Rattle.words.proofs.Bools.{eq-eqb, ne_eqb}
use Rattle.clock.specs.Clock.{dominates, covering}
use Rattle.audit.proofs.walk.reach_all.Goals as goal

pub returns-then-j-ne0 : goal.returns-then-j-ne0
returns-then-j-ne0 c = rw (ne_eqb _ 0 c.if-j-ne0.true)

pub returns : goal.returns
unfolding dominates
returns c =
    rw (eq-eqb _ 0 c.if-j-ne0.false)
    (c.covering.ensures ∙ ap covering c.compare.ensures)
