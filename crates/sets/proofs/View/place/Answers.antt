-- `View::place` is the first index for a key of the mask, the second for another.
-- Assumes nothing.
use mathlib.Core.Path.{sym, ◌∙◌}
use Rattle.sets.specs.Draws.{view_at}
use Rattle.sets.proofs.View.place.Goals as goal

pub returns-then-has : goal.returns-then-has
unfolding view_at
returns-then-has c = rw (sym c.has.ensures ∙ c.if-has.true)

pub returns-else-has : goal.returns-else-has
unfolding view_at
returns-else-has c = rw (sym c.has.ensures ∙ c.if-has.false)
