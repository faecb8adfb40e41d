-- `limit` is one of three counts, by the kind of place.
-- Assumes nothing.
use borrow.Author.Tests.{eq-eqb, ne_eqb}
use Rattle.model.specs.Calls.Look.{look_limit}
use Rattle.look.proofs.limit.Goals as goal

pub returns-then-place-eq0 : goal.returns-then-place-eq0
unfolding look_limit
returns-then-place-eq0 c = rw (eq-eqb _ _ c.if-place-eq0.true)

pub returns-then-place-eq1 : goal.returns-then-place-eq1
unfolding look_limit
returns-then-place-eq1 c = rw (ne_eqb _ _ c.if-place-eq0.false, eq-eqb _ _ c.if-place-eq1.true)

pub returns : goal.returns
unfolding look_limit
returns c = rw (ne_eqb _ _ c.if-place-eq0.false, ne_eqb _ _ c.if-place-eq1.false)
