-- `masks::with_if` meets its contract.
-- Assumes nothing.
use Rattle.masks.specs.Mask.{with_if}
use Rattle.masks.proofs.with_if.Goals as goal

pub returns-then-test : goal.returns-then-test
unfolding with_if
returns-then-test c = rw c.before.if-test.true c.with_item.ensures

pub returns-else-test : goal.returns-else-test
unfolding with_if
returns-else-test c = rw c.if-test.false
