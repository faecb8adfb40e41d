-- `masks::mask_if` meets its contract.
-- Assumes nothing.
use mathlib.Core.Path.{sym}
use Rattle.words.proofs.Numbers.{when-yes, when-no}
use Rattle.masks.proofs.mask_if.Goals as goal

pub returns-then-test : goal.returns-then-test
returns-then-test c = sym (when-yes c.before.args.test c.before.args.mask c.if-test.true)

pub returns-else-test : goal.returns-else-test
returns-else-test c = sym (when-no c.before.args.test c.before.args.mask c.if-test.false)
