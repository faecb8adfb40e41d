-- `is_between` tests a count against 1 and the top.
-- Assumes nothing.
use mathlib.Core.Path.{◌∙◌}
use native.Mathlib.Omega.{arith}
use Rattle.std.proofs.lemmas.Bool.Decides.{nat_tests}
use Rattle.sizes.specs.Bounds.{between}
use Rattle.sizes.proofs.is_between.Goals as goal

pub returns : goal.returns
unfolding between
returns c =
    let new = c.new.ensures in
    c.contains.ensures.value ∙ grind (arith, nat_tests, new.start, new.end, new.exhausted)
