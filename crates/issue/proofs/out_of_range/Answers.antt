-- `out_of_range` makes the three tests of the range.
-- Assumes nothing.
use mathlib.Core.Path.{ap, ◌∙◌}
use mathlib.Core.Bool.{not}
use Prim.Native.Nat.{◌^◌}
use Rattle.words.proofs.Bools.{not-ltb}
use Rattle.issue.proofs.out_of_range.Goals as goal

pub returns : goal.returns
returns c =
    let a = c.args in
    rw (ap not c.is_below.ensures ∙ not-ltb a.mask (2 ^ a.z.keys))
