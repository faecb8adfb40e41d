-- `out_of_range` tests the number, then the mask.
-- Assumes nothing.
use mathlib.Core.Path.{ap, ◌∙◌}
use mathlib.Core.Bool.{Bool, not, ◌||◌}
use Prim.Native.Nat.{◌^◌}
use lib.Dec.{leb}
use Rattle.words.proofs.Bools.{not-ltb}
use Rattle.rights.proofs.out_of_range.Goals as goal

pub returns : goal.returns
returns c =
    let a = c.args in
    ap (λ (b : Bool). leb a.n a.i || b)
    (ap not c.is_below.ensures ∙ not-ltb a.mask (2 ^ a.z.keys))
