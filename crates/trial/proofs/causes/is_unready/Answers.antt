-- `is_unready` tests two masks.
-- Assumes nothing.
use mathlib.Core.Path.{ap}
use mathlib.Core.Bool.{Bool, ◌||◌}
use Rattle.masks.specs.Mask.{test_bit}
use Rattle.model.specs.Step.{not_ready}
use Rattle.trial.proofs.Masks.{upstream-some}
use Rattle.trial.proofs.causes.is_unready.Goals as goal

pub returns : goal.returns
unfolding not_ready
returns c =
    let s = c in
    let a = s.args in
    rw (c.has.ensures, c.without.ensures)
    (ap (λ (b : Bool). test_bit a.done a.j || b)
    (upstream-some a.done a.upstream s.requires.1))
