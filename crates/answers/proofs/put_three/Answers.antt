-- `put_three` lays a third word behind two.
-- Assumes nothing.
use native.Mathlib.Omega.{arith}
use mathlib.Core.List.{[], ◌∷◌}
use Rattle.answers.proofs.Fronts.{over_last}
use Rattle.answers.proofs.put_three.Goals as goal

pub returns : goal.returns
returns c =
    let p = c in
    let s = p in
    let a = s.args in
    let t = p.put_two-two.ensures in
    record {
      laid = rw t.laid
          (over_last (a.first ∷ a.a ∷ []) a.answer.now _ _ t.count
          (omega (arith, s.requires)));
      count = rw t.count;
    }
