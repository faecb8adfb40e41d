-- `put_masks` stores four words.
-- Assumes nothing.
use native.Mathlib.Omega.{arith}
use mathlib.Core.Path.{refl}
use lib.ListN.{length-set}
use Rattle.answers.proofs.Fronts.{over-four}
use Rattle.step.proofs.put_masks.Goals as goal

pub bounds-answer-1 : goal.bounds-answer-1
bounds-answer-1 c = simp length-set (omega (arith, c.requires))

pub bounds-answer-2 : goal.bounds-answer-2
bounds-answer-2 c = simp length-set (omega (arith, c.requires))

pub bounds-answer-3 : goal.bounds-answer-3
bounds-answer-3 c = simp length-set (omega (arith, c.requires))

pub returns : goal.returns
returns c =
    let a = c.args in record {
      laid = over-four a.answer.now 0 a.a a.b a.c (omega (arith, c.requires));
      count = refl;
    }
