-- `put_two` stores two words.
-- Assumes nothing.
use native.Mathlib.Omega.{arith}
use mathlib.Core.Path.{refl}
use lib.ListN.{length-set}
use borrow.Author.Rules.{rules}
use Rattle.answers.proofs.Fronts.{over-two}
use Rattle.answers.proofs.put_two.Goals as goal

pub bounds-answer-0 : goal.bounds-answer-0
bounds-answer-0 c = search rules

pub bounds-answer-1 : goal.bounds-answer-1
bounds-answer-1 c = rw length-set (omega (arith, c.requires))

pub shape_of-answer : goal.shape_of-answer
shape_of-answer c = search rules

pub returns : goal.returns
returns c =
    let a = c.args in
    record {
      laid = over-two a.answer.now a.first a.number (omega (arith, c.requires));
      count = refl;
    }
