-- `put_one` stores one word.
-- Assumes nothing.
use native.Mathlib.Omega.{arith}
use mathlib.Core.Path.{refl}
use Rattle.answers.proofs.Fronts.{over-one}
use Rattle.answers.proofs.put_one.Goals as goal

pub returns : goal.returns
returns c =
    let a = c.args in
    record {
      laid = over-one a.answer.now a.word (omega (arith, c.requires));
      count = refl;
    }
