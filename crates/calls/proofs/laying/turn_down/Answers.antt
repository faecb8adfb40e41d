-- `turn_down` refuses, if there is room for it.
-- Assumes nothing.
use native.Mathlib.Omega.{arith}
use mathlib.Core.Path.{refl}
use Rattle.calls.proofs.laying.turn_down.Goals as goal

pub returns-then-out-lt-ANSWER : goal.returns-then-out-lt-ANSWER
returns-then-out-lt-ANSWER c = record {
  laid = λ h. absurd (omega (arith, h, c.if-out-lt-ANSWER.true));
  short = λ _. (refl, refl);
}

pub returns : goal.returns
returns c = record {
  laid = λ _. c.lay.ensures.laid;
  short = λ h. absurd (omega (arith, h, c.if-out-lt-ANSWER.false));
}
