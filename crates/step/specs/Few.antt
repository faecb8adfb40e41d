-- How many words the outcome of a step has.
-- Assumes nothing.
use Rattle.std.specs.Prelude.{◌≤◌, length}
use Rattle.std.proofs.Math.Dec.{lit≤}
use Rattle.answers.specs.Answers.{max_answer}
use Rattle.step.specs.declared.Stepped.{Stepped}
use Rattle.step.specs.Answers.{outcome_words}

pub few-outcome : (x : Stepped) → length (outcome_words x) ≤ max_answer
few-outcome (Stepped.Done a b c) = lit≤ tt
few-outcome (Stepped.Broken m) = lit≤ tt
