-- How many words the outcome of a forecast has.
-- Assumes nothing.
use Rattle.std.specs.Prelude.{◌≤◌, length}
use Rattle.std.proofs.Math.Dec.{lit≤}
use Rattle.answers.specs.Answers.{max_answer}
use Rattle.forecast.specs.declared.Foretold.{Foretold}
use Rattle.forecast.specs.Answers.{outcome_words}

pub few-outcome : (x : Foretold) → length (outcome_words x) ≤ max_answer
few-outcome Foretold.Through = lit≤ tt
few-outcome (Foretold.Breaks j m) = lit≤ tt
few-outcome (Foretold.Turned j r) = lit≤ tt
