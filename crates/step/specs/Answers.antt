-- The answers of step: document 01's outcome and numbers for each case of the enum.
-- Assumes nothing.
use Rattle.std.specs.Prelude.{List, [], ◌∷◌, ℕ, Result}
use Rattle.answers.specs.declared.refusal.Refusal.{Refusal}
use Rattle.answers.specs.Answers.{result_words}
use Rattle.step.specs.declared.Stepped.{Stepped}

-- "three masks that divide R", or "*broken* with those sheets".
abbrev pub outcome_words : Stepped → List ℕ
outcome_words (Stepped.Done snapshot cache master) = 0 ∷ snapshot ∷ cache ∷ master ∷ []
outcome_words (Stepped.Broken moved) = 1 ∷ moved ∷ []

-- The same, or the cause's number.
abbrev pub stepped_words : Result Stepped Refusal → List ℕ
stepped_words = result_words outcome_words
