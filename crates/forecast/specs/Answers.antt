-- The answers of forecast: CR 12's outcome and numbers for each case of the enum.
-- outcome_words, foretold_words: in words. ended_of: how the steps end. stopped_at: of a step's
-- own answer.
-- Assumes nothing.
use Rattle.std.specs.Prelude.{List, [], ◌∷◌, ℕ, Result, Ok, Err}
use Rattle.answers.specs.declared.refusal.Refusal.{Refusal}
use Rattle.answers.specs.Answers.{result_words}
use Rattle.answers.specs.Refusals.{refusal_number}
use Rattle.model.specs.Calls.Forecast.{through_word, breaks_word, turned_word, Ended, through, breaks_at, turned_at}
use Rattle.step.specs.declared.Stepped.{Stepped}
use Rattle.forecast.specs.declared.Foretold.{Foretold}

-- ""goes through"", "the first job that breaks and its mask", or "the first job turned down and
-- its number".
abbrev pub outcome_words : Foretold → List ℕ
outcome_words Foretold.Through = through_word ∷ []
outcome_words (Foretold.Breaks j m) = breaks_word ∷ j ∷ m ∷ []
outcome_words (Foretold.Turned j r) = turned_word ∷ j ∷ refusal_number r ∷ []

-- The same, or the cause's number.
abbrev pub foretold_words : Result Foretold Refusal → List ℕ
foretold_words = result_words outcome_words

unfoldable pub ended_of : Foretold → Ended
ended_of Foretold.Through = through
ended_of (Foretold.Breaks j m) = breaks_at j m
ended_of (Foretold.Turned j r) = turned_at j (refusal_number r)

-- After the step of job j.
unfoldable pub stopped_at : ℕ → Result Stepped Refusal → Ended
stopped_at j (Ok (Stepped.Done a b c)) = through
stopped_at j (Ok (Stepped.Broken m)) = breaks_at j m
stopped_at j (Err r) = turned_at j (refusal_number r)
