-- The answers of join: CR 10's outcome and number for each case of the enum.
-- Assumes nothing.
use Rattle.std.specs.Prelude.{List, [], ◌∷◌, ℕ, Result}
use Rattle.answers.specs.declared.refusal.Refusal.{Refusal}
use Rattle.answers.specs.Answers.{result_words}
use Rattle.fork.specs.declared.Joined.{Joined}

-- 0; or "broken with the mask of the sheets that moved".
abbrev pub union_words : Joined → List ℕ
union_words Joined.Done = 0 ∷ 0 ∷ []
union_words (Joined.Broken moved) = 1 ∷ moved ∷ []

-- The same, or the cause's number.
abbrev pub joined_words : Result Joined Refusal → List ℕ
joined_words = result_words union_words
