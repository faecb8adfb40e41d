-- The words of a pick's answer.
-- picked_words: so. if_below: what a search finds.
-- Assumes nothing.
use Rattle.std.specs.Prelude.{cond, List, [], ◌∷◌, ℕ, ltb, Option, Some, None}
use Rattle.model.specs.Calls.Pick.{nothing_word}
use Rattle.pick.specs.declared.Picked.{Picked}

-- "The answer is run and job"; "nothing to do".
unfoldable pub picked_words : Option Picked → List ℕ
picked_words (Some p) = 0 ∷ p.run ∷ p.job ∷ []
picked_words None = nothing_word ∷ []

-- i, if it is one of the numbers below n.
unfoldable pub if_below : ℕ → ℕ → Option ℕ
if_below n i = cond (ltb i n) (Some i) None
