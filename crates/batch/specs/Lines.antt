-- The whole lines of a text: whole_lines, those that have their end.
-- Assumes nothing.
use Rattle.std.specs.Prelude.{cond, List, [], ◌∷◌, ℕ, eqb}

-- A byte in front of the first whole line. Where there is none, its line lacks its end.
unfoldable pub in_front_of : ℕ → List (List ℕ) → List (List ℕ)
in_front_of b [] = []
in_front_of b (s ∷ ss) = (b ∷ s) ∷ ss

-- A line feed (10) ends a line and isn't part of it. What follows the last one is no whole line,
-- so a text may be cut at any byte.
unfoldable pub whole_lines : List ℕ → List (List ℕ)
whole_lines [] = []
whole_lines (b ∷ bs) = cond (eqb b 10) ([] ∷ whole_lines bs) (in_front_of b (whole_lines bs))
