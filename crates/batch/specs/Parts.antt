-- What the parts of the code say of themselves.
-- end_of: where a line ends. Lends: buffers that suffice. DoesLine: one line.
-- Assumes nothing.
use Rattle.std.specs.Prelude.{◌≡◌, cond, List, [], ◌∷◌, ℕ, zero, suc, ◌+◌, ◌≤◌, eqb, length}
use Rattle.answers.specs.Answers.{answer_room}
use Rattle.print.specs.Print.{line_room}
use Rattle.script.specs.Limits.{over_line}
use Rattle.batch.specs.Batch.{point, line_done}

-- The index of the first line end, and the length of a text that has none.
unfoldable pub end_of : List ℕ → ℕ
end_of [] = zero
end_of (b ∷ bs) = cond (eqb b 10) zero (suc (end_of bs))

-- The buffers for the numbers of a line, the words of its answer, and the answer's line.
pub record Lends (numbers answer row : List ℕ) : Type 0 where
  pub numbers-room : over_line ≤ length numbers
  pub answer-room : answer_room ≤ length answer
  pub row_room : line_room ≤ length row

-- Line s made of the buffer l, the scratch m and the answers a those with a stroke, however many
-- bytes were taken before it.
abbrev pub DoesLine : List ℕ → List ℕ → List ℕ → List ℕ → List ℕ → List ℕ → List ℕ → Type 0
DoesLine s l l' m m' a a' =
    (n : ℕ) → point l' m' a' (n + (length s + 1)) ≡ line_done (point l m a n) s
