-- The words of an answer in a lent slice.
-- max_answer, answer_room: how many words there are. over: words laid over the front of others.
-- Lays: a slice before and after. done_words, result_words, answered_words: document 01's outcome
-- and number for each case.
-- Assumes nothing.
use Rattle.std.specs.Prelude.{◌≡◌, List, [], ◌∷◌, ◌++◌, ℕ, length, drop, Result, Ok, Err}
use Rattle.answers.specs.declared.refusal.Refusal.{Refusal}
use Rattle.answers.specs.Refusals.{refusal_number}

-- The most words of an answer: a first word and 32 numbers.
abbrev pub max_answer : ℕ
max_answer = 33

-- The least words of a lent answer slice.
abbrev pub answer_room : ℕ
answer_room = 40

-- The words l with ws in place of the first of them.
unfoldable pub over : List ℕ → List ℕ → List ℕ
over ws l = ws ++ drop (length ws) l

-- The slice a became b, with the words ws in front and every other word as it was; n tells how
-- many they are.
pub record Lays (ws a b : List ℕ) (n : ℕ) : Type 0 where
  pub laid : b ≡ over ws a
  pub count : n ≡ length ws

-- 0 ok, and the number.
abbrev pub done_words : ℕ → List ℕ
done_words n = 0 ∷ n ∷ []

-- An answer's words, or 2 refused; "a refusal carries its number".
abbrev pub result_words : {A : Type 0} → (A → List ℕ) → Result A Refusal → List ℕ
result_words f (Ok x) = f x
result_words f (Err r) = 2 ∷ refusal_number r ∷ []

-- Of a call with one number.
abbrev pub answered_words : Result ℕ Refusal → List ℕ
answered_words = result_words done_words
