-- A result has few words, where the answers have.
-- Assumes nothing.
use mathlib.Core.List.{List}
use Prim.Native.Nat.{ℕ, ◌≤◌}
use native.Mathlib.Omega.{arith}
use lib.ListN.{length}
use Rattle.std.specs.Prelude.{Result, Ok, Err}
use Rattle.answers.specs.declared.refusal.Refusal.{Refusal}
use Rattle.answers.specs.Answers.{max_answer, result_words}

pub few_result : {A : Type 0} (f : A → List ℕ) → ((x : A) → length (f x) ≤ max_answer)
    → (r : Result A Refusal) → length (result_words f r) ≤ max_answer
few_result f h (Ok x) = h x
few_result f h (Err r) = omega arith
