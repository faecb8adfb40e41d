-- A number alone is two words.
-- Assumes nothing.
use Rattle.std.specs.Prelude.{ℕ, ◌≤◌, length}
use Rattle.std.proofs.Math.Dec.{lit≤}
use Rattle.answers.specs.Answers.{max_answer, done_words}

pub few-done : (n : ℕ) → length (done_words n) ≤ max_answer
few-done n = lit≤ tt
