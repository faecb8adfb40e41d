-- How many words the outcome of a join has.
-- Assumes nothing.
use Rattle.std.specs.Prelude.{◌≤◌, length}
use Rattle.std.proofs.Math.Dec.{lit≤}
use Rattle.answers.specs.Answers.{max_answer}
use Rattle.fork.specs.declared.Joined.{Joined}
use Rattle.fork.specs.Answers.{union_words}

pub few-union : (x : Joined) → length (union_words x) ≤ max_answer
few-union Joined.Done = lit≤ tt
few-union (Joined.Broken m) = lit≤ tt
