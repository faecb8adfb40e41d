-- Explain: what a step of a job would draw into the snapshot ("card") such that its run breaks,
-- found without stepping it.
-- explain_start, -Edge, -Goal: of which a path is made. explain_path: the path. explain_reply: the
-- call. Explains: what the call is for; ExplainsOutcome: for any outcome of the step.
-- Assumes nothing.
use Rattle.std.specs.Prelude.{◌≡◌, Bool, cond, List, [], ◌∷◌, ◌↔◌, ℕ}
use Rattle.std.proofs.Math.Bool.{So}
use Rattle.words.specs.Tests.{Items, any_below}
use Rattle.masks.specs.Mask.{test_bit}
use Rattle.paths.specs.Path.{ShortestPath, shortest_path, last_of}
use Rattle.model.specs.Algebra.{lacking}
use Rattle.model.specs.Version.{versions}
use Rattle.model.specs.Sets.{draws}
use Rattle.model.specs.Store.{Store}
use Rattle.model.specs.Outcome.{Outcome, answer, Reply}
use Rattle.model.specs.Step.{step_branch, step_reads, step_cache, step_plan, step_moved, step_cause, step_rule_of}

-- The first word of an answer: 3 clear, 4 path.
abbrev pub clear_word : ℕ
clear_word = 3

abbrev pub path_word : ℕ
path_word = 4

module _ (s : Store) (r j n : ℕ) where
  -- "first a read of the job that the card lacks"
  unfoldable pub explain_start : Items
  explain_start =
      lacking (versions s.counts.writers) s.counts.keys (step_branch s r j n).snapshot
      (step_reads s r j n)

  -- "each next one a plan's sheet on the shelf (as the step's fetch would leave it), needed by the
  -- shelf's version of the one before, a need the card doesn't meet": as C is drawn.
  unfoldable pub explain_edge : ℕ → Items
  explain_edge =
      draws (versions s.counts.writers) s.counts.keys (step_plan s r j n)
      (step_branch s r j n).snapshot (step_cache s r j n)

  -- "the last already read"
  unfoldable pub explain_goal : Items
  explain_goal = test_bit (step_branch s r j n).read

  -- "a shortest such path; of equally short ones, the smallest sheet by sheet"
  unfoldable pub explain_path : List ℕ
  explain_path = shortest_path s.counts.keys explain_edge explain_start explain_goal

  -- The step would break: C has a key of the read mask.
  unfoldable pub breaks : Bool
  breaks = any_below s.counts.keys (step_moved s r j n)

-- "explains a job of an open run without stepping it": refused for step's cause, else clear, or
-- the path.
unfoldable pub explain_reply : ℕ → ℕ → ℕ → Store → Reply
explain_reply r j n s = record {
  cause = step_cause s r j n;
  word = cond (breaks s r j n) path_word clear_word;
  numbers = cond (breaks s r j n) (explain_path s r j n) [];
}

-- ---- what it is for

-- The outcome is answered with this first word.
abbrev pub Answers : Outcome → ℕ → Type 0
Answers x w = (l : List ℕ) × (answer x ≡ w ∷ l)

-- An outcome x explains an outcome y of the step of job j of run r.
pub record ExplainsOutcome (s : Store) (r j n : ℕ) (x y : Outcome) : Type 0 where
  -- "The answer is "clear" exactly if the step would be answered `ok`."
  pub clear : (answer x ≡ clear_word ∷ []) ↔ Answers y 0
  -- "If the job would break, it gives a path",
  pub path : Answers x path_word ↔ Answers y 1
  -- "a shortest such path; of equally short ones, the smallest sheet by sheet"
  pub shortest : (l : List ℕ) → answer x ≡ path_word ∷ l
      → ShortestPath s.counts.keys (explain_edge s r j n) (explain_start s r j n)
      (explain_goal s r j n) l
  -- Its last sheet is one of those with which the step breaks.
  pub ends : (l : List ℕ) (m : ℕ) → answer x ≡ path_word ∷ l → answer y ≡ 1 ∷ m ∷ []
      → So (test_bit m (last_of l))
  -- "It turns down what step does, by the same numbers",
  pub refused : (c : ℕ) → (answer x ≡ 2 ∷ c ∷ []) ↔ (answer y ≡ 2 ∷ c ∷ [])

-- It explains what the step comes to.
abbrev pub Explains : Store → ℕ → ℕ → ℕ → Outcome → Type 0
Explains s r j n x = ExplainsOutcome s r j n x (step_rule_of r j n s)
