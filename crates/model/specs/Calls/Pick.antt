-- Pick: the next job, of the first run that waits, going round the runs from the one after the
-- last picked.
-- ready, waiting, ready_job: the jobs of a run. pick_turn, picked_run: which run. pick_rule: the
-- call.
-- Assumes nothing.
use Rattle.std.specs.Prelude.{Bool, cond, not, ◌&&◌, [], ◌∷◌, ℕ, eqb, ltb}
use Rattle.words.specs.Tests.{Items, any_below}
use Rattle.words.specs.Turns.{first_below_of, turn}
use Rattle.model.specs.Store.{Run, Store, with_round}
use Rattle.model.specs.Outcome.{Outcome, done, told, open_state}
use Rattle.model.specs.Step.{not_ready}

-- The first word of an answer: 5 nothing.
abbrev pub nothing_word : ℕ
nothing_word = 5

-- "a job that is not done and whose upstreams are", of a run's jobs: step's row 6 passes it.
unfoldable pub ready : Run → Items
ready a j = not (not_ready a.done (a.job j).upstream j)

-- "open run with a job that is not done and whose upstreams are"
unfoldable pub waiting : Run → Bool
waiting a = eqb a.state open_state && any_below a.jobs (ready a)

-- "in it the lowest such job"
unfoldable pub ready_job : Run → ℕ
ready_job a = first_below_of a.jobs (ready a)

module _ (s : Store) where
  -- "going round the runs from the one after the last picked": the run at a turn.
  abbrev pub turn_run : ℕ → ℕ
  turn_run i = turn s.counts.runs s.tail.round i

  -- The turn of the first run that waits, P where none does.
  unfoldable pub pick_turn : ℕ
  pick_turn = first_below_of s.counts.runs (λ i. waiting (s.run (turn_run i)))

  unfoldable pub picked_run : ℕ
  picked_run = turn_run pick_turn

  -- "The answer is run and job", and run r is the last picked now. "A pick steps nothing."
  unfoldable pub pick_done : ℕ → Outcome
  pick_done r = done (r ∷ ready_job (s.run r) ∷ []) (with_round s r)

  -- ""nothing to do" leaves it"
  unfoldable pub pick_rule : Outcome
  pick_rule = cond (ltb pick_turn s.counts.runs) (pick_done picked_run) (told nothing_word [])
