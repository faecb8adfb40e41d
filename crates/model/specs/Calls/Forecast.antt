-- Forecast (CR 12): whether stepping the jobs of a run that aren't done ends without a break,
-- found without stepping them on the desk, as in the hybrid protocol of source document 001.
-- undone: the jobs. Ended, Walked, walk: how the steps end, and the store that they leave.
-- forecast_cause, forecast_reply: the call.
-- Assumes nothing.
use Rattle.std.specs.Prelude.{cond, List, [], ◌∷◌, ℕ, eqb, ltb}
use Rattle.words.specs.Lists.{blocks}
use Rattle.masks.specs.Mask.{test_bit}
use Rattle.sizes.specs.Bounds.{total_of}
use Rattle.model.specs.Store.{Run, forked_mark, Store}
use Rattle.model.specs.Outcome.{Outcome, refused, broken, done, told, Reply, refuse, forecast_row, run_cause}
use Rattle.model.specs.Step.{step_rule_of}

-- The first word of an answer: 6 through, 7 breaks, 8 turned.
abbrev pub through_word : ℕ
through_word = 6

abbrev pub breaks_word : ℕ
breaks_word = 7

abbrev pub turned_word : ℕ
turned_word = 8

-- A job, if a done mask lacks it.
unfoldable pub undone_at : ℕ → ℕ → List ℕ
undone_at finished j = cond (test_bit finished j) [] (j ∷ [])

-- "the jobs not done, lowest first"
unfoldable pub undone : Run → List ℕ
undone a = blocks a.jobs (λ j. undone_at a.done j)

-- "the first job that breaks and its mask, or "goes through", or the first job turned down and its
-- number"
pub data Ended : Type 0 where
  through : Ended
  breaks_at : ℕ → ℕ → Ended  -- job, mask
  turned_at : ℕ → ℕ → Ended  -- job, number

pub record Walked : Type 0 where
  pub ended : Ended
  pub store : Store

-- After a step of job j that came to an outcome on store s: what comes next if it is done,
-- otherwise the end: it "stops at whichever comes first". (`step_rule_of` never gives `told`.)
unfoldable pub walk_on : ℕ → Store → Outcome → (Store → Walked) → Walked
walk_on j s (refused n) next = record { ended = turned_at j n; store = s }
walk_on j s (broken m t) next = record { ended = breaks_at j m; store = t }
walk_on j s (done a t) next = next t
walk_on j s (told w a) next = next s

-- "stepping the jobs .., nothing in between": on line 0, each on the store that the last one left.
unfoldable pub walk : ℕ → List ℕ → Store → Walked
walk r [] s = record { ended = through; store = s }
walk r (j ∷ js) s = walk_on j s (step_rule_of r j 0 s) (walk r js)

unfoldable pub ended_word : Ended → ℕ
ended_word through = through_word
ended_word (breaks_at j m) = breaks_word
ended_word (turned_at j n) = turned_word

unfoldable pub ended_numbers : Ended → List ℕ
ended_numbers through = []
ended_numbers (breaks_at j m) = j ∷ m ∷ []
ended_numbers (turned_at j n) = j ∷ n ∷ []

module _ (s : Store) (n r : ℕ) where
  -- "A scratch too short gives 1, a forked run 14", of a scratch of n words. A run that was joined
  -- is taken.
  unfoldable pub forecast_cause : ℕ
  forecast_cause =
      refuse (ltb n (total_of s.counts)) 1
      (run_cause s forecast_row r
      (refuse (eqb (s.run r).mark forked_mark) 14
      0))

-- The steps of the run's jobs that aren't done.
unfoldable pub forecast_walk : ℕ → Store → Walked
forecast_walk r s = walk r (undone (s.run r)) s

unfoldable pub forecast_reply : ℕ → ℕ → Store → Reply
forecast_reply n r s = record {
  cause = forecast_cause s n r;
  word = ended_word (forecast_walk r s).ended;
  numbers = ended_numbers (forecast_walk r s).ended;
}
