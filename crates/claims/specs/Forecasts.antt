-- CR 12: what a forecast foretells, told of the steps as calls on the buffer.
-- step_calls: steps of a run. end_of: how their outcomes end. stepped_to: how far they go. Taken:
-- the
-- forecast isn't refused. Foretells, ForecastForetells: its answer and scratch are theirs. AllOk,
-- StopsAt, TellsFirst, ForecastTellsFirst: the answer, outcome by outcome. ForecastTurned: by
-- which numbers a job is turned down. PreparedForecast: with CR 11, of a prepared run.
-- Assumes nothing.
use Rattle.std.specs.Prelude.{◌≡◌, cond, ◌⊎◌, ◌↔◌, List, [], ◌∷◌, ◌++◌, map, ℕ, ◌≤◌, length, take, drop}
use Rattle.std.proofs.Math.Bool.{So}
use Rattle.sizes.specs.Bounds.{total_of}
use Rattle.model.specs.Outcome.{Outcome, refused, broken, done, told, answer}
use Rattle.model.specs.Calls.Forecast.{through_word, breaks_word, turned_word, undone, Ended, through, breaks_at, turned_at, ended_word, ended_numbers, forecast_cause}
use Rattle.model.specs.Calls.{step, ask, forecast}
use Rattle.layout.specs.Reading.{store_of}
use Rattle.layout.specs.Buffer.{in_form}
use Rattle.layout.specs.Forecast.{foreseen}
use Rattle.layout.specs.Calls.{Call, on, call_on, is_ok_of, after, outcomes}
use Rattle.booked.specs.Prepared.{Booked}

-- Steps of these jobs of run r, on line 0, one after the other.
abbrev pub step_calls : ℕ → List ℕ → List Call
step_calls r js = map (λ j. on (step r j 0)) js

-- "the first job that breaks and its mask, .. or the first job turned down and its number", where
-- the step of job j comes to this. (It is asked of steps that aren't ok alone.)
unfoldable pub stopped_by : ℕ → Outcome → Ended
stopped_by j (refused n) = turned_at j n
stopped_by j (broken m s) = breaks_at j m
stopped_by j (done a s) = through
stopped_by j (told w a) = through

-- By the outcomes of the steps of some jobs, as many: "stops at whichever comes first".
unfoldable pub end_of : List ℕ → List Outcome → Ended
end_of [] xs = through
end_of (j ∷ js) [] = through
end_of (j ∷ js) (x ∷ xs) = cond (is_ok_of x) (end_of js xs) (stopped_by j x)

-- The jobs up to the first whose step isn't ok, that one included.
unfoldable pub stepped_to : List ℕ → List Outcome → List ℕ
stepped_to [] xs = []
stepped_to (j ∷ js) [] = []
stepped_to (j ∷ js) (x ∷ xs) = j ∷ cond (is_ok_of x) (stepped_to js xs) []

-- "the jobs not done, lowest first" of run r of a buffer, and what their steps come to, "nothing
-- in between".
abbrev pub jobs_of : List ℕ → ℕ → List ℕ
jobs_of l r = undone ((store_of l).run r)

abbrev pub step_outcomes : List ℕ → ℕ → List Outcome
step_outcomes l r = outcomes (step_calls r (jobs_of l r)) l

-- A forecast of run r of the buffer l, with the scratch m.
pub record Foretells (l m : List ℕ) (r : ℕ) : Type 0 where
  pub answers : let e = end_of (jobs_of l r) (step_outcomes l r) in
      answer (call_on (on (ask (forecast (length m) r))) l) ≡ ended_word e ∷ ended_numbers e
  -- "The scratch holds the desk as those steps would leave it, its words past the total untouched"
  pub scratch : let js = stepped_to (jobs_of l r) (step_outcomes l r) in
      let total = total_of (store_of l).counts in
      foreseen l m r ≡ take total (after (step_calls r js) l) ++ drop total m
  -- It is a desk.
  pub formed : So (in_form (foreseen l m r))

-- It isn't refused.
abbrev pub Taken : List ℕ → List ℕ → ℕ → Type 0
Taken l m r = So (in_form l) × (forecast_cause (store_of l) (length m) r ≡ 0)

abbrev pub ForecastForetells : Type 0
ForecastForetells = (l m : List ℕ) (r : ℕ) → Taken l m r → Foretells l m r

-- ---- outcome by outcome

abbrev pub AllOk : List Outcome → Type 0
AllOk [] = Unit
AllOk (x ∷ xs) = So (is_ok_of x) × AllOk xs

-- Of the steps of jobs from the buffer l on, those before job j are ok, and its own answers w.
pub record StopsAt (r : ℕ) (l js : List ℕ) (j : ℕ) (w : List ℕ) : Type 0 where
  pub earlier : List ℕ
  pub later : List ℕ
  pub split : js ≡ earlier ++ j ∷ later
  pub ok : AllOk (outcomes (step_calls r earlier) l)
  pub answered : answer (call_on (on (step r j 0)) (after (step_calls r earlier) l)) ≡ w

-- "goes through" exactly if all are ok; a job that breaks or is turned down exactly if those
-- before it are ok and it does.
pub record TellsFirst (l m : List ℕ) (r : ℕ) : Type 0 where
  pub goes : (answer (call_on (on (ask (forecast (length m) r))) l) ≡ through_word ∷ [])
      ↔ AllOk (step_outcomes l r)
  pub breaks : (j n : ℕ)
      → (answer (call_on (on (ask (forecast (length m) r))) l) ≡ breaks_word ∷ j ∷ n ∷ [])
      ↔ StopsAt r l (jobs_of l r) j (1 ∷ n ∷ [])
  pub turned : (j n : ℕ)
      → (answer (call_on (on (ask (forecast (length m) r))) l) ≡ turned_word ∷ j ∷ n ∷ [])
      ↔ StopsAt r l (jobs_of l r) j (2 ∷ n ∷ [])

abbrev pub ForecastTellsFirst : Type 0
ForecastTellsFirst = (l m : List ℕ) (r : ℕ) → Taken l m r → TellsFirst l m r

-- 6 can't come: upstreams are lower jobs.
abbrev pub ForecastTurned : Type 0
ForecastTurned =
    (l m : List ℕ) (r j n : ℕ) → Taken l m r
    → answer (call_on (on (ask (forecast (length m) r))) l) ≡ turned_word ∷ j ∷ n ∷ []
    → (n ≡ 13) ⊎ ((n ≡ 7) ⊎ (n ≡ 12))

-- ---- with CR 11

-- "no later step answers broken, 7 or 12" of a run that was prepared: its forecast, with a scratch
-- that has room, isn't refused and goes through, or a right is missing.
abbrev pub PreparedForecast : Type 0
PreparedForecast =
    (l m : List ℕ) (r : ℕ) → Booked l r → total_of (store_of l).counts ≤ length m
    → let a = answer (call_on (on (ask (forecast (length m) r))) l) in
    (a ≡ through_word ∷ []) ⊎ ((j : ℕ) × (a ≡ turned_word ∷ j ∷ 13 ∷ []))
