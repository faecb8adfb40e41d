-- What the claims about forecasts are used for; each takes them as hypotheses.
-- goes_on: after `through` every step is ok. stops-there: what a job turned down answers.
-- scratch-is-desk: after `through` the scratch is the desk as the steps leave it.
-- forecast-again: it is in form. free-goes: a prepared run whose offices may hold all goes
-- through.
-- Assumes nothing.
use mathlib.Core.Path.{◌≡◌, refl, ap, ◌∙◌}
use mathlib.Core.Bool.{So}
use mathlib.Core.Logic.{◌≢◌, inl, inr}
use mathlib.Core.List.{List, [], ◌∷◌, ◌++◌}
use Prim.Native.Nat.{ℕ, ◌≤◌}
use native.Mathlib.Omega.{arith}
use lib.ListN.{length, take, drop}
use Rattle.sizes.specs.Bounds.{total_of}
use Rattle.model.specs.Outcome.{answer}
use Rattle.model.specs.Calls.Forecast.{through_word, turned_word}
use Rattle.model.specs.Calls.{step, ask, forecast}
use Rattle.layout.specs.Reading.{store_of}
use Rattle.layout.specs.Buffer.{in_form}
use Rattle.layout.specs.Forecast.{foreseen}
use Rattle.layout.specs.Calls.{on, call_on, after, leaves, outcomes}
use Rattle.booked.specs.Prepared.{Booked}
use Rattle.claims.specs.Forecasts.{step_calls, stepped_to, jobs_of, step_outcomes, Taken, ForecastForetells, AllOk, StopsAt, ForecastTellsFirst, ForecastTurned, PreparedForecast}

-- The answer of a forecast.
abbrev told : List ℕ → List ℕ → ℕ → List ℕ
told l m r = answer (call_on (on (ask (forecast (length m) r))) l)

pub goes_on : ForecastTellsFirst → (l m : List ℕ) (r : ℕ) → Taken l m r
    → told l m r ≡ through_word ∷ [] → AllOk (step_outcomes l r)
goes_on first l m r T e = (first l m r T).goes.0 e

pub stops-there : ForecastTellsFirst → ForecastTurned → (l m : List ℕ) (r j n : ℕ) → Taken l m r
    → told l m r ≡ turned_word ∷ j ∷ n ∷ []
    → StopsAt r l (jobs_of l r) j (2 ∷ n ∷ []) × (n ≢ 6)
stops-there first by l m r j n T e = (
  ((first l m r T).turned j n).0 e,
  λ six. elim (by l m r j n T e) [
    | inl a ↦ absurd (omega (arith, a, six))
    | inr b ↦ elim b [
      | inl a ↦ absurd (omega (arith, a, six))
      | inr a ↦ absurd (omega (arith, a, six))
    ]
  ],
)

all-stepped : (r : ℕ) (js l : List ℕ) → AllOk (outcomes (step_calls r js) l)
    → stepped_to js (outcomes (step_calls r js) l) ≡ js
unfolding stepped_to outcomes
all-stepped r [] l A = refl
all-stepped r (j ∷ js) l A =
    let x = call_on (on (step r j 0)) l in
    rw A.0 (ap (λ (t : List ℕ). j ∷ t) (all-stepped r js (leaves x l) A.1))

pub scratch-is-desk : ForecastForetells → (l m : List ℕ) (r : ℕ) → Taken l m r
    → AllOk (step_outcomes l r) → let total = total_of (store_of l).counts in
    foreseen l m r ≡ take total (after (step_calls r (jobs_of l r)) l) ++ drop total m
scratch-is-desk tells l m r T A =
    let total = total_of (store_of l).counts in
    (tells l m r T).scratch
    ∙ ap (λ (js : List ℕ). take total (after (step_calls r js) l) ++ drop total m)
    (all-stepped r (jobs_of l r) l A)

-- A forecast may be made of the scratch: it is a desk.
pub forecast-again : ForecastForetells → (l m : List ℕ) (r : ℕ) → Taken l m r
    → So (in_form (foreseen l m r))
forecast-again tells l m r T = (tells l m r T).formed

pub free-goes : PreparedForecast → ForecastTellsFirst → (l m : List ℕ) (r : ℕ) → Booked l r
    → Taken l m r → total_of (store_of l).counts ≤ length m
    → ((j : ℕ) → told l m r ≢ turned_word ∷ j ∷ 13 ∷ []) → AllOk (step_outcomes l r)
free-goes prepared first l m r B T h free =
    elim (prepared l m r B h) [
      | inl e ↦ goes_on first l m r T e
      | inr e ↦ absurd (free e.0 e.1)
    ]
