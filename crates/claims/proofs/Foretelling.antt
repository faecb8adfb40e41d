-- A forecast foretells its steps, as calls on the buffer.
-- foretells, forecast-turned-by: statements of Forecasts.
-- Assumes nothing.
use mathlib.Core.Path.{◌≡◌, refl, sym, ap, subst, ◌∙◌}
use mathlib.Core.Bool.{So, cond}
use mathlib.Core.List.{List, [], ◌∷◌, ◌++◌}
use Prim.Native.Nat.{ℕ, ◌<◌}
use native.Mathlib.Omega.{arith}
use lib.ListN.{length, get_or, take, drop}
use Rattle.words.proofs.Bools.{leb-gt}
use Rattle.sizes.specs.Bounds.{total_of}
use Rattle.model.specs.Store.{Store}
use Rattle.model.specs.Outcome.{Outcome, refused, broken, done, answer, allowed, run_cause, forecast_row}
use Rattle.model.specs.Step.{step_rule_of, step_broken, step_done}
use Rattle.model.specs.Calls.Forecast.{turned_word, Ended, through, breaks_at, turned_at, walk_on, walk, ended_word, ended_numbers, forecast_cause, forecast_walk, forecast_reply}
use Rattle.model.specs.Calls.{step, ask, forecast, reply_of, rule_of}
use Rattle.model.proofs.Outcomes.{no-cause, no-lack}
use Rattle.model.proofs.Forecasts.{step-cases}
use Rattle.model.proofs.Turned.{forecast-turned}
use Rattle.layout.specs.Reading.{store_of}
use Rattle.layout.specs.Buffer.{written, in_form}
use Rattle.layout.specs.Forecast.{foreseen}
use Rattle.layout.specs.Calls.{on, call_on, is_ok_of, leaves, after, outcomes}
use Rattle.layout.proofs.Whole.{store-back}
use Rattle.layout.proofs.Follow.{fine-form, form-fine}
use Rattle.layout.proofs.Kept.{Kept}
use Rattle.layout.proofs.Rules.Step.{step_kept}
use Rattle.layout.proofs.Forms.{form_rule, ask-told}
use Rattle.layout.proofs.Foreseeing.{foreseen-done}
use Rattle.claims.specs.Forecasts.{step_calls, stopped_by, end_of, stepped_to, jobs_of, step_outcomes, Taken, ForecastForetells, ForecastTurned}
use Rattle.claims.proofs.Stepping.{stepped-form, stepped-counts, written_of}

-- ---- the walk, and the steps as calls

-- The walk over jobs from the store of l ends as their steps on l do.
abbrev Tells : ℕ → List ℕ → List ℕ → Type 0
Tells r js l =
    let xs = outcomes (step_calls r js) l in
    let w = walk r js (store_of l) in
    (w.ended ≡ end_of js xs) × (w.store ≡ store_of (after (step_calls r (stepped_to js xs)) l))

module _ (r j : ℕ) (js l : List ℕ) (rest : (m : List ℕ) → So (in_form m) → Tells r js m) where
  abbrev s : Store
  s = store_of l

  -- The same where the step of the first job comes to x, and to y as a call.
  abbrev Head : Outcome → Outcome → Type 0
  Head x y =
      let w = walk_on j s x (λ t. walk r js t) in
      let xs = outcomes (step_calls r js) (leaves y l) in
      (w.ended ≡ cond (is_ok_of y) (end_of js xs) (stopped_by j y))
      × (w.store
      ≡ store_of (after (step_calls r (cond (is_ok_of y) (stepped_to js xs) [])) (leaves y l)))

  head-refused : (n : ℕ) → Head (refused n) (refused n)
  unfolding walk_on is_ok_of leaves stopped_by after
  head-refused n = (refl, refl)

  head-broken : (m : ℕ) (t : Store) → Kept s (broken m t) → Head (broken m t) (broken m t)
  unfolding walk_on is_ok_of leaves stopped_by after
  head-broken m t K = (refl, sym (store-back t l K.fine.fits))

  head_done : (a : List ℕ) (t : Store) → Kept s (done a t) → Head (done a t) (done a t)
  unfolding walk_on is_ok_of leaves
  head_done a t K =
      let e = sym (store-back t l K.fine.fits) in
      let T = rest (written t l) (fine-form t l K.fine) in (
        ap (λ (u : Store). (walk r js u).ended) e ∙ T.0,
        ap (λ (u : Store). (walk r js u).store) e ∙ T.1,
      )

  head : So (in_form l) → Head (step_rule_of r j 0 s) (step_rule_of r j 0 s)
  unfolding step_broken step_done
  head F =
      step-cases (λ x. Kept s x → Head x x) s r j 0 (λ _ _. head-refused _)
      (λ _ K. head-broken _ _ K) (λ _ K. head_done _ _ K)
      (step_kept r j 0 s (form-fine l F))

  tells_more : So (in_form l) → Tells r (j ∷ js) l
  unfolding walk end_of stepped_to outcomes after rule_of
  tells_more F =
      subst (λ y. Head (step_rule_of r j 0 s) y) (sym (form_rule (step r j 0) l F)) (head F)

tells : (r : ℕ) (js l : List ℕ) → So (in_form l) → Tells r js l
unfolding walk end_of stepped_to after
tells r [] l F = (refl, refl)
tells r (j ∷ js) l F = tells_more r j js l (λ m G. tells r js m G) F

-- ---- the forecast

ended-answer : (l m : List ℕ) (r : ℕ) → Taken l m r
    → let e = (forecast_walk r (store_of l)).ended in
    answer (call_on (on (ask (forecast (length m) r))) l) ≡ ended_word e ∷ ended_numbers e
unfolding answer reply_of forecast_reply
ended-answer l m r T = ap answer (ask-told (forecast (length m) r) l T.0 T.1)

ended-steps : (l : List ℕ) (r : ℕ) → So (in_form l)
    → (forecast_walk r (store_of l)).ended ≡ end_of (jobs_of l r) (step_outcomes l r)
unfolding forecast_walk
ended-steps l r F = (tells r (jobs_of l r) l F).0

pub foretells : ForecastForetells
unfolding forecast_walk
foretells l m r T =
    let js = stepped_to (jobs_of l r) (step_outcomes l r) in
    let ahead = after (step_calls r js) l in
    let formed = stepped-form r js l T.0 in
    let seen : foreseen l m r ≡ written (store_of ahead) m =
    foreseen-done l m r T.0 T.1
    ∙ ap (λ (t : Store). written t m) (tells r (jobs_of l r) l T.0).1 in
    record {
      answers = ended-answer l m r T
          ∙ ap (λ (e : Ended). ended_word e ∷ ended_numbers e) (ended-steps l r T.0);
      scratch = seen ∙ written_of ahead m formed
          ∙ ap (λ (n : ℕ). take n ahead ++ drop n m) (ap total_of (stepped-counts r js l T.0));
      formed = rw seen (fine-form (store_of ahead) m (form-fine ahead formed));
    }

-- ---- by which numbers

abbrev first : List ℕ → ℕ
first l = get_or l 0 0

ended-turned : (e : Ended) (j n : ℕ) → ended_word e ∷ ended_numbers e ≡ turned_word ∷ j ∷ n ∷ []
    → e ≡ turned_at j n
unfolding ended_word ended_numbers
ended-turned through j n q = absurd (omega (arith, ap first q))
ended-turned (breaks_at i m) j n q = absurd (omega (arith, ap first q))
ended-turned (turned_at i k) j n q =
    ap (λ (l : List ℕ). turned_at (get_or l 1 0) (get_or l 2 0)) q

by-store : (s : Store) (n r : ℕ) → forecast_cause s n r ≡ 0
    → (r < s.counts.runs) × So (allowed forecast_row (s.run r).state)
unfolding forecast_cause run_cause
by-store s n r e =
    let a = no-cause _ 1 _ (omega arith) e in
    let b = no-cause _ 3 _ (omega arith) a.1 in
    (leb-gt _ _ b.0, (no-lack _ 4 _ (omega arith) b.1).0)

pub forecast-turned-by : ForecastTurned
forecast-turned-by l m r j n T q =
    let s = store_of l in
    let p = by-store s (length m) r T.1 in
    forecast-turned s r (form-fine l T.0).formed p.0 p.1 j n
    (ended-turned _ j n (sym (ended-answer l m r T) ∙ q))
