-- The forecast of a prepared run goes through, or a right is missing.
-- prepared-forecast: the statement of Forecasts.
-- Assumes nothing.
use mathlib.Core.Path.{◌≡◌, refl, ap, ◌∙◌}
use mathlib.Core.Logic.{◌≢◌, ◌⊎◌, inl, inr}
use mathlib.Core.List.{List, [], ◌∷◌}
use Prim.Native.Nat.{ℕ, ◌≤◌}
use lib.ListN.{length}
use Rattle.words.proofs.Bools.{test, ne_eqb, ge-ltb, gt-leb}
use Rattle.sizes.specs.Bounds.{total_of}
use Rattle.model.specs.Outcome.{Outcome, refused, broken, done, told, answer, allowed, run_cause, refuse}
use Rattle.model.specs.Calls.Forecast.{through_word, turned_word, Ended, through, turned_at, ended_word, ended_numbers, forecast_cause}
use Rattle.model.specs.Calls.{step}
use Rattle.model.proofs.Turned.{TurnedBy}
use Rattle.layout.specs.Reading.{store_of}
use Rattle.layout.specs.Calls.{on, call_on, is_ok_of, leaves, outcomes}
use Rattle.booked.specs.Prepared.{disturbs, unsettles}
use Rattle.booked.proofs.Through.{CarriedAt, call-carried, carried_unstopped}
use Rattle.booked.proofs.Independent.{booked_carried}
use Rattle.claims.specs.Forecasts.{step_calls, stopped_by, end_of, jobs_of, step_outcomes, Taken, PreparedForecast}
use Rattle.claims.proofs.Foretelling.{foretells, forecast-turned-by}

-- Through, or turned down, but not by 7 or 12.
abbrev Open : Ended → Type 0
Open e = (e ≡ through) ⊎ ((j : ℕ) × (n : ℕ) × (e ≡ turned_at j n) × (n ≢ 7) × (n ≢ 12))

open_by : (r j : ℕ) (l : List ℕ) (x : Outcome) → call_on (on (step r j 0)) l ≡ x → CarriedAt r l
    → Open (stopped_by j x)
unfolding stopped_by answer
open_by r j l (refused n) e R =
    let u = carried_unstopped r l R j 0 in
    inr (
      j,
      n,
      refl,
      (λ q. u.1 (ap answer (e ∙ ap refused q))),
      (λ q. u.2 (ap answer (e ∙ ap refused q))),
    )
open_by r j l (broken m t) e R = absurd ((carried_unstopped r l R j 0).0 m (ap answer e))
open_by r j l (done a t) e R = inl refl
open_by r j l (told w a) e R = inl refl

open_all : (r : ℕ) (js l : List ℕ) → CarriedAt r l → Open (end_of js
    (outcomes (step_calls r js) l))
unfolding end_of outcomes disturbs unsettles
open_all r [] l R = inl refl
open_all r (j ∷ js) l R =
    let x = call_on (on (step r j 0)) l in
    test (is_ok_of x)
    (λ y. rw y (open_all r js (leaves x l) (call-carried r l R (on (step r j 0)) refl)))
    (λ y. rw y (open_by r j l x refl R))

words_open : (e : Ended) → Open e → (a : List ℕ) → a ≡ ended_word e ∷ ended_numbers e
    → ((j n : ℕ) → a ≡ turned_word ∷ j ∷ n ∷ [] → TurnedBy n)
    → (a ≡ through_word ∷ []) ⊎ ((j : ℕ) × (a ≡ turned_word ∷ j ∷ 13 ∷ []))
unfolding ended_word ended_numbers
words_open e (inl q) a p t = inl (p ∙ ap (λ (e : Ended). ended_word e ∷ ended_numbers e) q)
words_open e (inr (j, n, q, f, g)) a p t =
    let u : a ≡ turned_word ∷ j ∷ n ∷ [] =
    p ∙ ap (λ (e : Ended). ended_word e ∷ ended_numbers e) q in
    elim (t j n u) [
      | inl h ↦ inr (j, u ∙ ap (λ (n : ℕ). turned_word ∷ j ∷ n ∷ []) h)
      | inr h ↦ elim h [ inl i ↦ absurd (f i) | inr i ↦ absurd (g i) ]
    ]

-- It is open and not forked.
prepared-taken : (l m : List ℕ) (r : ℕ) → CarriedAt r l
    → total_of (store_of l).counts ≤ length m → Taken l m r
unfolding forecast_cause run_cause refuse allowed
prepared-taken l m r R h =
    let C = R.carried in (
      R.formed,
      rw (ge-ltb _ _ h, gt-leb _ _ C.run_in, C.open_run_lem, ne_eqb _ _ C.single) refl,
    )

pub prepared-forecast : PreparedForecast
prepared-forecast l m r B h =
    let R = booked_carried l r B in
    let T = prepared-taken l m r R h in
    let js = jobs_of l r in
    words_open (end_of js (step_outcomes l r)) (open_all r js l R) _
    (foretells l m r T).answers (λ j n q. forecast-turned-by l m r j n T q)
