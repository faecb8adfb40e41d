-- A forecast's answer, outcome by outcome of its steps.
-- tells_first: through exactly if all are ok; the first that isn't.
-- Assumes nothing.
use mathlib.Core.Path.{◌≡◌, refl, sym, ap, subst, ◌∙◌}
use mathlib.Core.Bool.{Bool, true, false, So, cond, true≢false}
use mathlib.Core.Logic.{◌≢◌}
use mathlib.Core.List.{List, [], ◌∷◌, ◌++◌}
use Prim.Native.Nat.{ℕ}
use native.Mathlib.Omega.{arith}
use lib.ListN.{length, get_or}
use Rattle.words.proofs.Bools.{test}
use Rattle.model.specs.Outcome.{Outcome, refused, broken, done, told, answer}
use Rattle.model.specs.Step.{step_broken, step_done}
use Rattle.model.specs.Calls.Forecast.{Ended, through, breaks_at, turned_at, ended_word, ended_numbers}
use Rattle.model.specs.Calls.{step, ask, forecast, rule_of}
use Rattle.model.proofs.Forecasts.{step-cases}
use Rattle.layout.specs.Reading.{store_of}
use Rattle.layout.specs.Buffer.{in_form}
use Rattle.layout.specs.Calls.{on, call_on, is_ok_of, leaves, after, outcomes}
use Rattle.layout.proofs.Forms.{no-form, form_rule}
use Rattle.claims.specs.Forecasts.{step_calls, stopped_by, end_of, jobs_of, AllOk, StopsAt, ForecastTellsFirst}
use Rattle.claims.proofs.Foretelling.{foretells}

-- ---- no step is told

abbrev Untold : Outcome → Type 0
Untold (refused n) = Unit
Untold (broken m s) = Unit
Untold (done a s) = Unit
Untold (told w a) = ⊥

untold : (r j : ℕ) (l : List ℕ) → Untold (call_on (on (step r j 0)) l)
unfolding rule_of step_broken step_done
untold r j l =
    test (in_form l)
    (λ F. subst Untold (sym (form_rule (step r j 0) l F))
    (step-cases Untold (store_of l) r j 0 (λ _. tt) (λ _. tt) (λ _. tt)))
    (λ e. subst Untold (sym (no-form (step r j 0) l e)) tt)

-- ---- one outcome, and how it stops

abbrev job_in : Ended → ℕ
job_in through = 0
job_in (breaks_at j m) = j
job_in (turned_at j n) = j

-- What the step of that job answers.
abbrev words_in : Ended → List ℕ
words_in through = []
words_in (breaks_at j m) = 1 ∷ m ∷ []
words_in (turned_at j n) = 2 ∷ n ∷ []

abbrev first : List ℕ → ℕ
first l = get_or l 0 0

abbrev head : Ended → ℕ
head e = first (words_in e)

stop_is : (j : ℕ) (x : Outcome) → Untold x → is_ok_of x ≡ false → let e = stopped_by j x in
    (e ≢ through) × (job_in e ≡ j) × (answer x ≡ words_in e)
unfolding is_ok_of stopped_by answer
stop_is j (refused n) u f = ((λ q. omega (arith, ap head q)), refl, refl)
stop_is j (broken m s) u f = ((λ q. omega (arith, ap head q)), refl, refl)
stop_is j (done a s) u f = absurd (true≢false f)
stop_is j (told w a) u f = absurd u

-- The other way.
stop-by : (e : Ended) (x : Outcome) → Untold x → e ≢ through → answer x ≡ words_in e
    → (is_ok_of x ≡ false) × (stopped_by (job_in e) x ≡ e)
unfolding is_ok_of stopped_by answer
stop-by through x u n q = absurd (n refl)
stop-by (breaks_at j m) (refused k) u n q = absurd (omega (arith, ap first q))
stop-by (breaks_at j m) (broken k s) u n q =
    (refl, ap (λ (l : List ℕ). breaks_at j (get_or l 1 0)) q)
stop-by (breaks_at j m) (done a s) u n q = absurd (omega (arith, ap first q))
stop-by (breaks_at j m) (told w a) u n q = absurd u
stop-by (turned_at j m) (refused k) u n q =
    (refl, ap (λ (l : List ℕ). turned_at j (get_or l 1 0)) q)
stop-by (turned_at j m) (broken k s) u n q = absurd (omega (arith, ap first q))
stop-by (turned_at j m) (done a s) u n q = absurd (omega (arith, ap first q))
stop-by (turned_at j m) (told w a) u n q = absurd u

-- ---- all of them

module _ (r : ℕ) where
  -- How the steps of jobs end, from a buffer on.
  abbrev end : List ℕ → List ℕ → Ended
  end js l = end_of js (outcomes (step_calls r js) l)

  abbrev one : ℕ → List ℕ → Outcome
  one j l = call_on (on (step r j 0)) l

  next : (j : ℕ) (js l : List ℕ) → So (is_ok_of (one j l))
      → end (j ∷ js) l ≡ end js (leaves (one j l) l)
  unfolding end_of outcomes
  next j js l y =
      ap (λ (b : Bool). cond b (end js (leaves (one j l) l)) (stopped_by j (one j l))) y

  stop : (j : ℕ) (js l : List ℕ) → is_ok_of (one j l) ≡ false → end (j ∷ js) l ≡ stopped_by j (one
      j l)
  unfolding end_of outcomes
  stop j js l y =
      ap (λ (b : Bool). cond b (end js (leaves (one j l) l)) (stopped_by j (one j l))) y

  all-ok : (js l : List ℕ) → end js l ≡ through → AllOk (outcomes (step_calls r js) l)
  unfolding outcomes
  all-ok [] l e = tt
  all-ok (j ∷ js) l e =
      test (is_ok_of (one j l))
      (λ y. (y, all-ok js (leaves (one j l) l) (sym (next j js l y) ∙ e)))
      (λ y. absurd ((stop_is j (one j l) (untold r j l) y).0 (sym (stop j js l y) ∙ e)))

  ok-all : (js l : List ℕ) → AllOk (outcomes (step_calls r js) l) → end js l ≡ through
  unfolding end_of outcomes
  ok-all [] l p = refl
  ok-all (j ∷ js) l p = next j js l p.0 ∙ ok-all js (leaves (one j l) l) p.1

  stops_at : (e : Ended) → e ≢ through → (js l : List ℕ) → end js l ≡ e
      → StopsAt r l js (job_in e) (words_in e)
  unfolding end_of outcomes after
  stops_at e n [] l q = absurd (n (sym q))
  stops_at e n (j ∷ js) l q =
      test (is_ok_of (one j l))
      (λ y. let S = stops_at e n js (leaves (one j l) l) (sym (next j js l y) ∙ q) in record {
        earlier = j ∷ S.earlier;
        later = S.later;
        split = ap (λ (t : List ℕ). j ∷ t) S.split;
        ok = (y, S.ok);
        answered = S.answered;
      })
      (λ y. let g = sym (stop j js l y) ∙ q in
      let I = stop_is j (one j l) (untold r j l) y in record {
        earlier = [];
        later = js;
        split = ap (λ (k : ℕ). k ∷ js) (sym I.1 ∙ ap job_in g);
        ok = tt;
        answered = subst (λ (k : ℕ). answer (one k l) ≡ words_in e) (sym I.1 ∙ ap job_in g)
            (I.2 ∙ ap words_in g);
      })

  module _ (e : Ended) (n : e ≢ through) (later : List ℕ) where
    stopped-at : (earlier l : List ℕ) → AllOk (outcomes (step_calls r earlier) l)
        → answer (one (job_in e) (after (step_calls r earlier) l)) ≡ words_in e
        → end (earlier ++ job_in e ∷ later) l ≡ e
    unfolding outcomes after
    stopped-at [] l p q =
        let b = stop-by e (one (job_in e) l) (untold r (job_in e) l) n q in
        stop (job_in e) later l b.0 ∙ b.1
    stopped-at (j ∷ js) l p q =
        next j (js ++ job_in e ∷ later) l p.0
        ∙ stopped-at js (leaves (one j l) l) p.1 q

  at_stops : (e : Ended) → e ≢ through → (js l : List ℕ) → StopsAt r l js (job_in e) (words_in e)
      → end js l ≡ e
  at_stops e n js l S =
      ap (λ (t : List ℕ). end t l) S.split
      ∙ stopped-at e n S.later S.earlier l S.ok S.answered

-- ---- in words

abbrev words_of : Ended → List ℕ
words_of e = ended_word e ∷ ended_numbers e

abbrev read : List ℕ → ℕ → ℕ
read l i = get_or l i 0

words_same : (e f : Ended) → words_of e ≡ words_of f → e ≡ f
unfolding ended_word ended_numbers
words_same through through q = refl
words_same through (breaks_at j m) q = absurd (omega (arith, ap first q))
words_same through (turned_at j m) q = absurd (omega (arith, ap first q))
words_same (breaks_at j m) through q = absurd (omega (arith, ap first q))
words_same (breaks_at j m) (breaks_at i k) q =
    ap (λ (l : List ℕ). breaks_at (read l 1) (read l 2)) q
words_same (breaks_at j m) (turned_at i k) q = absurd (omega (arith, ap first q))
words_same (turned_at j m) through q = absurd (omega (arith, ap first q))
words_same (turned_at j m) (breaks_at i k) q = absurd (omega (arith, ap first q))
words_same (turned_at j m) (turned_at i k) q =
    ap (λ (l : List ℕ). turned_at (read l 1) (read l 2)) q

not_through : (e : Ended) → words_in e ≢ [] → e ≢ through
not_through e n q = n (ap words_in q)

some : {x : ℕ} {l : List ℕ} → x ∷ l ≢ []
some q = omega (arith, ap length q)

pub tells_first : ForecastTellsFirst
unfolding ended_word ended_numbers
tells_first l m r T =
    let js = jobs_of l r in
    let a = (foretells l m r T).answers in
    let by : (e : Ended) → end r js l ≡ e
    → answer (call_on (on (ask (forecast (length m) r))) l) ≡ words_of e = λ e q. a ∙ ap words_of
    q in
    let of : (e : Ended) → answer (call_on (on (ask (forecast (length m) r))) l) ≡ words_of e
    → end r js l ≡ e = λ e q. words_same (end r js l) e (sym a ∙ q) in
    record {
      goes = ((λ q. all-ok r js l (of through q)), (λ p. by through (ok-all r js l p)));
      breaks = λ j n. let e = breaks_at j n in let k = not_through e some in
          ((λ q. stops_at r e k js l (of e q)), (λ S. by e (at_stops r e k js l S)));
      turned = λ j n. let e = turned_at j n in let k = not_through e some in
          ((λ q. stops_at r e k js l (of e q)), (λ S. by e (at_stops r e k js l S)));
    }
