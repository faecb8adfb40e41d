-- One turn of the walk: the step of a job, if a done mask lacks it.
-- turn-passed: the job is done. turn-stepped: by the step's answer and what it leaves.
-- Assumes nothing.
use mathlib.Core.Path.{◌≡◌, refl, sym, ap, ◌∙◌}
use mathlib.Core.Bool.{false, So}
use mathlib.Core.List.{List, [], ◌∷◌}
use Prim.Native.Nat.{ℕ}
use native.Mathlib.Omega.{arith}
use lib.ListN.{get_or}
use Rattle.masks.specs.Mask.{test_bit}
use Rattle.model.specs.Store.{Store}
use Rattle.model.specs.Outcome.{Outcome, refused, broken, done, answer}
use Rattle.model.specs.Step.{step_rule_of, step_broken, step_done}
use Rattle.model.specs.Calls.Forecast.{undone_at, Ended, through, breaks_at, turned_at, walk_on, walk}
use Rattle.model.specs.Calls.{step, rule_of}
use Rattle.model.proofs.Forecasts.{step-cases}
use Rattle.layout.specs.Reading.{store_of}
use Rattle.layout.specs.Buffer.{written, in_form}
use Rattle.layout.specs.Calls.{on, call_on, leaves}
use Rattle.layout.proofs.Whole.{store_kept}
use Rattle.layout.proofs.Forms.{form_rule}
use Rattle.form.proofs.Known.{in_shape}
use Rattle.std.specs.Prelude.{Result, Ok, Err}
use Rattle.answers.specs.declared.refusal.Refusal.{Refusal}
use Rattle.step.specs.declared.Stepped.{Stepped}
use Rattle.step.specs.Answers.{stepped_words}
use Rattle.forecast.specs.Answers.{stopped_at}

-- What the walk over some jobs from a buffer comes to: its end, and the buffer.
abbrev pub Walks : ℕ → List ℕ → List ℕ → Ended → List ℕ → Type 0
Walks r js l x m =
    (x ≡ (walk r js (store_of l)).ended)
    × (m ≡ written (walk r js (store_of l)).store l)

abbrev head : List ℕ → ℕ
head l = get_or l 0 0

abbrev second : List ℕ → ℕ
second l = get_or l 1 0

-- ---- the answer of a step

-- It tells how the walk over that job alone ends.
abbrev Tells : Store → ℕ → Result Stepped Refusal → Outcome → Type 0
Tells s j x y =
    stepped_words x ≡ answer y
    → stopped_at j x ≡ (walk_on j s y (λ t. walk 0 [] t)).ended

tells-refused : (s : Store) (j : ℕ) (x : Result Stepped Refusal) (n : ℕ) → Tells s j x (refused n)
unfolding answer stopped_at walk_on
tells-refused s j (Ok (Stepped.Done a b c)) n e = absurd (omega (arith, ap head e))
tells-refused s j (Ok (Stepped.Broken m)) n e = absurd (omega (arith, ap head e))
tells-refused s j (Err m) n e = ap (λ (k : ℕ). turned_at j k) (ap second e)

tells-broken : (s : Store) (j : ℕ) (x : Result Stepped Refusal) (m : ℕ) (t : Store)
    → Tells s j x (broken m t)
unfolding answer stopped_at walk_on
tells-broken s j (Ok (Stepped.Done a b c)) m t e = absurd (omega (arith, ap head e))
tells-broken s j (Ok (Stepped.Broken k)) m t e = ap (λ (k : ℕ). breaks_at j k) (ap second e)
tells-broken s j (Err k) m t e = absurd (omega (arith, ap head e))

tells-done : (s : Store) (j : ℕ) (x : Result Stepped Refusal) (l : List ℕ) (t : Store)
    → Tells s j x (done l t)
unfolding answer stopped_at walk_on walk
tells-done s j (Ok (Stepped.Done a b c)) l t e = refl
tells-done s j (Ok (Stepped.Broken k)) l t e = absurd (omega (arith, ap head e))
tells-done s j (Err k) l t e = absurd (omega (arith, ap head e))

stepped-tells : (s : Store) (r j : ℕ) (x : Result Stepped Refusal)
    → stepped_words x ≡ answer (step_rule_of r j 0 s)
    → stopped_at j x ≡ (walk r (j ∷ []) s).ended
unfolding walk step_broken step_done
stepped-tells s r j x =
    step-cases (Tells s j x) s r j 0 (λ _. tells-refused s j x _) (λ _. tells-broken s j x _ _)
    (λ _. tells-done s j x _ _)

-- What it leaves.
stepped-leaves : (s : Store) (r j : ℕ) (l : List ℕ) → written s l ≡ l
    → leaves (step_rule_of r j 0 s) l ≡ written (walk r (j ∷ []) s).store l
unfolding walk walk_on leaves step_broken step_done
stepped-leaves s r j l e =
    step-cases (λ y. leaves y l ≡ written (walk_on j s y (λ t. walk r [] t)).store l) s r j 0
    (λ _. sym e) (λ _. refl) (λ _. refl)

-- ---- on a buffer in form

module _ (r finished j : ℕ) (l : List ℕ) (F : So (in_form l)) where
  kept : written (store_of l) l ≡ l
  kept = store_kept l (in_shape l F)

  pub turn-passed : So (test_bit finished j) → Walks r (undone_at finished j) l through l
  unfolding undone_at walk
  turn-passed p = rw p (refl, sym kept)

  pub turn-stepped : test_bit finished j ≡ false → (x : Result Stepped Refusal) (m : List ℕ)
      → stepped_words x ≡ answer (call_on (on (step r j 0)) l)
      → m ≡ leaves (call_on (on (step r j 0)) l) l
      → Walks r (undone_at finished j) l (stopped_at j x) m
  unfolding undone_at rule_of
  turn-stepped p x m e f =
      let rule = form_rule (step r j 0) l F in
      rw p (
        stepped-tells (store_of l) r j x (e ∙ ap answer rule),
        f ∙ ap (λ y. leaves y l) rule ∙ stepped-leaves (store_of l) r j l kept,
      )
