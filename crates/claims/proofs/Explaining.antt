-- What explain tells of a step, both as calls on a buffer.
-- call-explains: it explains the step, whatever the buffer holds. On a buffer in form:
-- path-broken: a path exactly if the step breaks its run. clear-ok: clear exactly if it is ok.
-- At a point of a list: path-none, clear-exactly, clear-works.
-- Assumes nothing.
use mathlib.Core.Path.{◌≡◌, refl, ap}
use mathlib.Core.Bool.{Bool, true, false, So, cond}
use mathlib.Core.List.{List, [], ◌∷◌}
use mathlib.Core.Logic.{◌↔◌}
use Prim.Native.Nat.{ℕ}
use native.Mathlib.Omega.{arith}
use lib.Dec.{eqb}
use lib.ListN.{get_or}
use Rattle.words.specs.Tests.{any_below}
use Rattle.words.proofs.Bools.{test, clash}
use Rattle.model.specs.Store.{Store}
use Rattle.model.specs.Outcome.{Outcome, refused, broken, done, answer, unless}
use Rattle.model.specs.Step.{step_moved, step_cause, step_broken, step_done, step_rule_of}
use Rattle.model.specs.Calls.Explain.{clear_word, path_word, Answers, ExplainsOutcome}
use Rattle.model.specs.Calls.{step, explain, ask, reply_of, rule_of}
use Rattle.explain.proofs.Explains.{explains, explains-refused}
use Rattle.layout.specs.Reading.{store_of}
use Rattle.layout.specs.Buffer.{in_form}
use Rattle.layout.specs.Calls.{on, call_on, is_ok_of}
use Rattle.layout.proofs.Forms.{no-form, form_rule}
use Rattle.consistency.specs.Trace.{Trace}
use Rattle.consistency.specs.Claim.{Choice, is_refused, is_broken, HoldsAt}

-- ---- a step's outcome by its first word

-- It is refused, broken or done.
step_is : (P : Outcome → Type 0) → ((n : ℕ) → P (refused n))
    → ((m : ℕ) (u : Store) → P (broken m u)) → ((a : List ℕ) (u : Store) → P (done a u))
    → (s : Store) (r j n : ℕ) → P (step_rule_of r j n s)
unfolding step_rule_of unless step_broken step_done
step_is P turned breaks works s r j n =
    cases (eqb (step_cause s r j n) 0) (any_below s.counts.keys (step_moved s r j n))
  where
    cases : (p q : Bool)
        → P (cond p (cond q (step_broken s r j n) (step_done s r j n)) (refused
        (step_cause s r j n)))
    cases false q = turned _
    cases true true = breaks _ _
    cases true false = works _ _

-- An answer with another first word.
other : {x y : ℕ} {l : List ℕ} → (x ≡ y → ⊥) → ¬ ((m : List ℕ) × (x ∷ l ≡ y ∷ m))
other n e = n (ap (λ (l : List ℕ). get_or l 0 0) e.1)

neither : {X Y : Type 0} → ¬ X → ¬ Y → X ↔ Y
neither f g = (λ x. absurd (f x), λ y. absurd (g y))

broken-answered : (s : Store) (r j n : ℕ)
    → Answers (step_rule_of r j n s) 1 ↔ So (is_broken (step_rule_of r j n s))
unfolding answer is_broken
broken-answered =
    step_is (λ x. Answers x 1 ↔ So (is_broken x))
    (λ n. neither (other (λ e. omega (arith, e))) (λ p. clash p refl))
    (λ m u. (λ _. refl, λ _. (m ∷ [], refl)))
    (λ a u. neither (other (λ e. omega (arith, e))) (λ p. clash p refl))

ok-answered : (s : Store) (r j n : ℕ)
    → Answers (step_rule_of r j n s) 0 ↔ So (is_ok_of (step_rule_of r j n s))
unfolding answer is_ok_of
ok-answered =
    step_is (λ x. Answers x 0 ↔ So (is_ok_of x))
    (λ n. neither (other (λ e. omega (arith, e))) (λ p. clash p refl))
    (λ m u. neither (other (λ e. omega (arith, e))) (λ p. clash p refl))
    (λ a u. (λ _. refl, λ _. (a, refl)))

-- ---- the two calls

-- On a line. In form: as on its store. Otherwise 1 refuses both.
pub call-explains : (l : List ℕ) (r j n : ℕ)
    → ExplainsOutcome (store_of l) r j n (call_on (on (ask (explain r j n))) l)
    (call_on (on (step r j n)) l)
unfolding rule_of reply_of
call-explains l r j n =
    test (in_form l)
    (λ F. rw (form_rule (ask (explain r j n)) l F, form_rule (step r j n) l F)
    (explains (store_of l) r j n))
    (λ e. rw (no-form (ask (explain r j n)) l e, no-form (step r j n) l e)
    (explains-refused (store_of l) r j n 1))

both : {X Y Z : Type 0} → X ↔ Y → Y ↔ Z → X ↔ Z
both f g = (λ x. g.0 (f.0 x), λ z. f.1 (g.1 z))

module _ (l : List ℕ) (r j n : ℕ) (F : So (in_form l)) where
  pub path-broken : Answers (call_on (on (ask (explain r j n))) l) path_word
      ↔ So (is_broken (call_on (on (step r j n)) l))
  unfolding rule_of
  path-broken =
      both (call-explains l r j n).path
      (rw (form_rule (step r j n) l F) (broken-answered (store_of l) r j n))

  pub clear-ok : (answer (call_on (on (ask (explain r j n))) l) ≡ clear_word ∷ [])
      ↔ So (is_ok_of (call_on (on (step r j n)) l))
  unfolding rule_of
  clear-ok =
      both (call-explains l r j n).clear
      (rw (form_rule (step r j n) l F) (ok-answered (store_of l) r j n))

-- ---- at a point of a list

module _ (t : Trace) (H : HoldsAt t) where
  -- Where the step isn't refused, a path exactly if there is no choice,
  pub path-none : (r j n : ℕ) → is_refused (call_on (on (step r j n)) t.buffer) ≡ false
      → Answers (call_on (on (ask (explain r j n))) t.buffer) path_word
      ↔ ¬ (Choice (store_of t.buffer) r j n)
  path-none r j n w =
      let p = path-broken t.buffer r j n H.formed in
      let b = (H.breaks r j n).exactly w in
      (λ a. b.0 (p.0 a), λ g. p.1 (b.1 g))

  -- clear exactly if the step would be ok,
  pub clear-exactly : (r j n : ℕ)
      → (answer (call_on (on (ask (explain r j n))) t.buffer) ≡ clear_word ∷ [])
      ↔ So (is_ok_of (call_on (on (step r j n)) t.buffer))
  clear-exactly r j n = clear-ok t.buffer r j n H.formed

  -- and then a choice works.
  pub clear-works : (r j n : ℕ)
      → answer (call_on (on (ask (explain r j n))) t.buffer) ≡ clear_word ∷ []
      → Choice (store_of t.buffer) r j n
  clear-works r j n e = (H.breaks r j n).works ((clear-exactly r j n).0 e)
