-- A call on a buffer that is in form, and on one that isn't.
-- no-form: refused. form_rule: the rule on the store. form-refused, form-done: by its cause.
-- form-kept: the buffer is in form after it. left-store: the store in it.
-- ask-..: a call that only answers.
-- Assumes nothing.
use mathlib.Core.Path.{◌≡◌, refl, ap, ◌∙◌}
use mathlib.Core.Bool.{false, So}
use mathlib.Core.Logic.{◌≢◌}
use mathlib.Core.List.{List}
use Prim.Native.Nat.{ℕ}
use Rattle.words.proofs.Bools.{test, ne_eqb}
use Rattle.model.specs.Store.{Store}
use Rattle.model.specs.Outcome.{Outcome, refused, broken, done, told, unless, Reply, replied}
use Rattle.model.specs.Calls.Audit.{Verdict, audit_reply}
use Rattle.model.specs.Calls.{StoreCall, Query, ask, reply_of, rule_of}
use Rattle.layout.specs.Reading.{store_of}
use Rattle.layout.specs.Buffer.{in_form}
use Rattle.layout.specs.Calls.{audit, on, on_store, call_on, leaves}
use Rattle.model.proofs.Outcomes.{next_store, replied-cases, replied-told, replied-refused}
use Rattle.layout.proofs.Whole.{store-back}
use Rattle.layout.proofs.Follow.{Fine, fine-form, form-fine}
use Rattle.layout.proofs.Rules.{rule_kept}

left-form : (x : Outcome) (s : Store) (l : List ℕ) → So (in_form l) → Fine (next_store x s)
    → So (in_form (leaves x l))
unfolding leaves
left-form (refused n) s l F K = F
left-form (broken m t) s l F K = fine-form t l K
left-form (done a t) s l F K = fine-form t l K
left-form (told w a) s l F K = F

left_by : (x : Outcome) (l : List ℕ) → Fine (next_store x (store_of l))
    → store_of (leaves x l) ≡ next_store x (store_of l)
unfolding leaves
left_by (refused n) l F = refl
left_by (broken m t) l F = store-back t l F.fits
left_by (done a t) l F = store-back t l F.fits
left_by (told w a) l F = refl

module _ (c : StoreCall) (l : List ℕ) where
  pub no-form : in_form l ≡ false → call_on (on c) l ≡ refused 1
  unfolding call_on on_store
  no-form e = rw e

  pub form_rule : So (in_form l) → call_on (on c) l ≡ rule_of c (store_of l)
  unfolding call_on on_store
  form_rule F = rw F

  -- A rule with a cause n and an act x.
  pub form-refused : (n : ℕ) (x : Outcome) → So (in_form l) → rule_of c (store_of l) ≡ unless n x
      → n ≢ 0 → call_on (on c) l ≡ refused n
  unfolding unless
  form-refused n x F e h = form_rule F ∙ e ∙ rw (ne_eqb n 0 h)

  pub form-done : (n : ℕ) (x : Outcome) → So (in_form l) → rule_of c (store_of l) ≡ unless n x
      → n ≡ 0 → call_on (on c) l ≡ x
  unfolding unless
  form-done n x F e h = form_rule F ∙ e ∙ rw h

  pub form-kept : So (in_form l) → So (in_form (leaves (call_on (on c) l) l))
  form-kept F =
      let s = store_of l in
      rw (form_rule F)
      (left-form (rule_of c s) s l F (rule_kept c s (form-fine l F)).fine)

  -- The store in the buffer that is left.
  pub left-store : So (in_form l)
      → store_of (leaves (call_on (on c) l) l) ≡ next_store (rule_of c (store_of l)) (store_of l)
  left-store F =
      let s = store_of l in
      ap (λ x. store_of (leaves x l)) (form_rule F)
      ∙ left_by (rule_of c s) l (rule_kept c s (form-fine l F)).fine

-- ---- a call that only answers

pub replied-leaves : (a : Reply) (l : List ℕ) → leaves (replied a) l ≡ l
unfolding leaves
replied-leaves a l = replied-cases (λ x. leaves x l ≡ l) a refl refl

-- An audit leaves any buffer.
pub audit-leaves : (v : Verdict) (l : List ℕ) → leaves (call_on (audit v) l) l ≡ l
unfolding call_on
audit-leaves v l = replied-leaves (audit_reply v) l

module _ (q : Query) (l : List ℕ) where
  ask_rule : So (in_form l) → call_on (on (ask q)) l ≡ replied (reply_of q (store_of l))
  unfolding rule_of
  ask_rule F = form_rule (ask q) l F

  pub ask-refused : So (in_form l) → (reply_of q (store_of l)).cause ≢ 0
      → call_on (on (ask q)) l ≡ refused (reply_of q (store_of l)).cause
  ask-refused F n = ask_rule F ∙ replied-refused (reply_of q (store_of l)) n

  pub ask-told : So (in_form l) → let a = reply_of q (store_of l) in
      a.cause ≡ 0 → call_on (on (ask q)) l ≡ told a.word a.numbers
  ask-told F e = ask_rule F ∙ replied-told (reply_of q (store_of l)) e

  -- Any buffer, in form or not.
  pub ask-leaves : leaves (call_on (on (ask q)) l) l ≡ l
  unfolding leaves
  ask-leaves =
      test (in_form l) (λ F. rw (ask_rule F) (replied-leaves (reply_of q (store_of l)) l))
      (λ e. rw (no-form (ask q) l e))
