-- What admit comes to on a buffer in form.
-- admit-no: it is refused. admit-yes: it is taken.
-- Assumes nothing.
use mathlib.Core.Path.{◌≡◌, refl}
use mathlib.Core.Bool.{false, So}
use mathlib.Core.List.{List, [], ◌∷◌}
use Prim.Native.Nat.{ℕ}
use native.Mathlib.Omega.{arith}
use Rattle.model.specs.Outcome.{refused, told, answer, refuse}
use Rattle.model.specs.Calls.Admit.{admissible, admit_cause, admit_reply}
use Rattle.model.specs.Calls.{admit, ask, reply_of}
use Rattle.layout.specs.Reading.{store_of}
use Rattle.layout.specs.Buffer.{in_form}
use Rattle.layout.specs.Calls.{on, call_on}
use Rattle.layout.proofs.Forms.{ask-refused, ask-told}

module _ (l : List ℕ) (F : So (in_form l)) where
  pub admit-no : admissible (store_of l) ≡ false
      → 2 ∷ 11 ∷ [] ≡ answer (call_on (on (ask admit)) l)
  unfolding answer reply_of admit_reply admit_cause refuse
  admit-no h =
      let e : admit_cause (store_of l) ≡ 11 = rw h refl in
      let no : call_on (on (ask admit)) l ≡ refused (admit_cause (store_of l)) =
      ask-refused admit l F (rw e (omega arith)) in
      rw (no, e) refl

  pub admit-yes : So (admissible (store_of l)) → 0 ∷ 0 ∷ [] ≡ answer (call_on (on (ask admit)) l)
  unfolding answer reply_of admit_reply admit_cause refuse
  admit-yes h =
      let e : admit_cause (store_of l) ≡ 0 = rw h refl in
      let yes : call_on (on (ask admit)) l ≡ told 0 (0 ∷ []) = ask-told admit l F e in
      rw yes refl
