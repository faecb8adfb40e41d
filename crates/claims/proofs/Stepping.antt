-- The buffer after some steps of a run: in form, with the counts that it had; and a store that is
-- written as the words of such a buffer.
-- Assumes nothing.
use mathlib.Core.Path.{◌≡◌, refl, sym, ap, ◌∙◌}
use mathlib.Core.Bool.{So}
use mathlib.Core.List.{List, [], ◌∷◌, ◌++◌}
use Prim.Native.Nat.{ℕ}
use lib.ListN.{take, drop}
use lib.Seq.{take_at}
use Rattle.words.proofs.Bools.{and_left}
use Rattle.sizes.specs.Bounds.{total_of}
use Rattle.model.specs.Form.{well_formed}
use Rattle.model.specs.Calls.{step}
use Rattle.layout.specs.Words.{store_words}
use Rattle.layout.specs.Reading.{store_of}
use Rattle.layout.specs.Buffer.{written, shaped, in_form}
use Rattle.layout.specs.Calls.{on, call_on, leaves, after}
use Rattle.layout.proofs.Whole.{store_long, store_kept}
use Rattle.layout.proofs.Follow.{form-fine}
use Rattle.layout.proofs.Rules.{rule_kept}
use Rattle.layout.proofs.Forms.{form-kept, left-store}
use Rattle.claims.specs.Forecasts.{step_calls}

pub stepped-form : (r : ℕ) (js l : List ℕ) → So (in_form l) → So (in_form
    (after (step_calls r js) l))
unfolding after
stepped-form r [] l F = F
stepped-form r (j ∷ js) l F =
    stepped-form r js (leaves (call_on (on (step r j 0)) l) l) (form-kept (step r j 0) l F)

pub stepped-counts : (r : ℕ) (js l : List ℕ) → So (in_form l)
    → (store_of (after (step_calls r js) l)).counts ≡ (store_of l).counts
unfolding after
stepped-counts r [] l F = refl
stepped-counts r (j ∷ js) l F =
    stepped-counts r js (leaves (call_on (on (step r j 0)) l) l) (form-kept (step r j 0) l F)
    ∙ rw (left-store (step r j 0) l F)
    (rule_kept (step r j 0) (store_of l) (form-fine l F)).counts

pub written_of : (l m : List ℕ) → So (in_form l) → let total = total_of (store_of l).counts in
    written (store_of l) m ≡ take total l ++ drop total m
unfolding in_form written
written_of l m F =
    let s = store_of l in
    let total = total_of s.counts in
    let kept = store_kept l (and_left (shaped l) (well_formed s) F) in
    let front : store_words s ≡ take total l =
    sym (take_at (store_words s) (drop total l) total (store_long s))
    ∙ ap (λ (t : List ℕ). take total t) kept in
    ap (λ (t : List ℕ). t ++ drop total m) front
