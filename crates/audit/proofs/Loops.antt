-- How a loop that stops at the first failure answers a test of every number below n, counting up
-- from 0 or down from n.
-- r: what the code found at the number.
-- Assumes nothing.
use mathlib.Core.Path.{◌≡◌, refl, sym, ap, ◌∙◌}
use mathlib.Core.Bool.{Bool, true, false, not, ◌&&◌, So}
use Prim.Native.Nat.{ℕ, ◌+◌, ◌<◌}
use borrow.Author.Tests.{not-true, not-false}
use Rattle.words.specs.Tests.{Items, all_below}
use Rattle.words.proofs.Tests.{all_yes, all-no, all_more}
use Rattle.words.proofs.Bools.{and-false-right}

-- ---- up

pub loop-fails : (n : ℕ) (p : Items) (i : ℕ) (r : Bool) → i < n → r ≡ p i → not r ≡ true
    → false ≡ all_below n p
loop-fails n p i r h e t = sym (all-no n p i h (sym e ∙ not-true r t))

pub loop-turn : (p : Items) (i : ℕ) (r : Bool) → So (all_below i p) → r ≡ p i → not r ≡ false
    → So (all_below (i + 1) p)
loop-turn p i r a e t = all_yes p i a (sym e ∙ not-false r t)

pub loop-ends : (n : ℕ) (p : Items) (i : ℕ) → i ≡ n → So (all_below i p) → true ≡ all_below n p
loop-ends n p i e a = sym (ap (λ (m : ℕ). all_below m p) (sym e) ∙ a)

-- ---- down: what is left is the whole

down_step : (p : Items) (j : ℕ) (r : Bool) → r ≡ p j → (k : ℕ) → k ≡ j + 1
    → all_below k p ≡ all_below j p && r
down_step p j r e k h =
    ap (λ (m : ℕ). all_below m p) h ∙ (all_more p j ∙ ap (λ (x : Bool). all_below j p && x)
    (sym e))

pub down-fails : (n : ℕ) (p : Items) (k j : ℕ) (r : Bool) → all_below k p ≡ all_below n p
    → k ≡ j + 1 → r ≡ p j → not r ≡ true → false ≡ all_below n p
down-fails n p k j r a h e t =
    let f : r ≡ false = not-true r t in
    sym (sym a ∙ down_step p j r e k h ∙ rw f (and-false-right (all_below j p)))

pub down_turn : (n : ℕ) (p : Items) (k j : ℕ) (r : Bool) → all_below k p ≡ all_below n p
    → k ≡ j + 1 → r ≡ p j → not r ≡ false → all_below j p ≡ all_below n p
down_turn n p k j r a h e t =
    let f : r ≡ true = not-false r t in
    sym (sym a ∙ down_step p j r e k h ∙ rw f (and_true_right (all_below j p)))
  where
    and_true_right : (x : Bool) → x && true ≡ x
    and_true_right true = refl
    and_true_right false = refl

pub down_ends : (n : ℕ) (p : Items) (k : ℕ) → all_below k p ≡ all_below n p → k ≡ 0
    → true ≡ all_below n p
unfolding all_below
down_ends n p k a h = ap (λ (m : ℕ). all_below m p) (sym h) ∙ a
