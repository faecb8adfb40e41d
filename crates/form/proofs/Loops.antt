-- How a loop that counts up and stops at the first failure answers a test of every number.
-- r: what the code found at i.
-- Assumes nothing.
use mathlib.Core.Path.{◌≡◌, sym, ap, ◌∙◌}
use mathlib.Core.Bool.{Bool, true, false, not, So}
use Prim.Native.Nat.{ℕ, ◌+◌, ◌<◌}
use borrow.Author.Tests.{not-true, not-false}
use Rattle.words.specs.Tests.{Items, all_below}
use Rattle.words.proofs.Tests.{all_yes, all-no}

pub loop-fails : (n : ℕ) (p : Items) (i : ℕ) (r : Bool) → i < n → r ≡ p i → not r ≡ true
    → false ≡ all_below n p
loop-fails n p i r h e t = sym (all-no n p i h (sym e ∙ not-true r t))

pub loop-turn : (p : Items) (i : ℕ) (r : Bool) → So (all_below i p) → r ≡ p i → not r ≡ false
    → So (all_below (i + 1) p)
loop-turn p i r a e t = all_yes p i a (sym e ∙ not-false r t)

pub loop-ends : (n : ℕ) (p : Items) (i : ℕ) → i ≡ n → So (all_below i p) → true ≡ all_below n p
loop-ends n p i e a = sym (ap (λ (m : ℕ). all_below m p) (sym e) ∙ a)
