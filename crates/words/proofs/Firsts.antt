-- Laws of the first number that passes.
-- first-is, first-none: for a loop that counts up.
-- Assumes nothing.
use mathlib.Core.Path.{◌≡◌, sym, ◌∙◌}
use mathlib.Core.Bool.{false, So}
use Prim.Native.Nat.{ℕ, zero, suc, ◌≤◌, ◌<◌}
use native.Mathlib.Omega.{arith}
use native.Mathlib.Nat.{not-suc-le-zero}
use native.Mathlib.Decide.{dec_lt}
use lib.Dec.{ltb}
use Rattle.words.specs.Tests.{Items, any_below}
use Rattle.words.proofs.Bools.{test, clash, same_test, ltb-lt, lt-ltb}
use Rattle.words.proofs.Tests.{any-intro, any_some}
use Rattle.words.specs.Turns.{first_below_of}

first-yes : (n : ℕ) (p : Items) → So (p 0) → first_below_of (suc n) p ≡ 0
unfolding first_below_of
first-yes n p h = rw h

first-no : (n : ℕ) (p : Items) → p 0 ≡ false
    → first_below_of (suc n) p ≡ suc (first_below_of n (λ i. p (suc i)))
unfolding first_below_of
first-no n p h = rw h

pub first-top : (n : ℕ) (p : Items) → first_below_of n p ≤ n
unfolding first_below_of
first-top zero p = omega arith
first-top (suc n) p =
    test (p 0) (λ y. omega (arith, first-yes n p y))
    (λ x. omega (arith, first-no n p x, first-top n (λ i. p (suc i))))

-- It passes, if there is one.
pub first_passes : (n : ℕ) (p : Items) → first_below_of n p < n → So (p (first_below_of n p))
unfolding first_below_of
first_passes zero p h = absurd (not-suc-le-zero h)
first_passes (suc n) p h =
    test (p 0) (λ y. rw (first-yes n p y) y)
    (λ x.
    rw (first-no n p x)
    (first_passes n (λ i. p (suc i)) (omega (arith, first-no n p x))))

-- None before it does.
pub first-least : (n : ℕ) (p : Items) (i : ℕ) → i < first_below_of n p → p i ≡ false
unfolding first_below_of
first-least zero p i h = absurd (not-suc-le-zero h)
first-least (suc n) p zero h =
    test (p 0) (λ y. absurd (omega (arith, first-yes n p y))) (λ x. x)
first-least (suc n) p (suc i) h =
    test (p 0) (λ y. absurd (omega (arith, first-yes n p y)))
    (λ x. first-least n (λ i. p (suc i)) i (omega (arith, first-no n p x)))

pub first-most : (n : ℕ) (p : Items) (i : ℕ) → So (p i) → first_below_of n p ≤ i
first-most n p i h =
    elim (dec_lt i (first_below_of n p)) [
      | yes l ↦ clash h (first-least n p i l)
      | no l ↦ omega arith
    ]

-- n: none passes.
pub first-none : (n : ℕ) (p : Items) → ((i : ℕ) → i < n → p i ≡ false) → first_below_of n p ≡ n
first-none n p h =
    elim (dec_lt (first_below_of n p) n) [
      | yes l ↦ clash (first_passes n p l) (h (first_below_of n p) l)
      | no l ↦ omega (arith, first-top n p)
    ]

pub first-end : (n : ℕ) (p : Items) → first_below_of n p ≡ n → (i : ℕ) → i < n → p i ≡ false
first-end n p e i l = first-least n p i (omega arith)

-- For a loop that counts up: what it has found.
pub first-is : (n : ℕ) (p : Items) (i : ℕ) → i < n → So (p i)
    → ((j : ℕ) → j < i → p j ≡ false) → first_below_of n p ≡ i
first-is n p i l h k =
    let top = first-most n p i h in
    elim (dec_lt (first_below_of n p) i) [
      | yes m ↦ clash (first_passes n p (omega arith)) (k (first_below_of n p) m)
      | no m ↦ omega arith
    ]

pub first-same : (n : ℕ) (p q : Items) → ((i : ℕ) → i < n → p i ≡ q i)
    → first_below_of n p ≡ first_below_of n q
first-same n p q h =
    elim (dec_lt (first_below_of n q) n) [
      | yes l ↦
          first-is n p (first_below_of n q) l (h (first_below_of n q) l ∙ first_passes n q l)
          (λ j m. h j (omega arith) ∙ first-least n q j m)
      | no l ↦
          let e : first_below_of n q ≡ n = omega (arith, first-top n q) in
          first-none n p (λ i m. h i m ∙ first-end n q e i m) ∙ sym e
    ]

pub first_any : (n : ℕ) (p : Items) → ltb (first_below_of n p) n ≡ any_below n p
first_any n p =
    same_test
    (λ y.
    let l = ltb-lt (first_below_of n p) n y in
    any-intro n p (first_below_of n p) l (first_passes n p l))
    (λ y.
    let s = any_some n p y in
    lt-ltb (first_below_of n p) n (omega (arith, first-most n p s.0 s.2, s.1)))
