-- Numbers over the items below a bound.
-- when: a value where a test passes. count_below: how many pass. largest: the largest value.
-- fold_below: steps in turn.
-- Assumes nothing.
use Rattle.std.specs.Prelude.{Bool, cond, ℕ, zero, suc, ◌+◌, max}
use Rattle.words.specs.Tests.{Items}

-- x where the test passes, and 0 where it fails.
unfoldable pub when : Bool → ℕ → ℕ
when b x = cond b x 0

-- How many numbers below n pass.
unfoldable pub count_below : ℕ → Items → ℕ
count_below zero p = 0
count_below (suc n) p = count_below n p + when (p n) 1

-- The largest of f 0, .. f (n - 1), and 0 for none.
unfoldable pub largest : ℕ → (ℕ → ℕ) → ℕ
largest zero f = 0
largest (suc n) f = max (largest n f) (f n)

-- f 0, f 1, .. f (n - 1) in turn, each at what the one before it left.
unfoldable pub fold_below {ℓ} : {A : Type ℓ} → ℕ → (ℕ → A → A) → A → A
fold_below zero f x = x
fold_below (suc n) f x = f n (fold_below n f x)
