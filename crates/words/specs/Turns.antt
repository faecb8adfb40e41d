-- The first number that passes, and the order of turns round some places.
-- first_below_of: the least that passes. turn: the place that is met at a turn.
-- Assumes nothing.
use Rattle.std.specs.Prelude.{cond, ℕ, zero, suc, ◌+◌, ◌-◌, ltb}
use Rattle.words.specs.Tests.{Items}

-- The least i below n that passes, n where none does.
unfoldable pub first_below_of : ℕ → Items → ℕ
first_below_of zero p = 0
first_below_of (suc n) p = cond (p 0) 0 (suc (first_below_of n (λ i. p (suc i))))

-- Going round P places from the one after the last: at turn i it is last + 1 + i, less P if that
-- is not below P. So the last comes last.
unfoldable pub turn : ℕ → ℕ → ℕ → ℕ
turn P last i = cond (ltb (last + 1 + i) P) (last + 1 + i) (last + 1 + i - P)
