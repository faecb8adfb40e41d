-- A number in decimal.
-- decimal_of: its digits, the first of them not 0 unless the number is.
-- Assumes nothing.
use Rattle.std.specs.Prelude.{List, [], ◌∷◌, ◌++◌, ℕ, zero, suc, ◌+◌, ◌/◌, ◌%◌}

-- The digits of n, of which there are k at most; 0 has none here.
unfoldable pub digits_of_at : ℕ → ℕ → List ℕ
digits_of_at zero n = []
digits_of_at (suc k) zero = []
digits_of_at (suc k) (suc n) = digits_of_at k (suc n / 10) ++ ((48 + suc n % 10) ∷ [])

-- "all text is in decimal": n has n digits at most.
unfoldable pub decimal_of : ℕ → List ℕ
decimal_of zero = 48 ∷ []
decimal_of (suc n) = digits_of_at (suc n) (suc n)
