-- Lists of words built from functions, and read back.
-- blocks: lists one after the other. window: some words of a list. upto: a function with a limit.
-- put_at: a function changed at one number.
-- Assumes nothing.
use Rattle.std.specs.Prelude.{cond, List, [], ◌∷◌, ◌++◌, ℕ, zero, suc, ◌+◌, eqb, ltb, get_or}

-- f 0, f 1, .. f (n - 1), one after the other.
unfoldable pub blocks : ℕ → (ℕ → List ℕ) → List ℕ
blocks zero f = []
blocks (suc n) f = f 0 ++ blocks n (λ i. f (suc i))

-- n words from index at on.
unfoldable pub window : List ℕ → ℕ → ℕ → List ℕ
window l at zero = []
window l at (suc n) = get_or l at 0 ∷ window l (at + 1) n

-- f below n, and x from n on.
unfoldable pub upto {ℓ} : {A : Type ℓ} → ℕ → A → (ℕ → A) → ℕ → A
upto n x f i = cond (ltb i n) (f i) x

-- f with x at i.
unfoldable pub put_at {ℓ} : {A : Type ℓ} → (ℕ → A) → ℕ → A → ℕ → A
put_at f i x j = cond (eqb j i) x (f j)
