-- Sets as tests, and tests of every number below a bound.
-- Items: a set. any_below, all_below: some number, every number below n passes. Within: a part of.
-- Assumes nothing.
use Rattle.std.specs.Prelude.{Bool, true, false, ◌&&◌, ◌||◌, ℕ, zero, suc, ◌<◌, eqb}
use Rattle.std.proofs.Math.Bool.{So}

-- A set of items is the test that its members pass.
abbrev pub Items : Type 0
Items = ℕ → Bool

-- Some number below n passes.
unfoldable pub any_below : ℕ → Items → Bool
any_below zero p = false
any_below (suc n) p = any_below n p || p n

-- Every number below n passes.
unfoldable pub all_below : ℕ → Items → Bool
all_below zero p = true
all_below (suc n) p = all_below n p && p n

-- Every item of a below n is in b.
abbrev pub Within : ℕ → Items → Items → Type 0
Within n a b = (i : ℕ) → i < n → So (a i) → So (b i)

-- The set of one item.
unfoldable pub only : ℕ → Items
only k i = eqb i k

-- The set of nothing.
abbrev pub none : Items
none i = false
