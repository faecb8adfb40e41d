-- Masks: a number whose bit k, of value 2 ^ k, stands for item k.
-- test_bit: item k is in it. with_bit, with_if: one item more. mask_below: the mask of a set.
-- without: the difference. union_below: the union of some masks.
-- Assumes nothing.
use Rattle.std.specs.Prelude.{Bool, cond, ℕ, zero, suc, ◌/◌, ◌%◌, ◌^◌, eqb}
use Rattle.std.specs.Int.Bits.{bit_or, bit_and, bit_xor}
use Rattle.words.specs.Tests.{Items}

-- Item k is in the mask m.
unfoldable pub test_bit : ℕ → Items
test_bit m k = eqb (m / 2 ^ k % 2) 1

-- The mask m with item k in it.
unfoldable pub with_bit : ℕ → ℕ → ℕ
with_bit m k = bit_or m (2 ^ k)

-- The mask m, with item k in it where the test passes.
unfoldable pub with_if : Bool → ℕ → ℕ → ℕ
with_if b m k = cond b (with_bit m k) m

-- The mask of the items below n in a set.
unfoldable pub mask_below : ℕ → Items → ℕ
mask_below zero p = 0
mask_below (suc n) p = with_if (p n) (mask_below n p) n

-- The items of a that are not in b.
unfoldable pub without : ℕ → ℕ → ℕ
without a b = bit_xor a (bit_and a b)

-- The union of f 0, f 1, .. f (n - 1).
unfoldable pub union_below : ℕ → (ℕ → ℕ) → ℕ
union_below zero f = 0
union_below (suc n) f = bit_or (union_below n f) (f n)
