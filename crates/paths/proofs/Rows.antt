-- Laws of a relation as rows of masks.
-- and-meets: two masks have an item in common. near-one: one edge away.
-- layer-..: the layers.
-- Assumes nothing.
use mathlib.Core.Path.{◌≡◌, ap, ◌∙◌}
use mathlib.Core.Bool.{not, ◌&&◌}
use mathlib.Core.List.{List}
use Prim.Native.Nat.{ℕ, ◌+◌, ◌<◌, ◌^◌}
use lib.Bits.{bit_and, and_le_r}
use lib.Dec.{eqb}
use lib.ListN.{get_or}
use native.Mathlib.Omega.{arith}
use native.Mathlib.Numerals.{add-one}
use Rattle.words.specs.Tests.{any_below}
use Rattle.words.proofs.Bools.{not-not}
use Rattle.words.proofs.Tests.{any_same}
use Rattle.masks.specs.Mask.{test_bit, mask_below}
use Rattle.masks.proofs.Bits.{test-and}
use Rattle.masks.proofs.Sets.{mask-none, mask_lt, mask-of, test-mask, mask-same}
use Rattle.paths.specs.Path.{near}
use Rattle.paths.specs.Rows.{leads_by, layer}

pub and-meets : (n a b : ℕ) → b < 2 ^ n
    → not (eqb (bit_and a b) 0) ≡ any_below n (λ d. test_bit a d && test_bit b d)
and-meets n a b h =
    ap not (mask-none n (bit_and a b) (omega (arith, and_le_r a b)))
    ∙ not-not (any_below n (test_bit (bit_and a b)))
    ∙ any_same n (test_bit (bit_and a b)) (λ d. test_bit a d && test_bit b d) (λ i _. test-and a b
    i)

-- Item k leads to one of the mask.
pub near-one : (rows : List ℕ) (n mask k : ℕ) → mask < 2 ^ n
    → not (eqb (bit_and (get_or rows k 0) mask) 0) ≡ near n (leads_by rows) (test_bit mask) 1 k
unfolding near leads_by
near-one rows n mask k h = and-meets n (get_or rows k 0) mask h

-- ---- the layers

-- The first is the goal,
pub layer-first : (rows : List ℕ) (n goal : ℕ) → goal < 2 ^ n → layer rows n goal 0 ≡ goal
unfolding layer near
layer-first rows n goal h = mask-of n goal h

pub layer-low : (rows : List ℕ) (n goal m : ℕ) → layer rows n goal m < 2 ^ n
unfolding layer
layer-low rows n goal m = mask_lt n (near n (leads_by rows) (test_bit goal) m) n (omega arith)

-- and what leads to one is in the next.
pub layer-more : (rows : List ℕ) (n goal m : ℕ)
    → mask_below n (near n (leads_by rows) (test_bit (layer rows n goal m)) 1)
    ≡ layer rows n goal (m + 1)
unfolding layer near
layer-more rows n goal m =
    let q = near n (leads_by rows) (test_bit goal) m in
    rw add-one (mask-same n _ _ (λ k _. any_same n _ _
    (λ d l. ap (λ b. leads_by rows k d && b) (test-mask n q d l))))
