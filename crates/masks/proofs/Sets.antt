-- Laws of the mask of a set, of how many items it has, and of the union of masks.
-- Assumes nothing.
use mathlib.Core.Path.{◌≡◌, refl, sym, ap, ◌∙◌}
use mathlib.Core.Bool.{Bool, true, false, not, So, ◌&&◌}
use mathlib.Core.Logic.{⊎_elim}
use Prim.Native.Nat.{ℕ, zero, suc, ◌+◌, ◌^◌, ◌≤◌, ◌<◌}
use native.Mathlib.Omega.{arith}
use native.Mathlib.Nat.{not-suc-le-zero}
use native.Mathlib.Numerals.{add-one}
use lib.Dec.{eqb}
use lib.Pow.{pow_pos}
use lib.Bits.{bit_or, or_lt}
use Rattle.words.specs.Tests.{Items, any_below}
use Rattle.words.specs.Numbers.{when, count_below}
use Rattle.words.proofs.Bools.{test, clash, same_test, not-intro, not_elim, not-not, eqb-eq, eq-eqb}
use Rattle.words.proofs.Tests.{below-cases, below_or_not, any_some, any_none, any-no, any_same}
use Rattle.masks.specs.Mask.{test_bit, with_if, mask_below, union_below, without}
use Rattle.masks.proofs.Bits.{test-or, test-none, test-with-same, test-with-other, test-high, mask-ext, with_if_lt, test-without, without-lt}

-- ---- the mask of a set

pub mask-more : (p : Items) (n : ℕ) → mask_below (n + 1) p ≡ with_if (p n) (mask_below n p) n
unfolding mask_below
mask-more p n = rw add-one

pub mask_lt : (n : ℕ) (p : Items) (k : ℕ) → n ≤ k → mask_below n p < 2 ^ k
unfolding mask_below
mask_lt zero p k h = pow_pos k
mask_lt (suc n) p k h = with_if_lt (p n) (mask_below n p) n k (mask_lt n p k (omega arith)) h

pub test-mask : (n : ℕ) (p : Items) (j : ℕ) → j < n → test_bit (mask_below n p) j ≡ p j
unfolding mask_below with_if
test-mask zero p j h = absurd (not-suc-le-zero h)
test-mask (suc n) p j h = go (p n) refl (test-mask n p j)
  where
    low : mask_below n p < 2 ^ n
    low = mask_lt n p n (omega arith)

    go : (b : Bool) → p n ≡ b → (j < n → test_bit (mask_below n p) j ≡ p j)
        → test_bit (with_if b (mask_below n p) n) j ≡ p j
    go true e ih =
        below-cases j n h (λ q. rw q (test-with-same (mask_below n p) n ∙ sym e))
        (λ k. test-with-other (mask_below n p) n j (omega arith) ∙ ih k)
    go false e ih =
        below-cases j n h
        (λ q. rw q (test-high (mask_below n p) n n low (omega arith) ∙ sym e)) ih

pub mask-same : (n : ℕ) (p q : Items) → ((i : ℕ) → i < n → p i ≡ q i)
    → mask_below n p ≡ mask_below n q
unfolding mask_below
mask-same zero p q h = refl
mask-same (suc n) p q h = rw (mask-same n p q (λ i k. h i (omega arith)), h n (omega arith))

-- Two masks of items below n are equal if they have the same items below n.
pub mask-no : (n : ℕ) (p : Items) → ((i : ℕ) → i < n → p i ≡ false) → mask_below n p ≡ 0
unfolding mask_below with_if
mask-no zero p h = refl
mask-no (suc n) p h = rw (h n (omega arith)) (mask-no n p (λ i l. h i (omega arith)))

pub mask-ext-below : (n a b : ℕ) → a < 2 ^ n → b < 2 ^ n
    → ((j : ℕ) → j < n → test_bit a j ≡ test_bit b j) → a ≡ b
mask-ext-below n a b ha hb f =
    mask-ext a b (λ j. ⊎_elim (λ l. f j l)
    (λ g. test-high a n j ha g ∙ sym (test-high b n j hb g)) (below_or_not j n))

-- A mask of items below n is the mask of a set with the same items.
pub mask_is : (n m : ℕ) (p : Items) → m < 2 ^ n → ((j : ℕ) → j < n → test_bit m j ≡ p j)
    → m ≡ mask_below n p
mask_is n m p h f =
    mask-ext-below n m (mask_below n p) h (mask_lt n p n (omega arith))
    (λ j l. f j l ∙ sym (test-mask n p j l))

-- An item of a mask that is known by its set.
pub item_of : (n m : ℕ) (p : Items) → m ≡ mask_below n p → (j : ℕ) → j < n → test_bit m j ≡ p j
item_of n m p e j l = ap (λ (a : ℕ). test_bit a j) e ∙ test-mask n p j l

-- A mask is the mask of its items.
pub mask-of : (n m : ℕ) → m < 2 ^ n → mask_below n (test_bit m) ≡ m
mask-of n m h =
    mask-ext-below n (mask_below n (test_bit m)) m (mask_lt n (test_bit m) n (omega arith)) h
    (test-mask n (test_bit m))

-- A mask of items below n is 0 exactly if it has none.
pub mask-none : (n m : ℕ) → m < 2 ^ n → eqb m 0 ≡ not (any_below n (test_bit m))
mask-none n m h = same_test there back
  where
    there : So (eqb m 0) → So (not (any_below n (test_bit m)))
    there z =
        let e = eqb-eq m 0 z in
        rw e (not-intro (any-no n (test_bit 0) (λ i l. test-none i)))

    back : So (not (any_below n (test_bit m))) → So (eqb m 0)
    back a =
        eq-eqb m 0 (mask-ext-below n m 0 h (pow_pos n)
        (λ j l. any_none n (test_bit m) (not_elim a) j l ∙ sym (test-none j)))

-- One that isn't 0 has an item.
pub mask-some : (n m : ℕ) → m < 2 ^ n → eqb m 0 ≡ false → (j : ℕ) × So (test_bit m j)
mask-some n m h e =
    let any = any_below n (test_bit m) in
    let found = test any (λ y. y) (λ z. clash (mask-none n m h ∙ not-intro z) e) in
    let r = any_some n (test_bit m) found in (r.0, r.2)

-- Items of a that aren't in b.
pub without-some : (n a b : ℕ) → a < 2 ^ n
    → not (eqb (without a b) 0) ≡ any_below n (λ i. test_bit a i && not (test_bit b i))
without-some n a b h =
    ap not (mask-none n (without a b) (without-lt a b n h))
    ∙ not-not (any_below n (test_bit (without a b)))
    ∙ any_same n (test_bit (without a b)) (λ i. test_bit a i && not (test_bit b i))
    (λ i _. test-without a b i)

pub set-none : (n : ℕ) (p : Items) → eqb (mask_below n p) 0 ≡ not (any_below n p)
set-none n p =
    mask-none n (mask_below n p) (mask_lt n p n (omega arith))
    ∙ ap not (any_same n (test_bit (mask_below n p)) p (test-mask n p))

-- ---- how many

pub count-more : (p : Items) (n : ℕ) → count_below (n + 1) p ≡ count_below n p + when (p n) 1
unfolding count_below
count-more p n = rw add-one

-- ---- unions

pub union_more : (f : ℕ → ℕ) (n : ℕ) → union_below (n + 1) f ≡ bit_or (union_below n f) (f n)
unfolding union_below
union_more f n = rw add-one

pub union-lt : (n : ℕ) (f : ℕ → ℕ) (k : ℕ) → ((t : ℕ) → t < n → f t < 2 ^ k)
    → union_below n f < 2 ^ k
unfolding union_below
union-lt zero f k h = pow_pos k
union-lt (suc n) f k h =
    or_lt k (union_below n f) (f n) (union-lt n f k (λ t l. h t (omega arith))) (h n (omega arith))

pub test-union : (n : ℕ) (f : ℕ → ℕ) (j : ℕ)
    → test_bit (union_below n f) j ≡ any_below n (λ t. test_bit (f t) j)
unfolding union_below any_below
test-union zero f j = test-none j
test-union (suc n) f j = test-or (union_below n f) (f n) j ∙ rw (test-union n f j)
