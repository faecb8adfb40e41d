-- Laws of one mask and of the operations on masks: which items are in the result, and its bound.
-- test-..: an item of a result. mask-ext: a mask is its items. ..-lt: a result is below 2 ^ n.
-- Assumes nothing.
use mathlib.Core.Path.{◌≡◌, refl, sym, ap, ◌∙◌}
use mathlib.Core.Bool.{Bool, true, false, not, ◌&&◌, ◌||◌, xor, So}
use mathlib.Core.Logic.{inl, inr, ◌≢◌}
use Prim.Native.Nat.{ℕ, zero, suc, ◌*◌, ◌/◌, ◌%◌, ◌^◌, ◌≤◌, ◌<◌, min, max}
use native.Mathlib.Omega.{arith}
use native.Mathlib.Nat.{div-one, zero-div, pow-suc, one-mul, div-eq_of_lt, lt_of_lt_of_le}
use native.Mathlib.Numerals.{one-add}
use lib.Arith.{bin_ind}
use lib.Dec.{eqb, eqb-zero-suc, eqb-suc-zero, eqb-suc-suc}
use lib.Pow.{shr-shr, shl_exact, pow_mono, pow-lt}
use lib.Bits.{bit_or, bit_and, bit_xor, differ, or_step, and_step, xor_step, or_shr, and_shr, xor_shr, or_lt, xor_lt, and_le_l}
use Rattle.words.specs.Numbers.{when}
use Rattle.words.proofs.Bools.{test, clash, eqb-eq, eqb-ne, eq-eqb, ne_eqb, or_true_right, or-false-right}
use Rattle.words.proofs.Tests.{below_or_not}
use Rattle.masks.specs.Mask.{test_bit, with_bit, with_if, without}

-- ---- an item of the result of an operation

-- An operation f on the digits 0 and 1 that does to the tests of two digits what g does.
by-digit : (f : ℕ → ℕ → ℕ) (g : Bool → Bool → Bool)
    → eqb (f 0 0) 1 ≡ g false false → eqb (f 0 1) 1 ≡ g false true
    → eqb (f 1 0) 1 ≡ g true false → eqb (f 1 1) 1 ≡ g true true
    → (a b : ℕ) → eqb (f (a % 2) (b % 2)) 1 ≡ g (eqb (a % 2) 1) (eqb (b % 2) 1)
by-digit f g h00 h01 h10 h11 a b = go (a % 2) (b % 2) (omega arith) (omega arith)
  where
    go : (u v : ℕ) → u < 2 → v < 2 → eqb (f u v) 1 ≡ g (eqb u 1) (eqb v 1)
    go zero zero h k = h00
    go zero (suc zero) h k = h01
    go (suc zero) zero h k = h10
    go (suc zero) (suc zero) h k = h11
    go (suc (suc u)) v h k = absurd (omega arith)
    go zero (suc (suc v)) h k = absurd (omega arith)
    go (suc zero) (suc (suc v)) h k = absurd (omega arith)

or-odd : (a b : ℕ) → bit_or a b % 2 ≡ max (a % 2) (b % 2)
or-odd a b = omega (arith, or_step a b)

and-odd : (a b : ℕ) → bit_and a b % 2 ≡ min (a % 2) (b % 2)
and-odd a b = omega (arith, and_step a b)

differ-low : (u v : ℕ) → u < 2 → v < 2 → differ u v < 2
differ-low zero v h k = k
differ-low (suc zero) zero h k = h
differ-low (suc zero) (suc zero) h k = omega arith
differ-low (suc zero) (suc (suc v)) h k = absurd (omega arith)
differ-low (suc (suc u)) v h k = absurd (omega arith)

xor-odd : (a b : ℕ) → bit_xor a b % 2 ≡ differ (a % 2) (b % 2)
xor-odd a b =
    omega (arith, xor_step a b, differ-low (a % 2) (b % 2) (omega arith) (omega arith))

pub test-or : (a b j : ℕ) → test_bit (bit_or a b) j ≡ test_bit a j || test_bit b j
unfolding test_bit
test-or a b j =
    rw (or_shr a b j, or-odd (a / 2 ^ j) (b / 2 ^ j))
    (by-digit max ◌||◌ refl refl refl refl (a / 2 ^ j) (b / 2 ^ j))

pub test-and : (a b j : ℕ) → test_bit (bit_and a b) j ≡ test_bit a j && test_bit b j
unfolding test_bit
test-and a b j =
    rw (and_shr a b j, and-odd (a / 2 ^ j) (b / 2 ^ j))
    (by-digit min ◌&&◌ refl refl refl refl (a / 2 ^ j) (b / 2 ^ j))

pub test-xor : (a b j : ℕ) → test_bit (bit_xor a b) j ≡ xor (test_bit a j) (test_bit b j)
unfolding test_bit xor
test-xor a b j =
    rw (xor_shr a b j, xor-odd (a / 2 ^ j) (b / 2 ^ j))
    (by-digit differ xor refl refl refl refl (a / 2 ^ j) (b / 2 ^ j))

xor-and : (a b : Bool) → xor a (a && b) ≡ a && not b
unfolding xor
xor-and true true = refl
xor-and true false = refl
xor-and false b = refl

pub test-without : (a b j : ℕ) → test_bit (without a b) j ≡ test_bit a j && not (test_bit b j)
unfolding without
test-without a b j =
    test-xor a (bit_and a b) j
    ∙ ap (xor (test_bit a j)) (test-and a b j) ∙ xor-and (test_bit a j) (test_bit b j)

-- ---- bit by bit

test_zero : (m : ℕ) → test_bit m 0 ≡ eqb (m % 2) 1
unfolding test_bit
test_zero m = rw (div-one m)

test-suc : (m j : ℕ) → test_bit m (suc j) ≡ test_bit (m / 2) j
unfolding test_bit
test-suc m j =
    ap (λ (n : ℕ). eqb (n % 2) 1)
    (ap (λ (n : ℕ). m / 2 ^ n) (sym (one-add j)) ∙ sym (shr-shr m 1 j))

pub test-none : (j : ℕ) → test_bit 0 j ≡ false
unfolding test_bit
test-none j = rw (zero-div (2 ^ j))

pub test-when : (b : Bool) (x j : ℕ) → test_bit (when b x) j ≡ b && test_bit x j
unfolding when
test-when true x j = refl
test-when false x j = test-none j

double_even : (n : ℕ) → 2 ^ suc n % 2 ≡ 0
double_even n = rw pow-suc (omega arith)

double-half : (n : ℕ) → 2 ^ suc n / 2 ≡ 2 ^ n
double-half n = rw pow-suc (omega arith)

-- A power of two is the mask of one item.
pub test-pow : (k j : ℕ) → test_bit (2 ^ k) j ≡ eqb j k
test-pow zero zero = test_zero 1
test-pow zero (suc j) = test-suc 1 j ∙ test-none j ∙ sym (eqb-suc-zero j)
test-pow (suc k) zero = test_zero (2 ^ suc k) ∙ rw (double_even k) (sym (eqb-zero-suc k))
test-pow (suc k) (suc j) =
    test-suc (2 ^ suc k) j ∙ rw (double-half k) (test-pow k j ∙ sym (eqb-suc-suc j k))

pub test-with : (m k j : ℕ) → test_bit (with_bit m k) j ≡ test_bit m j || eqb j k
unfolding with_bit
test-with m k j = test-or m (2 ^ k) j ∙ rw (test-pow k j)

pub test-with-same : (m k : ℕ) → So (test_bit (with_bit m k) k)
test-with-same m k = test-with m k k ∙ rw (eq-eqb k k refl, or_true_right)

pub test-with-other : (m k j : ℕ) → j ≢ k → test_bit (with_bit m k) j ≡ test_bit m j
test-with-other m k j f = test-with m k j ∙ rw (ne_eqb j k f) (or-false-right (test_bit m j))

-- No item at n or above, for a mask below 2 ^ n.
pub test-high : (m n j : ℕ) → m < 2 ^ n → n ≤ j → test_bit m j ≡ false
unfolding test_bit
test-high m n j h k = rw (div-eq_of_lt (lt_of_lt_of_le h (pow_mono k)))

pub test_low : (m n j : ℕ) → m < 2 ^ n → So (test_bit m j) → j < n
test_low m n j h p =
    elim (below_or_not j n) [
      | inl l ↦ l
      | inr g ↦ clash p (test-high m n j h g)
    ]

-- ---- a mask is its items

no-bit : (b : ℕ) → ((j : ℕ) → test_bit b j ≡ false) → b ≡ 0
no-bit =
    bin_ind (λ (b : ℕ). ((j : ℕ) → test_bit b j ≡ false) → b ≡ 0) (λ f. refl)
    (λ n ih f.
    let h : n / 2 ≡ 0 = ih (λ j. sym (test-suc n j) ∙ f (suc j)) in
    let e : n % 2 ≢ 1 = eqb-ne (n % 2) 1 (sym (test_zero n) ∙ f 0) in omega arith)

last-digit : (a b : ℕ) → eqb (a % 2) 1 ≡ eqb (b % 2) 1 → a % 2 ≡ b % 2
last-digit a b e =
    test (eqb (a % 2) 1)
    (λ t. let h = eqb-eq (a % 2) 1 t in let k = eqb-eq (b % 2) 1 (sym e ∙ t) in omega arith)
    (λ t. let h = eqb-ne (a % 2) 1 t in let k = eqb-ne (b % 2) 1 (sym e ∙ t) in omega arith)

pub mask-ext : (a b : ℕ) → ((j : ℕ) → test_bit a j ≡ test_bit b j) → a ≡ b
mask-ext =
    bin_ind (λ (a : ℕ). (b : ℕ) → ((j : ℕ) → test_bit a j ≡ test_bit b j) → a ≡ b)
    (λ b f. sym (no-bit b (λ j. sym (f j) ∙ test-none j)))
    (λ n ih b f.
    let h = ih (b / 2) (λ j. sym (test-suc n j) ∙ f (suc j) ∙ test-suc b j) in
    let e = last-digit n b (sym (test_zero n) ∙ f 0 ∙ test_zero b) in omega arith)

-- ---- bounds

pub with-lt : (m k n : ℕ) → m < 2 ^ n → k < n → with_bit m k < 2 ^ n
unfolding with_bit
with-lt m k n h i = or_lt n m (2 ^ k) h (pow-lt i)

pub with_if_lt : (b : Bool) (m k n : ℕ) → m < 2 ^ n → k < n → with_if b m k < 2 ^ n
unfolding with_if
with_if_lt true m k n h i = with-lt m k n h i
with_if_lt false m k n h i = h

pub without-lt : (a b n : ℕ) → a < 2 ^ n → without a b < 2 ^ n
unfolding without
without-lt a b n h = xor_lt n a (bit_and a b) h (omega (arith, and_le_l a b))

-- What `1 << k` is.
pub shifted_one : (k w : ℕ) → k < w → (1 * 2 ^ k) % 2 ^ w ≡ 2 ^ k
shifted_one k w h = shl_exact 1 k w (omega arith) (omega arith) ∙ one-mul (2 ^ k)
