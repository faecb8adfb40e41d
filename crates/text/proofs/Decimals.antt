-- Laws of numbers in decimal.
-- decimal-small, decimal-large: the digits from those of the tenth part. decimal-length: how many.
-- reads-back, decimal-lead: what they spell, and that the first is not 0.
-- Assumes nothing.
use mathlib.Core.Path.{◌≡◌, refl, sym, ◌∙◌}
use mathlib.Core.Bool.{true, false}
use mathlib.Core.List.{List, [], ◌∷◌, ◌++◌}
use mathlib.Core.Option.{some}
use Prim.Native.Nat.{ℕ, zero, suc, ◌+◌, ◌*◌, ◌-◌, ◌/◌, ◌%◌, ◌^◌, ◌<◌, ◌≤◌}
use native.Mathlib.Omega.{arith}
use native.Mathlib.Decide.{dec_lt}
use lib.Dec.{lit<}
use lib.ListN.{length, get_or, length-append, get_or-append}
use borrow.Author.Tests.{le-leb}
use Rattle.text.specs.Fields.{digits_only, value_from, is_empty, max_number, number_of}
use Rattle.text.specs.Decimal.{digits_of_at, decimal_of}

-- ---- the digits of a number from those of its tenth part

digits-zero : (k : ℕ) → digits_of_at k 0 ≡ []
unfolding digits_of_at
digits-zero zero = refl
digits-zero (suc k) = refl

-- More places than the number needs change nothing.
digits-enough : (k m n : ℕ) → n ≤ k → n ≤ m → digits_of_at k n ≡ digits_of_at m n
unfolding digits_of_at
digits-enough zero m n hk hm =
    let e : n ≡ 0 = omega arith in rw (e, digits-zero m)
digits-enough (suc k) zero n hk hm =
    let e : n ≡ 0 = omega arith in rw e
digits-enough (suc k) (suc m) zero hk hm = refl
digits-enough (suc k) (suc m) (suc n) hk hm =
    rw (digits-enough k m (suc n / 10) (omega arith) (omega arith))

decimal-digits : (n : ℕ) → 0 < n → decimal_of n ≡ digits_of_at n n
unfolding decimal_of
decimal-digits zero h = absurd (omega arith)
decimal-digits (suc n) h = refl

pub decimal-small : (n : ℕ) → n < 10 → decimal_of n ≡ (48 + n) ∷ []
unfolding decimal_of digits_of_at
decimal-small zero h = refl
decimal-small (suc n) h =
    let q : suc n / 10 ≡ 0 = omega arith in
    let r : suc n % 10 ≡ suc n = omega arith in rw (q, r, digits-zero n)

pub decimal-large : (n : ℕ) → 10 ≤ n → decimal_of n ≡ decimal_of (n / 10) ++ ((48 + n % 10) ∷ [])
unfolding digits_of_at
decimal-large zero h = absurd (omega arith)
decimal-large (suc n) h =
    rw (
      decimal-digits (suc n) (omega arith),
      decimal-digits (suc n / 10) (omega arith),
      digits-enough n (suc n / 10) (suc n / 10) (omega arith) (omega arith),
    )

-- ---- how many

pub length-small : (n : ℕ) → n < 10 → length (decimal_of n) ≡ 1
length-small n h = rw (decimal-small n h)

pub length-large : (n : ℕ) → 10 ≤ n → length (decimal_of n) ≡ length (decimal_of (n / 10)) + 1
length-large n h = rw (decimal-large n h, length-append)

places : (k n : ℕ) → n < 10 ^ suc k → length (decimal_of n) ≤ suc k
places zero n h = rw (length-small n (omega arith)) (omega arith)
places (suc k) n h = elim (dec_lt n 10) [
  | yes l ↦ rw (length-small n l) (omega arith)
  | no l ↦
      let i = places k (n / 10) (omega arith) in rw (length-large n (omega arith)) (omega arith)
]

-- A word has ten digits at most.
pub decimal-length : (n : ℕ) → n ≤ max_number → length (decimal_of n) ≤ 10
decimal-length n h = places 9 n (omega (arith, lit< {m = max_number} {n = 10 ^ 10} tt))

-- ---- what they spell

value-append : (v : ℕ) (xs : List ℕ) (b : ℕ)
    → value_from v (xs ++ (b ∷ [])) ≡ value_from v xs * 10 + (b - 48)
unfolding value_from
value-append v [] b = refl
value-append v (x ∷ xs) b = value-append (v * 10 + (x - 48)) xs b

only-append : (xs : List ℕ) (b : ℕ) → 48 ≤ b → b ≤ 57
    → digits_only (xs ++ (b ∷ [])) ≡ digits_only xs
unfolding digits_only
only-append [] b l g = simp (le-leb _ _ l, le-leb _ _ g)
only-append (x ∷ xs) b l g = rw (only-append xs b l g)

filled-append : (xs : List ℕ) (b : ℕ) → is_empty (xs ++ (b ∷ [])) ≡ false
unfolding is_empty
filled-append [] b = refl
filled-append (x ∷ xs) b = refl

value-digits : (k n : ℕ) → n ≤ k → value_from 0 (digits_of_at k n) ≡ n
unfolding digits_of_at value_from
value-digits zero n h = omega arith
value-digits (suc k) zero h = refl
value-digits (suc k) (suc n) h =
    rw (
      value-append 0 (digits_of_at k (suc n / 10)) (48 + suc n % 10),
      value-digits k (suc n / 10) (omega arith),
    ) (omega arith)

only-digits : (k n : ℕ) → digits_only (digits_of_at k n) ≡ true
unfolding digits_of_at digits_only
only-digits zero n = refl
only-digits (suc k) zero = refl
only-digits (suc k) (suc n) =
    only-append (digits_of_at k (suc n / 10)) (48 + suc n % 10) (omega arith) (omega arith)
    ∙ only-digits k (suc n / 10)

filled-digits : (k n : ℕ) → is_empty (digits_of_at (suc k) (suc n)) ≡ false
unfolding digits_of_at
filled-digits k n = filled-append (digits_of_at k (suc n / 10)) (48 + suc n % 10)

-- A number that is put in decimal is read as itself.
pub reads-back : (n : ℕ) → n ≤ max_number → number_of (decimal_of n) ≡ some n
unfolding number_of decimal_of digits_only value_from is_empty
reads-back zero h = refl
reads-back (suc n) h =
    rw (
      filled-digits n n,
      only-digits (suc n) (suc n),
      value-digits (suc n) (suc n) (omega arith),
      le-leb (suc n) max_number h,
    )

some-digits : (k n : ℕ) → 0 < n → n ≤ k → 0 < length (digits_of_at k n)
unfolding digits_of_at
some-digits zero n p h = absurd (omega arith)
some-digits (suc k) zero p h = absurd (omega arith)
some-digits (suc k) (suc n) p h = rw length-append (omega arith)

lead-digits : (k n : ℕ) → 0 < n → n ≤ k → get_or (digits_of_at k n) 0 0 ≡ 48 → ⊥
unfolding digits_of_at
lead-digits zero n p h e = omega arith
lead-digits (suc k) zero p h e = omega arith
lead-digits (suc k) (suc n) p h e = elim (dec_lt 0 (suc n / 10)) [
  | yes q ↦
      let m = some-digits k (suc n / 10) q (omega arith) in
      lead-digits k (suc n / 10) q (omega arith)
      (sym (get_or-append (digits_of_at k (suc n / 10)) ((48 + suc n % 10) ∷ []) 0 0 m) ∙ e)
  | no q ↦
      let z : suc n / 10 ≡ 0 = omega arith in
      let f : 48 + suc n % 10 ≡ 48 = rw (z, digits-zero k) at e in omega arith
]

-- The first digit of a number other than 0 is not `0`.
pub decimal-lead : (n : ℕ) → 0 < n → get_or (decimal_of n) 0 0 ≡ 48 → ⊥
decimal-lead n p e = lead-digits n n p (omega arith) (rw (decimal-digits n p) at e)
