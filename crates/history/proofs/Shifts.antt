-- Counts that go on from a base: laws of `shift`, and when one such count is as large as another.
-- shift-..: where it is zero, its size, its order, of a larger one. shift-covers: the larger of a
-- listed count and a later one is at least that of another copy just where both are.
-- Assumes nothing.
use mathlib.Core.Path.{◌≡◌, refl}
use mathlib.Core.Logic.{◌↔◌}
use Prim.Native.Nat.{ℕ, zero, suc, ◌+◌, ◌≤◌, max}
use native.Mathlib.Omega.{arith}
use native.Mathlib.Decide.{dec_le}
use Rattle.history.specs.Listing.{shift}

-- ---- nothing, something, with no base

pub shift_zero : (a : ℕ) → shift a 0 ≡ 0
unfolding shift
shift_zero a = refl

pub shift_none : (a n : ℕ) → n ≡ 0 → shift a n ≡ 0
shift_none a n e = rw e (shift_zero a)

pub shift-some : (a n : ℕ) → 1 ≤ n → shift a n ≡ a + n
unfolding shift
shift-some a zero l = absurd (omega arith)
shift-some a (suc n) l = refl

pub shift-pos : (a n : ℕ) → 1 ≤ shift a n → 1 ≤ n
unfolding shift
shift-pos a zero l = l
shift-pos a (suc n) l = omega arith

pub shift-plain : (n : ℕ) → shift 0 n ≡ n
unfolding shift
shift-plain zero = refl
shift-plain (suc n) = omega arith

-- ---- its size and order

pub shift-at-least : (a n : ℕ) → n ≤ shift a n
unfolding shift
shift-at-least a zero = omega arith
shift-at-least a (suc n) = omega arith

pub shift-at-most : (a n : ℕ) → shift a n ≤ a + n
unfolding shift
shift-at-most a zero = omega arith
shift-at-most a (suc n) = omega arith

pub shift-mono : (a m n : ℕ) → m ≤ n → shift a m ≤ shift a n
unfolding shift
shift-mono a zero n l = omega arith
shift-mono a (suc m) zero l = absurd (omega arith)
shift-mono a (suc m) (suc n) l = omega arith

pub shift-order : (a m n : ℕ) → shift a m ≤ shift a n → m ≤ n
unfolding shift
shift-order a zero n l = omega arith
shift-order a (suc m) zero l = absurd (omega arith)
shift-order a (suc m) (suc n) l = omega arith

-- It commutes with the larger of two.
pub shift-max : (a m n : ℕ) → shift a (max m n) ≡ max (shift a m) (shift a n)
shift-max a m n =
    elim (dec_le m n) [
      | yes l ↦ let e : max m n ≡ n = omega arith in rw e (omega (arith, shift-mono a m n l))
      | no l ↦
          let e : max m n ≡ m = omega arith in
          rw e (omega (arith, shift-mono a n m (omega arith)))
    ]

-- ---- a listed count with a later one

-- Of one writer: x and y are listed, of the S admitted saves of a key; N is the writer's count at
-- the admission, m and n are counted since. Who has something later has all that was admitted.
pub shift-covers : (x y S N m n : ℕ) → x ≤ S → y ≤ S → S ≤ N → (1 ≤ m → x ≡ S)
    → max y (shift N n) ≤ max x (shift N m) ↔ (n ≤ m) × (y ≤ x)
unfolding shift
shift-covers x y S N zero zero lx ly lS full =
    (λ l. (omega arith, omega arith), λ r. omega (arith, r.1))
shift-covers x y S N zero (suc n) lx ly lS full =
    (λ l. absurd (omega arith), λ r. absurd (omega (arith, r.0)))
shift-covers x y S N (suc m) zero lx ly lS full =
    let e = full (omega arith) in (λ l. (omega arith, omega arith), λ r. omega arith)
shift-covers x y S N (suc m) (suc n) lx ly lS full =
    let e = full (omega arith) in
    (λ l. (omega arith, omega arith), λ r. omega (arith, r.0))
