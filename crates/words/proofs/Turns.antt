-- Laws of turns round P places: each place is met at one turn.
-- turn_of: the turn of a place. turn-of, turn-only: one for the other. turn-after, turn_of_after:
-- from the place of an earlier turn.
-- Assumes nothing.
use mathlib.Core.Path.{◌≡◌, sym, ap, ◌∙◌}
use mathlib.Core.Bool.{cond}
use mathlib.Core.Logic.{◌⊎◌, inl, inr}
use Prim.Native.Nat.{ℕ, ◌+◌, ◌-◌, ◌≤◌, ◌<◌}
use native.Mathlib.Omega.{arith}
use lib.Dec.{ltb}
use Rattle.words.proofs.Bools.{test, ltb-lt, ltb-ge}
use Rattle.words.specs.Turns.{turn}

-- At which turn the place r is met.
unfoldable pub turn_of : ℕ → ℕ → ℕ → ℕ
turn_of P last r = cond (ltb last r) (r - last - 1) (r + P - last - 1)

-- What a turn comes to.
pub turn-cases : (P last i : ℕ)
    → ((last + 1 + i < P) × (turn P last i ≡ last + 1 + i))
    ⊎ ((P ≤ last + 1 + i) × (turn P last i ≡ last + 1 + i - P))
unfolding turn
turn-cases P last i =
    test (ltb (last + 1 + i) P) (λ y. inl (ltb-lt (last + 1 + i) P y, rw y))
    (λ x. inr (ltb-ge (last + 1 + i) P x, rw x))

pub turn_of_cases : (P last r : ℕ)
    → ((last < r) × (turn_of P last r ≡ r - last - 1))
    ⊎ ((r ≤ last) × (turn_of P last r ≡ r + P - last - 1))
unfolding turn_of
turn_of_cases P last r =
    test (ltb last r) (λ y. inl (ltb-lt last r y, rw y)) (λ x. inr (ltb-ge last r x, rw x))

pub turn_low : (P last i : ℕ) → last < P → i < P → turn P last i < P
turn_low P last i h l =
    elim (turn-cases P last i) [
      | inl c ↦ omega (arith, c.0, c.1)
      | inr c ↦ omega (arith, c.0, c.1)
    ]

pub turn_of_low : (P last r : ℕ) → last < P → r < P → turn_of P last r < P
turn_of_low P last r h l =
    elim (turn_of_cases P last r) [
      | inl c ↦ omega (arith, c.0, c.1)
      | inr c ↦ omega (arith, c.0, c.1)
    ]

-- Each place is met ..
pub turn-of : (P last r : ℕ) → last < P → r < P → turn P last (turn_of P last r) ≡ r
turn-of P last r h l =
    elim (turn_of_cases P last r) [
      | inl c ↦
          elim (turn-cases P last (turn_of P last r)) [
            | inl d ↦ omega (arith, c.0, c.1, d.0, d.1)
            | inr d ↦ omega (arith, c.0, c.1, d.0, d.1)
          ]
      | inr c ↦
          elim (turn-cases P last (turn_of P last r)) [
            | inl d ↦ omega (arith, c.0, c.1, d.0, d.1)
            | inr d ↦ omega (arith, c.0, c.1, d.0, d.1)
          ]
    ]

-- .. at one turn alone.
pub turn-only : (P last i : ℕ) → last < P → i < P → turn_of P last (turn P last i) ≡ i
turn-only P last i h l =
    elim (turn-cases P last i) [
      | inl c ↦
          elim (turn_of_cases P last (turn P last i)) [
            | inl d ↦ omega (arith, c.0, c.1, d.0, d.1)
            | inr d ↦ omega (arith, c.0, c.1, d.0, d.1)
          ]
      | inr c ↦
          elim (turn_of_cases P last (turn P last i)) [
            | inl d ↦ omega (arith, c.0, c.1, d.0, d.1)
            | inr d ↦ omega (arith, c.0, c.1, d.0, d.1)
          ]
    ]

-- From the place of an earlier turn j the place of the turn i is met at i - j - 1.
pub turn-after : (P last i j : ℕ) → last < P → i < P → j < i
    → turn P (turn P last j) (i - j - 1) ≡ turn P last i
turn-after P last i j h l k =
    both (turn-cases P last j) (turn-cases P last i) (turn-cases P (turn P last j) (i - j - 1))
  where
    Cases : ℕ → ℕ → Type 0
    Cases x m =
        ((x + 1 + m < P) × (turn P x m ≡ x + 1 + m))
        ⊎ ((P ≤ x + 1 + m) × (turn P x m ≡ x + 1 + m - P))

    both : Cases last j → Cases last i → Cases (turn P last j) (i - j - 1)
        → turn P (turn P last j) (i - j - 1) ≡ turn P last i
    both (inl a) (inl b) (inl c) = omega (arith, a.0, a.1, b.0, b.1, c.0, c.1)
    both (inl a) (inl b) (inr c) = omega (arith, a.0, a.1, b.0, b.1, c.0, c.1)
    both (inl a) (inr b) (inl c) = omega (arith, a.0, a.1, b.0, b.1, c.0, c.1)
    both (inl a) (inr b) (inr c) = omega (arith, a.0, a.1, b.0, b.1, c.0, c.1)
    both (inr a) (inl b) (inl c) = omega (arith, a.0, a.1, b.0, b.1, c.0, c.1)
    both (inr a) (inl b) (inr c) = omega (arith, a.0, a.1, b.0, b.1, c.0, c.1)
    both (inr a) (inr b) (inl c) = omega (arith, a.0, a.1, b.0, b.1, c.0, c.1)
    both (inr a) (inr b) (inr c) = omega (arith, a.0, a.1, b.0, b.1, c.0, c.1)

-- The same of a place: it stands at i - j - 1 from there.
pub turn_of_after : (P last r j : ℕ) → last < P → r < P → j < turn_of P last r
    → turn_of P (turn P last j) r ≡ turn_of P last r - j - 1
turn_of_after P last r j h l k =
    let i = turn_of P last r in
    let top : i < P = turn_of_low P last r h l in
    let at : turn P last j < P = turn_low P last j h (omega arith) in
    let e : turn P (turn P last j) (i - j - 1) ≡ r =
    turn-after P last i j h top k ∙ turn-of P last r h l in
    ap (turn_of P (turn P last j)) (sym e)
    ∙ turn-only P (turn P last j) (i - j - 1) at (omega arith)
