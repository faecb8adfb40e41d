-- The first turn at which one of a set is met, round P places from the one after the last.
-- turn_near, turn-past: what a turn comes to.
-- turn-most: no later than any of the set. first-met: what is met. exact: none is met just where
-- the set is empty. nears: one of the set is met, or stands nearer to what is.
-- Assumes nothing.
use mathlib.Core.Path.{◌≡◌, ap, ◌∙◌}
use mathlib.Core.Bool.{false, So}
use mathlib.Core.Logic.{◌⊎◌, inl, inr, ◌↔◌}
use Prim.Native.Nat.{ℕ, ◌+◌, ◌-◌, ◌≤◌, ◌<◌}
use native.Mathlib.Omega.{arith}
use native.Mathlib.Decide.{dec_lt, ℕ_discrete}
use Rattle.words.specs.Tests.{Items}
use Rattle.words.specs.Turns.{first_below_of, turn}
use Rattle.words.proofs.Bools.{test, clash, lt-ltb, ge-ltb}
use Rattle.words.proofs.Firsts.{first-top, first_passes, first-most}
use Rattle.words.proofs.Turns.{turn_of, turn_low, turn_of_low, turn-of, turn_of_after}

-- The place at a turn, before the last of all places and past it.
pub turn_near : (P last i : ℕ) → last + 1 + i < P → turn P last i ≡ last + 1 + i
unfolding turn
turn_near P last i h = rw (lt-ltb (last + 1 + i) P h)

pub turn-past : (P last i : ℕ) → P ≤ last + 1 + i → turn P last i ≡ last + 1 + i - P
unfolding turn
turn-past P last i h = rw (ge-ltb (last + 1 + i) P h)

module _ (P last : ℕ) (w : Items) (h : last < P) where
  abbrev pub first_turn : ℕ
  first_turn = first_below_of P (λ i. w (turn P last i))

  turn-most : (r : ℕ) → r < P → So (w r) → first_turn ≤ turn_of P last r
  turn-most r l q =
      first-most P (λ i. w (turn P last i)) (turn_of P last r) (ap w (turn-of P last r h l) ∙ q)

  pub first-met : first_turn < P → (turn P last first_turn < P) × So (w (turn P last first_turn))
  first-met l =
      (turn_low P last first_turn h l, first_passes P (λ i. w (turn P last i)) l)

  pub exact : (first_turn ≡ P) ↔ ((r : ℕ) → r < P → w r ≡ false)
  exact = (there, back)
    where
      there : first_turn ≡ P → (r : ℕ) → r < P → w r ≡ false
      there e r l =
          test (w r)
          (λ y. absurd (omega (arith, turn-most r l y, turn_of_low P last r h l, e)))
          (λ n. n)

      back : ((r : ℕ) → r < P → w r ≡ false) → first_turn ≡ P
      back f =
          elim (dec_lt first_turn P) [
            | yes l ↦ let m = first-met l in clash m.1 (f (turn P last first_turn) m.0)
            | no l ↦ omega (arith, first-top P (λ i. w (turn P last i)))
          ]

  pub met-before : (r : ℕ) → r < P → So (w r) → first_turn < P
  met-before r l q = omega (arith, turn-most r l q, turn_of_low P last r h l)

  pub nears : (r : ℕ) → r < P → So (w r) → (turn P last first_turn ≡ r)
      ⊎ (turn_of P (turn P last first_turn) r < turn_of P last r)
  nears r l q =
      let top = turn-most r l q in
      elim (ℕ_discrete first_turn (turn_of P last r)) [
        | yes e ↦ inl (ap (turn P last) e ∙ turn-of P last r h l)
        | no n ↦
            let m : first_turn < turn_of P last r = omega arith in
            inr (omega (arith, turn_of_after P last r first_turn h l m))
      ]
