-- Masks of sets of keys, as step computes them.
-- from-..: the reads divided by where they come from.
-- Assumes nothing.
use mathlib.Core.Path.{◌≡◌, ap, ◌∙◌}
use mathlib.Core.Bool.{Bool, not, ◌&&◌}
use Prim.Native.Nat.{ℕ, ◌^◌, ◌<◌}
use native.Mathlib.Omega.{arith}
use lib.Bits.{bit_and, and_le_l}
use Rattle.words.specs.Tests.{Items}
use Rattle.words.proofs.Bools.{and_assoc}
use Rattle.masks.specs.Mask.{test_bit, mask_below, without}
use Rattle.masks.proofs.Bits.{test-and, test-without, without-lt}
use Rattle.masks.proofs.Sets.{mask_is, item_of}

-- ---- the reads R, with C and T as masks p and t

module _ (K R p t : ℕ) (C T : Items) (h : R < 2 ^ K) (e : p ≡ mask_below K C)
    (f : t ≡ mask_below K T) where
  both-lt : bit_and R p < 2 ^ K
  both-lt = omega (arith, and_le_l R p)

  pub from-snapshot : without R p ≡ mask_below K (λ k. test_bit R k && not (C k))
  from-snapshot =
      mask_is K (without R p) (λ k. test_bit R k && not (C k)) (without-lt R p K h)
      (λ k i. test-without R p k
      ∙ ap (λ (b : Bool). test_bit R k && not b) (item_of K p C e k i))

  pub from-cache : without (bit_and R p) t
      ≡ mask_below K (λ k. test_bit R k && (C k && not (T k)))
  from-cache =
      mask_is K (without (bit_and R p) t) (λ k. test_bit R k && (C k && not (T k)))
      (without-lt (bit_and R p) t K both-lt)
      (λ k i. test-without (bit_and R p) t k
      ∙ rw (test-and R p k, item_of K p C e k i, item_of K t T f k i)
      (and_assoc (test_bit R k) (C k) (not (T k))))

  pub from-master : bit_and (bit_and R p) t ≡ mask_below K (λ k. test_bit R k && (C k && T k))
  from-master =
      mask_is K (bit_and (bit_and R p) t) (λ k. test_bit R k && (C k && T k))
      (omega (arith, and_le_l (bit_and R p) t, both-lt))
      (λ k i. test-and (bit_and R p) t k
      ∙ rw (test-and R p k, item_of K p C e k i, item_of K t T f k i)
      (and_assoc (test_bit R k) (C k) (T k)))
