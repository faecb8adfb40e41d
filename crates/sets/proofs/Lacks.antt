-- The keys that a place lacks, as a mask.
-- lacking-mask: a mask without the held keys. lacking-some: whether there are any.
-- Assumes nothing.
use mathlib.Core.Path.{◌≡◌, sym, ap, ◌∙◌}
use mathlib.Core.Bool.{Bool, not, ◌&&◌}
use Prim.Native.Nat.{ℕ, ◌^◌, ◌<◌}
use native.Mathlib.Omega.{arith}
use lib.Dec.{eqb}
use Rattle.words.specs.Tests.{Items}
use Rattle.words.proofs.Bools.{not-not}
use Rattle.masks.specs.Mask.{test_bit, mask_below, without}
use Rattle.masks.proofs.Bits.{test-without, without-lt}
use Rattle.masks.proofs.Sets.{mask_lt, test-mask, mask-ext-below, set-none}
use Rattle.model.specs.Algebra.{Algebra, Place, lacking}
use Rattle.model.specs.Sets.{unfetchable}

module _ {A : Type 0} (alg : Algebra A) (K : ℕ) (p : Place A) (m : ℕ) where
  pub lacking-mask : (held r : ℕ) → m < 2 ^ K → held ≡ mask_below K (λ k. alg.held (p k))
      → r ≡ without m held → r ≡ mask_below K (lacking alg K p (test_bit m))
  unfolding lacking
  lacking-mask held r h e f =
      let on : Items = λ k. alg.held (p k) in
      let off : Items = λ k. test_bit m k && not (on k) in
      f ∙ mask-ext-below K (without m held) (mask_below K off) (without-lt m held K h)
      (mask_lt K off K (omega arith))
      (λ k i. test-without m held k
      ∙ ap (λ (b : Bool). test_bit m k && not b)
      (ap (λ (n : ℕ). test_bit n k) e ∙ test-mask K on k i)
      ∙ sym (test-mask K off k i))

  pub lacking-some : (r : ℕ) → r ≡ mask_below K (lacking alg K p (test_bit m))
      → not (eqb r 0) ≡ unfetchable alg K p (test_bit m)
  unfolding unfetchable
  lacking-some r e =
      ap not (ap (λ (n : ℕ). eqb n 0) e ∙ set-none K (lacking alg K p (test_bit m))) ∙ not-not _
