-- Laws of what the done jobs of a run have read.
-- done_reads-none: with no job done. done_reads-more, -mask: with one more job done.
-- Assumes nothing.
use mathlib.Core.Path.{◌≡◌, refl, sym, ap, ◌∙◌}
use mathlib.Core.Bool.{Bool, So, ◌&&◌, ◌||◌}
use mathlib.Core.Logic.{inl, inr}
use Prim.Native.Nat.{ℕ, ◌<◌, ◌^◌}
use native.Mathlib.Omega.{arith}
use lib.Bits.{bit_or, or_lt}
use lib.Dec.{eqb}
use Rattle.words.specs.Tests.{any_below}
use Rattle.words.proofs.Bools.{same_test, ◌∙˙◌, and_intro, and_left, and_right, or_left, or_right, or_cases, eqb-eq, eq-eqb}
use Rattle.words.proofs.Tests.{any-intro, any_some, any-no}
use Rattle.masks.specs.Mask.{test_bit, with_bit, mask_below}
use Rattle.masks.proofs.Bits.{test-or, test-none, test-with}
use Rattle.masks.proofs.Sets.{test-mask, mask_lt, mask-ext-below, set-none}
use Rattle.model.specs.Store.{Job, done_reads}

-- With no job done, nothing is read.
pub done_reads-none : (K n : ℕ) (job : ℕ → Job) → mask_below K (done_reads n job 0) ≡ 0
unfolding done_reads
done_reads-none K n job =
    eqb-eq _ 0 (set-none K (done_reads n job 0)
    ∙ rw (any-no K (done_reads n job 0)
    (λ k _. any-no n (λ j. test_bit 0 j && test_bit (job j).reads k) (λ j _. rw (test-none j)))))

-- With job j done too, its reads are read.
pub done_reads-more : (n : ℕ) (job : ℕ → Job) (done j k : ℕ) → j < n
    → done_reads n job (with_bit done j) k ≡ done_reads n job done k || test_bit (job j).reads k
unfolding done_reads
done_reads-more n job done j k l = same_test there back
  where
    before : ℕ → Bool
    before i = test_bit done i && test_bit (job i).reads k

    after : ℕ → Bool
    after i = test_bit (with_bit done j) i && test_bit (job i).reads k

    there : So (any_below n after) → So (any_below n before || test_bit (job j).reads k)
    there p =
        let r = any_some n after p in
        let i = r.0 in
        let in-i = and_right (test_bit (with_bit done j) i) (test_bit (job i).reads k) r.2 in
        let done-i = and_left (test_bit (with_bit done j) i) (test_bit (job i).reads k) r.2 in
        elim (or_cases (test_bit done i) (eqb i j) (test-with done j i ∙˙ done-i)) [
          | inl h ↦ or_left (test_bit (job j).reads k)
              (any-intro n before i r.1 (and_intro h in-i))
          | inr h ↦ or_right (any_below n before)
              (ap (λ (i : ℕ). test_bit (job i).reads k) (sym (eqb-eq i j h)) ∙ in-i)
        ]

    back : So (any_below n before || test_bit (job j).reads k) → So (any_below n after)
    back p =
        elim (or_cases (any_below n before) (test_bit (job j).reads k) p) [
          | inl q ↦
              let r = any_some n before q in
              let i = r.0 in
              let was = and_left (test_bit done i) (test_bit (job i).reads k) r.2 in
              let in-i = and_right (test_bit done i) (test_bit (job i).reads k) r.2 in
              any-intro n after i r.1
              (and_intro (test-with done j i ∙ or_left (eqb i j) was) in-i)
          | inr q ↦
              let now = test-with done j j ∙ or_right (test_bit done j) (eq-eqb j j refl) in
              any-intro n after j l (and_intro now q)
        ]

pub done_reads-mask : (K n : ℕ) (job : ℕ → Job) (done j : ℕ) → j < n → (job j).reads < 2 ^ K
    → bit_or (mask_below K (done_reads n job done)) (job j).reads
    ≡ mask_below K (done_reads n job (with_bit done j))
done_reads-mask K n job done j l h =
    let was = mask_below K (done_reads n job done) in
    let reads = (job j).reads in
    let now = mask_below K (done_reads n job (with_bit done j)) in
    mask-ext-below K (bit_or was reads) now
    (or_lt K was reads (mask_lt K (done_reads n job done) K (omega arith)) h)
    (mask_lt K (done_reads n job (with_bit done j)) K (omega arith))
    (λ k i.
    test-or was reads k
    ∙ ap (λ (b : Bool). b || test_bit reads k) (test-mask K (done_reads n job done) k i)
    ∙ sym (done_reads-more n job done j k l)
    ∙ sym (test-mask K (done_reads n job (with_bit done j)) k i))
