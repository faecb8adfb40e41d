-- Laws of a set that grows from its frontier, as masks.
-- first_frontier: where it begins. next-..: one step of the recursion.
-- Assumes nothing.
use mathlib.Core.Path.{◌≡◌, ap, ◌∙◌}
use mathlib.Core.Bool.{false, not, ◌&&◌, So}
use mathlib.Core.Logic.{inl, inr, ◌≢◌}
use Prim.Native.Nat.{ℕ, ◌<◌, ◌^◌}
use native.Mathlib.Omega.{arith}
use lib.Bits.{bit_or, or_lt}
use Rattle.words.specs.Tests.{Items, Within}
use Rattle.words.proofs.Bools.{test, clash, and_intro, and_left, and_right, or_left, or_right, or_cases, not-intro, not_elim, ne_eqb, ◌∙˙◌}
use Rattle.words.proofs.Tests.{any-intro, any_some}
use Rattle.masks.specs.Mask.{test_bit, mask_below}
use Rattle.masks.proofs.Bits.{test-or, test-none, test_low}
use Rattle.masks.proofs.Sets.{mask_lt, test-mask, mask-same, mask-of, mask-some}
use Rattle.reach.specs.Closure.{Closed, closure, outside, joining, Frontier}
use Rattle.reach.proofs.Closures.{closure-start, closure-closed, closure-between, closure-fixed, outside-falls}

-- All of the start may lead outside.
pub first_frontier : (n : ℕ) (edge : ℕ → Items) (m : ℕ) → m < 2 ^ n → Frontier n edge m m
first_frontier n edge m h = record {
  below = h;
  within = λ d _ p. p;
  settled = λ t d _ _ p q _. clash p q;
}

module _ (n : ℕ) (edge : ℕ → Items) (m f r : ℕ) (F : Frontier n edge m f)
    (e : r ≡ mask_below n (joining n edge (test_bit m) (test_bit f))) where
  -- What joins lies outside, and a member of the frontier leads to it.
  join-from : (d : ℕ) → d < n → So (test_bit r d)
      → (t : ℕ) × (t < n) × So (test_bit f t) × (test_bit m d ≡ false) × So (edge t d)
  unfolding joining
  join-from d i p =
      let q = test-mask n (joining n edge (test_bit m) (test_bit f)) d i ∙˙ (rw e at p) in
      let found = any_some n (λ t. test_bit f t && (not (test_bit m d) && edge t d)) q in
      let t = found.0 in
      let a = test_bit f t in
      let b = not (test_bit m d) in
      let c = b && edge t d in
      let h = and_right a c found.2 in (
        t,
        found.1,
        and_left a c found.2,
        not_elim (and_left b (edge t d) h),
        and_right b (edge t d) h,
      )

  join-adds : (t d : ℕ) → t < n → d < n → So (test_bit f t) → test_bit m d ≡ false → So (edge t d)
      → So (test_bit r d)
  unfolding joining
  join-adds t d i j p q h =
      rw e (test-mask n (joining n edge (test_bit m) (test_bit f)) d j
      ∙ any-intro n (λ t. test_bit f t && (not (test_bit m d) && edge t d)) t i
      (and_intro p (and_intro (not-intro q) h)))

  low : r < 2 ^ n
  low = rw e (mask_lt n (joining n edge (test_bit m) (test_bit f)) n (omega arith))

  -- A member leads to a member, or to what joins.
  leads_in : (t d : ℕ) → t < n → d < n → So (test_bit m t) → So (edge t d)
      → So (test_bit (bit_or m r) d)
  leads_in t d i j p h =
      test-or m r d ∙ test (test_bit m d) (or_left (test_bit r d)) (λ out.
      or_right (test_bit m d) (test (test_bit f t) (λ y. join-adds t d i j y out h)
      (λ x. clash (F.settled t d i j p x h) out)))

  -- The next mask has what joins as its frontier,
  pub next_frontier : Frontier n edge (bit_or m r) r
  next_frontier = record {
    below = or_lt n m r F.below low;
    within = λ d _ p. test-or m r d ∙ or_right (test_bit m d) p;
    settled = λ t d i j p q h. leads_in t d i j (old t p q) h;
  }
    where
      old : (t : ℕ) → So (test_bit (bit_or m r) t) → test_bit r t ≡ false → So (test_bit m t)
      old t p q =
          elim (or_cases (test_bit m t) (test_bit r t) (test-or m r t ∙˙ p)) [
            | inl y ↦ y
            | inr y ↦ clash y q
          ]

  keeps : Within n (test_bit m) (test_bit (bit_or m r))
  keeps d _ p = test-or m r d ∙ or_left (test_bit r d) p

  -- leaves fewer outside where something joins,
  pub next-less : r ≢ 0 → outside n (test_bit (bit_or m r)) < outside n (test_bit m)
  next-less h =
      let j = mask-some n r low (ne_eqb r 0 h) in
      let i = test_low r n j.0 low j.1 in
      outside-falls n (test_bit m) (test_bit (bit_or m r)) keeps j.0 i
      (join-from j.0 i j.1).3 (test-or m r j.0 ∙ or_right (test_bit m j.0) j.1)

  -- has the same least set,
  pub next-same : mask_below n (closure n edge (test_bit (bit_or m r)))
      ≡ mask_below n (closure n edge (test_bit m))
  next-same =
      mask-same n (closure n edge (test_bit (bit_or m r))) (closure n edge (test_bit m))
      (closure-between n edge (test_bit m) (test_bit (bit_or m r)) keeps up)
    where
      up : Within n (test_bit (bit_or m r)) (closure n edge (test_bit m))
      up d i p =
          elim (or_cases (test_bit m d) (test_bit r d) (test-or m r d ∙˙ p)) [
            | inl y ↦ closure-start n edge (test_bit m) d y
            | inr y ↦
                let c = join-from d i y in
                let s = closure-start n edge (test_bit m) c.0 (F.within c.0 c.1 c.2) in
                closure-closed n edge (test_bit m) c.0 d c.1 i s c.4
          ]

  -- and the mask is the least set where nothing joins.
  pub next-done : r ≡ 0 → mask_below n (closure n edge (test_bit m)) ≡ m
  next-done h =
      mask-same n (closure n edge (test_bit m)) (test_bit m)
      (closure-fixed n edge (test_bit m) closed)
      ∙ mask-of n m F.below
    where
      closed : Closed n edge (test_bit m)
      closed t d i j p q =
          elim (or_cases (test_bit m d) (test_bit r d) (test-or m r d ∙˙ leads_in t d i j p q)) [
            | inl y ↦ y
            | inr y ↦ clash (ap (λ (x : ℕ). test_bit x d) h ∙˙ y) (test-none d)
          ]
