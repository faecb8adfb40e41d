-- Laws of the lowest number that passes.
-- Assumes nothing.
use mathlib.Core.Path.{◌≡◌, refl, sym, ap, ◌∙◌}
use mathlib.Core.Bool.{false, So}
use mathlib.Core.Logic.{inl, inr}
use Prim.Native.Nat.{ℕ, zero, suc, ◌≤◌, ◌<◌}
use native.Mathlib.Omega.{arith}
use native.Mathlib.Nat.{not-suc-le-zero}
use lib.Dec.{ltb}
use Rattle.words.specs.Tests.{Items, any_below}
use Rattle.words.proofs.Bools.{test, clash, same_test, lt-ltb, ltb-lt}
use Rattle.words.proofs.Tests.{below_or_not, any-intro, any_some}
use Rattle.std.proofs.Common.{Option, None, Some}
use Rattle.std.specs.Option.{MatchOption, unwrap_or}
use Rattle.words.proofs.Ranges.{Found}
use Rattle.paths.specs.Path.{lowest}

-- Where some number passes, it is at most that one,
pub lowest-first : (n : ℕ) (p : Items) (i : ℕ) → i < n → So (p i) → lowest n p ≤ i
unfolding lowest
lowest-first zero p i h q = absurd (not-suc-le-zero h)
lowest-first (suc n) p zero h q = rw q (omega arith)
lowest-first (suc n) p (suc i) h q =
    test (p 0) (λ y. rw y (omega arith))
    (λ x. let r = lowest-first n (λ j. p (suc j)) i (omega arith) q in rw x (omega (arith, r)))

-- and passes where it is below n.
pub lowest-passes : (n : ℕ) (p : Items) → lowest n p < n → So (p (lowest n p))
unfolding lowest
lowest-passes zero p h = absurd (not-suc-le-zero h)
lowest-passes (suc n) p h =
    test (p 0) (λ y. rw y y) (λ x.
    let k : suc (lowest n (λ j. p (suc j))) < suc n = rw x at h in
    rw x (lowest-passes n (λ j. p (suc j)) (omega (arith, k))))

pub lowest-top : (n : ℕ) (p : Items) → lowest n p ≤ n
unfolding lowest
lowest-top zero p = omega arith
lowest-top (suc n) p =
    test (p 0) (λ y. rw y (omega arith))
    (λ x. rw x (omega (arith, lowest-top n (λ j. p (suc j)))))

-- No number below n passes where it isn't.
pub lowest-any : (n : ℕ) (p : Items) → ltb (lowest n p) n ≡ any_below n p
lowest-any n p = same_test some low
  where
    some : So (ltb (lowest n p) n) → So (any_below n p)
    some h =
        let l = ltb-lt (lowest n p) n h in
        any-intro n p (lowest n p) l (lowest-passes n p l)

    low : So (any_below n p) → So (ltb (lowest n p) n)
    low h =
        let s = any_some n p h in
        let r = lowest-first n p s.0 s.1 s.2 in
        lt-ltb (lowest n p) n (omega (arith, r, s.1))

pub lowest-low : (n : ℕ) (p : Items) → So (any_below n p) → lowest n p < n
lowest-low n p h = ltb-lt (lowest n p) n (lowest-any n p ∙ h)

-- It is the number that passes where none before it does.
pub lowest-is : (n : ℕ) (p : Items) (i : ℕ) → i < n → So (p i)
    → ((j : ℕ) → j < i → p j ≡ false) → lowest n p ≡ i
lowest-is n p i h q none =
    let r = lowest-first n p i h q in
    elim (below_or_not (lowest n p) i) [
      | inl l ↦ clash (lowest-passes n p (omega (arith, r))) (none (lowest n p) l)
      | inr l ↦ omega (arith, r)
    ]

pub lowest-none : (n : ℕ) (p : Items) → ((i : ℕ) → i < n → p i ≡ false) → lowest n p ≡ n
unfolding lowest
lowest-none zero p none = refl
lowest-none (suc n) p none =
    rw (none 0 (omega arith)) (ap (λ (i : ℕ). suc i)
    (lowest-none n (λ j. p (suc j)) (λ i l. none (suc i) (omega arith))))

-- By what `find` says.
pub lowest-found : (n : ℕ) (p : Items) (r : Option ℕ) → Found n p r → unwrap_or r n ≡ lowest n p
lowest-found n p None h = sym (lowest-none n p h)
lowest-found n p (Some k) h = sym (lowest-is n p k h.0 h.1 h.2)

pub lowest-option : (n : ℕ) (p : Items) (r : Option ℕ) → Found n p r
    → MatchOption r (lowest n p ≡ n) (λ m. (m < n) × (m ≡ lowest n p))
lowest-option n p None h = lowest-none n p h
lowest-option n p (Some k) h = (h.0, sym (lowest-is n p k h.0 h.1 h.2))

pub lowest-same : (n : ℕ) (p q : Items) → ((i : ℕ) → i < n → p i ≡ q i) → lowest n p ≡ lowest n q
unfolding lowest
lowest-same zero p q h = refl
lowest-same (suc n) p q h =
    rw (
      h 0 (omega arith),
      lowest-same n (λ i. p (suc i)) (λ i. q (suc i)) (λ i l. h (suc i) (omega arith)),
    )
