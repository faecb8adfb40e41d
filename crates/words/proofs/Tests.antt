-- Laws of tests of every number below a bound.
-- Assumes nothing.
use mathlib.Core.Path.{◌≡◌, refl, sym, ap, ◌∙◌}
use mathlib.Core.Bool.{Bool, true, false, not, ◌&&◌, ◌||◌, So, false≢true}
use mathlib.Core.Logic.{◌⊎◌, inl, inr}
use Prim.Native.Nat.{ℕ, zero, suc, ◌+◌, ◌*◌, ◌≤◌, ◌<◌}
use native.Mathlib.Omega.{arith}
use native.Mathlib.Nat.{not-suc-le-zero}
use native.Mathlib.Numerals.{add-one}
use native.Mathlib.Decide.{dec_lt, ℕ_discrete}
use Rattle.words.specs.Tests.{Items, any_below, all_below}
use Rattle.words.proofs.Bools.{and_intro, and_left, and_right, and-false-right, or_left, or_right, or_cases, or-none, or-false-right}

-- Below `suc n`: the last one, or below n.
pub below-cases {ℓ} : {X : Type ℓ} (i n : ℕ) → i < suc n → (i ≡ n → X) → (i < n → X) → X
below-cases i n h f g = elim (ℕ_discrete i n) [ yes e ↦ f e | no e ↦ g (omega arith) ]

pub below_or_not : (i n : ℕ) → (i < n) ⊎ (n ≤ i)
below_or_not i n = elim (dec_lt i n) [ yes h ↦ inl h | no h ↦ inr (omega arith) ]

-- ---- some number

pub any-intro : (n : ℕ) (p : Items) (i : ℕ) → i < n → So (p i) → So (any_below n p)
unfolding any_below
any-intro zero p i h q = absurd (not-suc-le-zero h)
any-intro (suc n) p i h q =
    below-cases i n h (λ e. or_right (any_below n p) (rw e at q))
    (λ l. or_left (p n) (any-intro n p i l q))

pub any_some : (n : ℕ) (p : Items) → So (any_below n p) → (i : ℕ) × (i < n) × So (p i)
unfolding any_below
any_some zero p q = absurd (false≢true q)
any_some (suc n) p q =
    elim (or_cases (any_below n p) (p n) q) [
      | inl r ↦ let s = any_some n p r in (s.0, omega arith, s.2)
      | inr r ↦ (n, omega arith, r)
    ]

pub any_none : (n : ℕ) (p : Items) → any_below n p ≡ false → (i : ℕ) → i < n → p i ≡ false
unfolding any_below
any_none zero p h i l = absurd (not-suc-le-zero l)
any_none (suc n) p h i l =
    let r = or-none (any_below n p) (p n) h in
    below-cases i n l (λ e. rw e r.1) (λ k. any_none n p r.0 i k)

pub any-no : (n : ℕ) (p : Items) → ((i : ℕ) → i < n → p i ≡ false) → any_below n p ≡ false
unfolding any_below
any-no zero p h = refl
any-no (suc n) p h = rw (any-no n p (λ i l. h i (omega arith)), h n (omega arith))

pub any_same : (n : ℕ) (p q : Items) → ((i : ℕ) → i < n → p i ≡ q i) → any_below n p ≡ any_below n
    q
unfolding any_below
any_same zero p q h = refl
any_same (suc n) p q h = rw (any_same n p q (λ i l. h i (omega arith)), h n (omega arith))

pub any-more : (p : Items) (n : ℕ) → any_below (n + 1) p ≡ any_below n p || p n
unfolding any_below
any-more p n = rw add-one

-- ---- every number

pub all-intro : (n : ℕ) (p : Items) → ((i : ℕ) → i < n → So (p i)) → So (all_below n p)
unfolding all_below
all-intro zero p h = refl
all-intro (suc n) p h = and_intro (all-intro n p (λ i l. h i (omega arith))) (h n (omega arith))

pub all-at : (n : ℕ) (p : Items) → So (all_below n p) → (i : ℕ) → i < n → So (p i)
unfolding all_below
all-at zero p q i h = absurd (not-suc-le-zero h)
all-at (suc n) p q i h =
    below-cases i n h (λ e. rw e (and_right (all_below n p) (p n) q))
    (λ l. all-at n p (and_left (all_below n p) (p n) q) i l)

pub all-no : (n : ℕ) (p : Items) (i : ℕ) → i < n → p i ≡ false → all_below n p ≡ false
unfolding all_below
all-no zero p i k e = absurd (not-suc-le-zero k)
all-no (suc n) p i k e =
    below-cases i n k
    (λ q. ap (λ (j : ℕ). all_below n p && p j) (sym q) ∙ rw (e, and-false-right))
    (λ m. rw (all-no n p i m e))

pub all_same : (n : ℕ) (p q : Items) → ((i : ℕ) → i < n → p i ≡ q i) → all_below n p ≡ all_below n
    q
unfolding all_below
all_same zero p q h = refl
all_same (suc n) p q h = rw (all_same n p q (λ i l. h i (omega arith)), h n (omega arith))

-- The turn of a loop that counts up.
pub all_more : (p : Items) (n : ℕ) → all_below (n + 1) p ≡ all_below n p && p n
unfolding all_below
all_more p n = rw add-one

pub all_yes : (p : Items) (n : ℕ) → So (all_below n p) → So (p n) → So (all_below (n + 1) p)
all_yes p n h k = rw (all_more, h, k)

-- ---- by rows

or_assoc : (a b c : Bool) → (a || b) || c ≡ a || (b || c)
or_assoc true b c = refl
or_assoc false b c = refl

pub any-plus : (p : Items) (m n : ℕ)
    → any_below (m + n) p ≡ any_below m p || any_below n (λ i. p (m + i))
unfolding any_below
any-plus p m zero =
    let e : m + 0 ≡ m = omega arith in
    rw e (sym (or-false-right (any_below m p)))
any-plus p m (suc n) =
    let e : m + suc n ≡ suc (m + n) = omega arith in
    rw (e, any-plus p m n) (or_assoc (any_below m p) (any_below n (λ i. p (m + i))) (p (m + n)))

pub any-rows : (p : Items) (W K : ℕ)
    → any_below (K * W) p ≡ any_below K (λ d. any_below W (λ w. p (d * W + w)))
unfolding any_below
any-rows p W zero =
    let e : 0 * W ≡ 0 = omega arith in
    rw e
any-rows p W (suc K) =
    let e : suc K * W ≡ K * W + W = omega arith in
    rw (e, any-plus p (K * W) W, any-rows p W K)

pub all-not : (n : ℕ) (p : Items) → all_below n (λ i. not (p i)) ≡ not (any_below n p)
unfolding any_below all_below
all-not zero p = refl
all-not (suc n) p = rw (all-not n p) (not-or (any_below n p) (p n))
  where
    not-or : (a b : Bool) → not a && not b ≡ not (a || b)
    not-or true b = refl
    not-or false b = refl
