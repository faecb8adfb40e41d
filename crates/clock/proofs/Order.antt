-- Clocks are ordered by dominates, and join is the least clock above two.
-- covering-not, covers-standing, rivals-standing: what document 01 says of both. dominates-..: an
-- order.
-- join-..: the least upper bound. present-..: who is in a clock.
-- Assumes nothing.
use mathlib.Core.Path.{◌≡◌, refl, sym, ◌∙◌, fun_ext}
use mathlib.Core.Bool.{Bool, true, false, not, ◌&&◌, ◌||◌, So}
use mathlib.Core.Logic.{◌↔◌, ◌⊎◌, inl, inr}
use Prim.Native.Nat.{ℕ, ◌≤◌, ◌<◌, max}
use native.Mathlib.Omega.{arith}
use lib.Bits.{bit_or, or_zero_l, or_comm, or_add_and, and_le_l}
use lib.Dec.{leb}
use Rattle.words.proofs.Bools.{test, clash, not-intro, not_elim, leb-le, le-leb, leb-gt}
use Rattle.words.proofs.Tests.{any-intro, any_some, any_same}
use Rattle.clock.specs.Clock.{Clock, exceeds, standing_of, standing, covering, dominates, Dominates, rivalling, concurrent, present, join}
use Rattle.clock.proofs.Standings.{exceeds-none, exceeds-no}

-- ---- covering and rivals, by what document 01 says of them

-- It covers the other exactly if no count of the other is larger.
pub covering-not : (W : ℕ) (p q : Clock) → covering (standing W p q) ≡ not (exceeds W q p)
unfolding standing
covering-not W p q = cases (exceeds W p q) (exceeds W q p)
  where
    cases : (a b : Bool) → covering (standing_of a b) ≡ not b
    cases false false = refl
    cases false true = refl
    cases true false = refl
    cases true true = refl

-- "Clock p covers q if every count of p is at least that of q."
pub covers-standing : (W : ℕ) (p q : Clock)
    → So (dominates W p q) ↔ ((w : ℕ) → w < W → q w ≤ p w)
unfolding dominates
covers-standing W p q = (
  λ s. exceeds-none W q p (not_elim (sym (covering-not W p q) ∙ s)),
  λ c. covering-not W p q ∙ not-intro (exceeds-no W q p c),
)

-- "Two clocks are rivals if neither covers the other."
pub rivals-standing : (W : ℕ) (p q : Clock)
    → concurrent W p q ≡ not (dominates W p q) && not (dominates W q p)
unfolding concurrent dominates standing
rivals-standing W p q = cases (exceeds W p q) (exceeds W q p)
  where
    cases : (a b : Bool) → rivalling (standing_of a b)
        ≡ not (covering (standing_of a b)) && not (covering (standing_of b a))
    cases false false = refl
    cases false true = refl
    cases true false = refl
    cases true true = refl

-- ---- an order

pub dominates-refl : (W : ℕ) (p : Clock) → Dominates W p p
dominates-refl W p w l = omega arith

pub dominates-trans : (W : ℕ) (p q r : Clock) → Dominates W p q → Dominates W q r → Dominates W p r
dominates-trans W p q r a b w l = omega (arith, a w l, b w l)

pub dominates_antisym : (W : ℕ) (p q : Clock) → Dominates W p q → Dominates W q p
    → (w : ℕ) → w < W → p w ≡ q w
dominates_antisym W p q a b w l = omega (arith, a w l, b w l)

-- ---- join, the least upper bound

pub join-left : (W : ℕ) (p q : Clock) → Dominates W (join p q) p
unfolding join
join-left W p q w l = omega arith

pub join-right : (W : ℕ) (p q : Clock) → Dominates W (join p q) q
unfolding join
join-right W p q w l = omega arith

pub join-least : (W : ℕ) (p q r : Clock) → Dominates W r p → Dominates W r q
    → Dominates W r (join p q)
unfolding join
join-least W p q r a b w l = omega (arith, a w l, b w l)

-- With no bound on the writers clocks are equal as functions.
pub join-comm : (p q : Clock) → join p q ≡ join q p
unfolding join
join-comm p q = fun_ext (λ w. omega arith)

pub join-assoc : (p q r : Clock) → join (join p q) r ≡ join p (join q r)
unfolding join
join-assoc p q r = fun_ext (λ w. omega arith)

pub join-idem : (p : Clock) → join p p ≡ p
unfolding join
join-idem p = fun_ext (λ w. omega arith)

-- ---- who is in a clock

pub present-some : (W : ℕ) (p : Clock) → So (present W p) → (w : ℕ) × (w < W) × (1 ≤ p w)
unfolding present
present-some W p s =
    let r = any_some W (λ w. leb 1 (p w)) s in (r.0, r.1, leb-le 1 (p r.0) r.2)

pub present-intro : (W : ℕ) (p : Clock) (w : ℕ) → w < W → 1 ≤ p w → So (present W p)
unfolding present
present-intro W p w l h = any-intro W (λ w. leb 1 (p w)) w l (le-leb 1 (p w) h)

-- Two counts taken together.
pub or-present : (a b : ℕ) → leb 1 (bit_or a b) ≡ leb 1 a || leb 1 b
or-present a b =
    test (leb 1 a)
    (λ y. rw (
      y,
      le-leb 1 (bit_or a b)
          (omega (arith, leb-le 1 a y, or_comm a b, or_add_and b a, and_le_l b a)),
    ))
    (λ n. let e : a ≡ 0 = omega (arith, leb-gt 1 a n) in rw (e, or_zero_l b))

pub present-mono : (W : ℕ) (p q : Clock) → Dominates W p q → So (present W q) → So (present W p)
present-mono W p q c s =
    let r = present-some W q s in
    present-intro W p r.0 r.1 (omega (arith, r.2, c r.0 r.1))

-- Only counts below W matter.
pub present-same : (W : ℕ) (p q : Clock) → ((w : ℕ) → w < W → p w ≡ q w)
    → present W p ≡ present W q
unfolding present
present-same W p q h = any_same W (λ w. leb 1 (p w)) (λ w. leb 1 (q w)) (λ w l. rw (h w l))

-- A clock in which nobody is present is zero.
pub absent : (W : ℕ) (p : Clock) → present W p ≡ false → (w : ℕ) → w < W → p w ≡ 0
absent W p n w l =
    test (leb 1 (p w))
    (λ y. clash (present-intro W p w l (leb-le 1 (p w) y)) n)
    (λ y. omega (arith, leb-gt 1 (p w) y))

pub join-present : (W : ℕ) (p q : Clock) → So (present W (join p q))
    → So (present W p) ⊎ So (present W q)
unfolding join
join-present W p q s =
    let r = present-some W (join p q) s in
    let h : 1 ≤ max (p r.0) (q r.0) = r.2 in
    test (leb 1 (p r.0))
    (λ y. inl (present-intro W p r.0 r.1 (omega (arith, leb-le))))
    (λ n. inr (present-intro W q r.0 r.1 (omega (arith, leb-gt))))
