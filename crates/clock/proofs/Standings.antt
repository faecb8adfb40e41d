-- The four ways in which two clocks stand.
-- exceeds-..: some count is larger. standing-view: what holds in each of the four.
-- standing-equal, -below, -newer, -self, -flip, -same. differing-more, -not, -newer: what differs,
-- and what doesn't.
-- Assumes nothing.
use mathlib.Core.Path.{◌≡◌, refl, ap₂}
use mathlib.Core.Bool.{Bool, true, false, not, ◌||◌, So}
use mathlib.Core.Logic.{◌↔◌, ◌⊎◌, inl, inr}
use Prim.Native.Nat.{ℕ, ◌+◌, ◌≤◌, ◌<◌}
use native.Mathlib.Omega.{arith}
use lib.Dec.{ltb, eqb}
use Rattle.words.proofs.Bools.{test, clash, ltb-lt, lt-ltb, ltb-ge, ge-ltb, eq-eqb, ne_eqb}
use Rattle.words.proofs.Tests.{any-intro, any_some, any_none, any-no, any_same, any-more}
use Rattle.clock.specs.declared.Standing.{Standing}
use Rattle.clock.specs.declared.Standing.TheVariants.{Equal, Older, Newer, Rival}
use Rattle.clock.specs.Clock.{Clock, exceeds, standing_of, standing, flipped, Dominates, differing}

-- ---- some count is larger

abbrev pub Larger : ℕ → Clock → Clock → Type 0
Larger W p q = (w : ℕ) × (w < W) × (q w < p w)

module _ (W : ℕ) (p q : Clock) where
  abbrev larger : ℕ → Bool
  larger w = ltb (q w) (p w)

  pub exceeds-some : So (exceeds W p q) → Larger W p q
  unfolding exceeds
  exceeds-some s =
      let r = any_some W larger s in
      (r.0, r.1, ltb-lt (q r.0) (p r.0) r.2)

  pub exceeds-intro : Larger W p q → So (exceeds W p q)
  unfolding exceeds
  exceeds-intro r = any-intro W larger r.0 r.1 (lt-ltb (q r.0) (p r.0) r.2)

  -- Otherwise the other clock covers it.
  pub exceeds-none : exceeds W p q ≡ false → Dominates W q p
  unfolding exceeds
  exceeds-none n w l = ltb-ge (q w) (p w) (any_none W larger n w l)

  pub exceeds-no : Dominates W q p → exceeds W p q ≡ false
  unfolding exceeds
  exceeds-no c = any-no W larger (λ w l. ge-ltb (q w) (p w) (c w l))

-- The turn of a loop.
pub exceeds-more : (p q : Clock) (n : ℕ)
    → exceeds (n + 1) p q ≡ exceeds n p q || ltb (q n) (p n)
unfolding exceeds
exceeds-more p q n = any-more (λ w. ltb (q w) (p w)) n

-- ---- the standing

-- In each of the four: which clock covers the other, and which has a larger count.
abbrev pub View : ℕ → Clock → Clock → Standing → Type 0
View W p q Equal = Dominates W p q × Dominates W q p
View W p q Older = Dominates W q p × Larger W q p
View W p q Newer = Dominates W p q × Larger W p q
View W p q Rival = Larger W p q × Larger W q p

module _ (W : ℕ) (p q : Clock) where
  pub standing-view : View W p q (standing W p q)
  unfolding standing
  standing-view = cases (exceeds W p q) (exceeds W q p) refl refl
    where
      cases : (a b : Bool) → exceeds W p q ≡ a → exceeds W q p ≡ b → View W p q (standing_of a b)
      cases false false e f = (exceeds-none W q p f, exceeds-none W p q e)
      cases false true e f = (exceeds-none W p q e, exceeds-some W q p f)
      cases true false e f = (exceeds-none W q p f, exceeds-some W p q e)
      cases true true e f = (exceeds-some W p q e, exceeds-some W q p f)

  -- Equal exactly if all counts are.
  pub standing-equal : (standing W p q ≡ Equal) ↔ ((w : ℕ) → w < W → p w ≡ q w)
  unfolding standing
  standing-equal = (there, back)
    where
      there : standing W p q ≡ Equal → (w : ℕ) → w < W → p w ≡ q w
      there e w l =
          let v : View W p q Equal = rw e at standing-view in
          omega (arith, v.0 w l, v.1 w l)

      back : ((w : ℕ) → w < W → p w ≡ q w) → standing W p q ≡ Equal
      back h =
          rw (
            exceeds-no W p q (λ w l. omega (arith, h w l)),
            exceeds-no W q p (λ w l. omega (arith, h w l)),
          )

  behind : Dominates W q p → (standing W p q ≡ Equal) ⊎ (standing W p q ≡ Older)
  unfolding standing
  behind c = rw (exceeds-no W p q c) (cases (exceeds W q p))
    where
      cases : (b : Bool) → (standing_of false b ≡ Equal) ⊎ (standing_of false b ≡ Older)
      cases false = inl refl
      cases true = inr refl

  -- A clock that is covered is equal or older, and the other way round.
  pub standing-below : Dominates W q p ↔ ((standing W p q ≡ Equal) ⊎ (standing W p q ≡ Older))
  standing-below = (behind, back)
    where
      back : (standing W p q ≡ Equal) ⊎ (standing W p q ≡ Older) → Dominates W q p
      back (inl e) =
          let v : View W p q Equal = rw e at standing-view in
          v.1
      back (inr e) =
          let v : View W p q Older = rw e at standing-view in
          v.0

  -- Newer exactly if it covers the other and some count is larger.
  pub standing-newer : (standing W p q ≡ Newer) ↔ (Dominates W p q × Larger W p q)
  unfolding standing
  standing-newer = (
    λ e. rw e at standing-view,
    λ v. rw (exceeds-intro W p q v.1, exceeds-no W q p v.0),
  )

pub standing-self : (W : ℕ) (p : Clock) → standing W p p ≡ Equal
standing-self W p = (standing-equal W p p).1 (λ w l. refl)

-- Seen from the other clock.
pub standing-flip : (W : ℕ) (p q : Clock) → standing W q p ≡ flipped (standing W p q)
unfolding standing
standing-flip W p q = cases (exceeds W p q) (exceeds W q p)
  where
    cases : (a b : Bool) → standing_of b a ≡ flipped (standing_of a b)
    cases false false = refl
    cases false true = refl
    cases true false = refl
    cases true true = refl

-- Only counts below W matter.
pub standing-same : (W : ℕ) (p p' q q' : Clock)
    → ((w : ℕ) → w < W → p w ≡ p' w) → ((w : ℕ) → w < W → q w ≡ q' w)
    → standing W p q ≡ standing W p' q'
unfolding standing exceeds
standing-same W p p' q q' h k =
    ap₂ standing_of
    (any_same W (λ w. ltb (q w) (p w)) (λ w. ltb (q' w) (p' w)) (λ w l. rw (h w l, k w l)))
    (any_same W (λ w. ltb (p w) (q w)) (λ w. ltb (p' w) (q' w)) (λ w l. rw (h w l, k w l)))

-- Two counts differ if one of them is the larger.
unequal : (m n : ℕ) → not (eqb m n) ≡ ltb n m || ltb m n
unequal m n =
    test (ltb n m)
    (λ y. rw (y, ne_eqb m n (λ e. clash y (ge-ltb n m (omega (arith, e))))))
    (λ no. rw (no, less (ltb-ge n m no)))
  where
    less : m ≤ n → not (eqb m n) ≡ ltb m n
    less h =
        test (ltb m n)
        (λ y. rw (y, ne_eqb m n (λ e. clash y (ge-ltb m n (omega (arith, e))))))
        (λ no. rw (no, eq-eqb m n (omega (arith, h, ltb-ge m n no))))

-- The turn of a loop.
pub differing-more : (a b : Bool) (m n : ℕ)
    → differing (standing_of (a || ltb n m) (b || ltb m n))
    ≡ differing (standing_of a b) || not (eqb m n)
differing-more a b m n =
    rw (unequal m n, either, either) (turned a (ltb n m) b (ltb m n))
  where
    either : (a b : Bool) → differing (standing_of a b) ≡ a || b
    either false false = refl
    either false true = refl
    either true false = refl
    either true true = refl

    turned : (a x b y : Bool) → (a || x) || (b || y) ≡ (a || b) || (x || y)
    turned true x b y = refl
    turned false false b y = refl
    turned false true false y = refl
    turned false true true y = refl

-- A standing that isn't differing is equal.
pub differing-not : (x : Standing) → differing x ≡ false → x ≡ Equal
differing-not Equal e = refl
differing-not Older e = clash refl e
differing-not Newer e = clash refl e
differing-not Rival e = clash refl e

-- One that is, with no smaller count, is newer.
pub differing-newer : (a : Bool) → So (differing (standing_of a false)) → standing_of a false ≡
    Newer
differing-newer false s = clash s refl
differing-newer true s = refl
