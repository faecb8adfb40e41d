-- Laws of versions and of their merge (document 01, "Clocks, versions, cuts"; CR 3).
-- Blank: says nothing where not held. merge-cases: who is held. merge-left, -right, -least: the
-- least upper bound of held sides. merge-issue, -past: the larger number and counts.
-- merge-idem, -comm: where what is not held is blank.
-- Assumes nothing.
use mathlib.Core.Path.{◌≡◌, refl, sym, ap, ap₂, ◌∙◌, fun_ext}
use mathlib.Core.Bool.{Bool, true, false, cond, ◌&&◌, ◌||◌, So}
use mathlib.Core.Logic.{◌⊎◌, inl, inr, ◌↔◌}
use Prim.Native.Nat.{ℕ, ◌≤◌, ◌<◌, ◌^◌, max}
use native.Mathlib.Omega.{arith}
use lib.Dec.{eqb, leb, ltb}
use Rattle.words.proofs.Bools.{test, clash, and-false-right, or_left, or_right, or_true_right, or-false-right, leb-le, le-leb, leb-gt, ge-ltb, eq-eqb, ne_eqb, eqb-ne, eqb-sym}
use Rattle.masks.proofs.Sets.{mask_lt, mask-same, mask-of, set-none}
use Rattle.masks.specs.Mask.{test_bit, mask_below}
use Rattle.clock.specs.Clock.{Clock, Dominates, present, join}
use Rattle.clock.proofs.Order.{dominates-refl, join-left, join-right, join-least, join-comm, join-idem, join-present}
use Rattle.model.specs.Version.{Version, zero_past, unheld, held, leads_on, merged_leaders, larger, merge}

-- ---- versions

pub version-path : {a b : Version} → a.issue ≡ b.issue → a.leaders ≡ b.leaders
    → a.past ≡ b.past → a ≡ b
version-path p m q i = record { issue = p i; leaders = m i; past = q i }

pub held-iff : (v : Version) → So (held v) ↔ 1 ≤ v.issue
unfolding held
held-iff v = (leb-le 1 v.issue, le-leb 1 v.issue)

pub held-unheld : held unheld ≡ false
unfolding held
held-unheld = refl

pub unheld-issue : (v : Version) → held v ≡ false → v.issue ≡ 0
unfolding held
unheld-issue v n = omega (arith, leb-gt 1 v.issue n)

-- A version that is not held says nothing at all.
abbrev pub Blank : Version → Type 0
Blank v = held v ≡ false → v ≡ unheld

-- ---- leading writers of a merge

or_comm : (a b : Bool) → a || b ≡ b || a
or_comm true b = sym (or_true_right b)
or_comm false b = sym (or-false-right b)

leads_on-comm : (m n : ℕ) (p q : Clock) (u : ℕ) → leads_on m p n q u ≡ leads_on n q m p u
unfolding leads_on
leads_on-comm m n p q u =
    ap₂ ◌||◌
    (and-swap (test_bit m u) (test_bit n u) (eqb (p u) (q u)) (eqb (q u) (p u))
    (eqb-sym (p u) (q u)))
    (or_comm (test_bit m u && ltb (q u) (p u)) (test_bit n u && ltb (p u) (q u)))
  where
    and-swap : (a b c d : Bool) → c ≡ d → a && (b && c) ≡ b && (a && d)
    and-swap true b c d e = ap (◌&&◌ b) e
    and-swap false b c d e = sym (and-false-right b)

pub leaders-comm : (W m n : ℕ) (p q : Clock)
    → merged_leaders W m p n q ≡ merged_leaders W n q m p
unfolding merged_leaders
leaders-comm W m n p q =
    rw (fun_ext (leads_on-comm m n p q), join-comm p q)

-- A mask in form, with itself.
leads_on-idem : (m : ℕ) (p : Clock) (u : ℕ) → leads_on m p m p u ≡ test_bit m u
unfolding leads_on
leads_on-idem m p u =
    rw (eq-eqb (p u) (p u) refl, ge-ltb (p u) (p u) (omega arith)) (cases (test_bit m u))
  where
    cases : (b : Bool) → (b && (b && true)) || ((b && false) || (b && false)) ≡ b
    cases true = refl
    cases false = refl

leaders-idem : (W m : ℕ) (p : Clock) → m < 2 ^ W → 1 ≤ m → merged_leaders W m p m p ≡ m
unfolding merged_leaders
leaders-idem W m p l o =
    rw (fun_ext (leads_on-idem m p), mask-of W m l, ne_eqb m 0 (λ e. absurd (omega arith)))

-- Only counts below W matter.
pub leaders-same : (W m n : ℕ) (p p' q q' : Clock) → ((u : ℕ) → u < W → p u ≡ p' u)
    → ((u : ℕ) → u < W → q u ≡ q' u) → merged_leaders W m p n q ≡ merged_leaders W m p' n q'
unfolding merged_leaders leads_on join
leaders-same W m n p p' q q' f g =
    ap₂ (λ (x y : ℕ). cond (eqb x 0) y x)
    (mask-same W (leads_on m p n q) (leads_on m p' n q') (λ u l. rw (f u l, g u l)))
    (mask-same W (λ u. leb 1 (join p q u)) (λ u. leb 1 (join p' q' u))
    (λ u l. rw (f u l, g u l)))

-- They are below W, and somebody leads where the merged row has a count.
pub leaders-lt : (W m n : ℕ) (p q : Clock) → merged_leaders W m p n q < 2 ^ W
unfolding merged_leaders
leaders-lt W m n p q =
    test (eqb (mask_below W (leads_on m p n q)) 0)
    (λ t. rw t (mask_lt W (λ u. leb 1 (join p q u)) W (omega arith)))
    (λ t. rw t (mask_lt W (leads_on m p n q) W (omega arith)))

pub leaders-some : (W m n : ℕ) (p q : Clock) → So (present W (join p q))
    → 1 ≤ merged_leaders W m p n q
unfolding merged_leaders present
leaders-some W m n p q some =
    test (eqb (mask_below W (leads_on m p n q)) 0)
    (λ t. rw t (above (mask_below W (λ u. leb 1 (join p q u)))
    (set-none W (λ u. leb 1 (join p q u)) ∙ rw some)))
    (λ t. rw t (above (mask_below W (leads_on m p n q)) t))
  where
    above : (x : ℕ) → eqb x 0 ≡ false → 1 ≤ x
    above x e = let ne = eqb-ne x 0 e in omega arith

-- ---- the larger of two versions

pub larger-held : (W k : ℕ) (a b : Version) → So (held a) → So (held (larger W k a b))
unfolding larger
larger-held W k a b p = (held-iff (larger W k a b)).1 (omega (arith, (held-iff a).0 p))

larger-comm : (W k : ℕ) (a b : Version) → larger W k a b ≡ larger W k b a
unfolding larger
larger-comm W k a b =
    version-path (omega arith) (leaders-comm W a.leaders b.leaders (a.past k) (b.past k))
    (fun_ext (λ d. join-comm (a.past d) (b.past d)))

larger-idem : (W k : ℕ) (a : Version) → a.leaders < 2 ^ W → 1 ≤ a.leaders → larger W k a a ≡ a
unfolding larger
larger-idem W k a l o =
    version-path (omega arith) (leaders-idem W a.leaders (a.past k) l o)
    (fun_ext (λ d. join-idem (a.past d)))

-- ---- merge, by who is held

module _ (W k : ℕ) where
  pub merge-both : (a b : Version) → So (held a) → So (held b) → merge W k a b ≡ larger W k a b
  unfolding merge
  merge-both a b p q = rw (p, q)

  pub merge-unheld-right : (a b : Version) → So (held a) → held b ≡ false → merge W k a b ≡ a
  unfolding merge
  merge-unheld-right a b p n = rw (p, n)

  pub merge-unheld-left : (a b : Version) → held a ≡ false → merge W k a b ≡ b
  unfolding merge
  merge-unheld-left a b n = rw n

  pub merge-cases {ℓ} : (P : Version → Type ℓ) (a b : Version)
      → (So (held a) → So (held b) → P (larger W k a b))
      → (So (held a) → held b ≡ false → P a) → (held a ≡ false → P b) → P (merge W k a b)
  merge-cases P a b f g h =
      test (held a)
      (λ p. test (held b)
      (λ q. rw (merge-both a b p q) (f p q))
      (λ n. rw (merge-unheld-right a b p n) (g p n)))
      (λ n. rw (merge-unheld-left a b n) (h n))

  pub held-merge : (a b : Version) → held (merge W k a b) ≡ held a || held b
  held-merge a b =
      merge-cases (λ v. held v ≡ held a || held b) a b
      (λ p q. rw (larger-held W k a b p, p))
      (λ p n. rw p)
      (λ n. rw n)

  pub merge-held-left : (a b : Version) → So (held a) → So (held (merge W k a b))
  merge-held-left a b p = held-merge a b ∙ or_left (held b) p

  pub merge-held-right : (a b : Version) → So (held b) → So (held (merge W k a b))
  merge-held-right a b p = held-merge a b ∙ or_right (held a) p

  pub merge-issue : (a b : Version) → (merge W k a b).issue ≡ max a.issue b.issue
  unfolding larger
  merge-issue a b =
      merge-cases (λ v. v.issue ≡ max a.issue b.issue) a b
      (λ p q. refl)
      (λ p n. omega (arith, unheld-issue b n))
      (λ n. omega (arith, unheld-issue a n))

  -- ---- merge, an upper bound of held sides, and the least

  pub merge-left : (d : ℕ) (a b : Version) → So (held a)
      → Dominates W ((merge W k a b).past d) (a.past d)
  unfolding larger
  merge-left d a b p =
      merge-cases (λ v. Dominates W (v.past d) (a.past d)) a b
      (λ _ _. join-left W (a.past d) (b.past d))
      (λ _ _. dominates-refl W (a.past d))
      (λ n. clash p n)

  pub merge-right : (d : ℕ) (a b : Version) → So (held b)
      → Dominates W ((merge W k a b).past d) (b.past d)
  unfolding larger
  merge-right d a b p =
      merge-cases (λ v. Dominates W (v.past d) (b.past d)) a b
      (λ _ _. join-right W (a.past d) (b.past d))
      (λ _ n. clash p n)
      (λ _. dominates-refl W (b.past d))

  pub merge-least : (d : ℕ) (a b : Version) (q : Clock) → So (held (merge W k a b))
      → (So (held a) → Dominates W q (a.past d)) → (So (held b) → Dominates W q (b.past d))
      → Dominates W q ((merge W k a b).past d)
  unfolding larger
  merge-least d a b q h f g =
      merge-cases (λ v. So (held v) → Dominates W q (v.past d)) a b
      (λ y z _. join-least W (a.past d) (b.past d) q (f y) (g z))
      (λ y _ _. f y)
      (λ _ z. g z) h

  -- Who is in a row of a merge is in that row of a held side.
  pub merge-present : (d : ℕ) (a b : Version) → So (held (merge W k a b))
      → So (present W ((merge W k a b).past d))
      → (So (held a) × So (present W (a.past d))) ⊎ (So (held b) × So (present W (b.past d)))
  unfolding larger
  merge-present d a b =
      merge-cases (λ v. So (held v) → So (present W (v.past d))
      → (So (held a) × So (present W (a.past d))) ⊎ (So (held b) × So (present W (b.past d))))
      a b
      (λ y z _ p. elim (join-present W (a.past d) (b.past d) p) [
        | inl u ↦ inl (y, u)
        | inr u ↦ inr (z, u)
      ])
      (λ y _ _ p. inl (y, p))
      (λ _ z p. inr (z, p))

  -- ---- merge, as an operation

  -- A held version's mask is in form.
  pub merge-idem : (a : Version) → (So (held a) → (a.leaders < 2 ^ W) × (1 ≤ a.leaders))
      → merge W k a a ≡ a
  merge-idem a f =
      merge-cases (λ v. v ≡ a) a a
      (λ p _. larger-idem W k a (f p).0 (f p).1) (λ _ _. refl) (λ _. refl)

  -- Where what is not held has no counts, the past is the larger at each place.
  pub merge-past : (a b : Version) → (held a ≡ false → a.past ≡ zero_past)
      → (held b ≡ false → b.past ≡ zero_past)
      → (d : ℕ) → (merge W k a b).past d ≡ join (a.past d) (b.past d)
  unfolding larger join
  merge-past a b f g d =
      merge-cases (λ v. v.past d ≡ join (a.past d) (b.past d)) a b
      (λ _ _. refl)
      (λ _ n. rw (g n) (fun_ext (λ w. omega arith)))
      (λ n. rw (f n) (fun_ext (λ w. omega arith)))

  pub merge-comm : (a b : Version) → Blank a → Blank b → merge W k a b ≡ merge W k b a
  merge-comm a b f g =
      test (held a)
      (λ p. test (held b)
      (λ q. merge-both a b p q ∙ (larger-comm W k a b ∙ sym (merge-both b a q p)))
      (λ n. merge-unheld-right a b p n ∙ sym (merge-unheld-left b a n)))
      (λ n. test (held b)
      (λ q. merge-unheld-left a b n ∙ sym (merge-unheld-right b a q n))
      (λ m. merge-unheld-left a b n ∙ (g m ∙ (sym (f n) ∙ sym (merge-unheld-left b a m)))))
