-- Laws of histories: the issue on top, those below it, and the computed past.
-- writerOf-, saved-, readBy-, rows-, past- with top or low: at the issue on top, or below it.
-- leads-: what comes straight before the issue on top. top_past: its past, and the ways into it.
-- past-laws: the laws that later proofs use.
-- Assumes nothing.
use mathlib.Core.Path.{◌≡◌, refl}
use mathlib.Core.Bool.{◌&&◌, ◌||◌, So, cond, false≢true}
use mathlib.Core.Logic.{◌⊎◌, inl, inr}
use mathlib.Core.List.{[], ◌∷◌}
use Prim.Native.Nat.{ℕ, ◌≤◌, ◌<◌}
use native.Mathlib.Omega.{arith}
use native.Mathlib.Nat.{not-suc-le-zero}
use lib.Dec.{eqb}
use lib.ListN.{length}
use Rattle.words.specs.Tests.{Items, any_below}
use Rattle.words.proofs.Bools.{test, ◌∙˙◌, and_intro, and_left, and_right, or_left, or_right, or_cases, eqb-eq, eq-eqb, ne_eqb}
use Rattle.words.proofs.Tests.{below-cases, any-intro, any_some}
use Rattle.history.specs.History.{Issue, History, writer_of, saved, read_by, rows_of, leads, in_past}
use Rattle.history.proofs.Notions.{PastLaws}

-- ---- the issue on top, and those below it

at_top : (n : ℕ) {A : Type 0} (x y : A) → cond (eqb n n) x y ≡ x
at_top n x y = rw (eq-eqb n n refl)

below_top : (i n : ℕ) {A : Type 0} (x y : A) → i < n → cond (eqb i n) x y ≡ y
below_top i n x y l = rw (ne_eqb i n (λ e. omega arith))

pub writer_of_top : (e : Issue) (h : History) → writer_of (e ∷ h) (length h) ≡ e.writer
unfolding writer_of
writer_of_top e h = at_top (length h) _ _

pub writer_of_low : (e : Issue) (h : History) (i : ℕ) → i < length h
    → writer_of (e ∷ h) i ≡ writer_of h i
unfolding writer_of
writer_of_low e h i l = below_top i (length h) _ _ l

pub saved-top : (e : Issue) (h : History) (d : ℕ) → saved (e ∷ h) d (length h) ≡ e.keys d
unfolding saved
saved-top e h d = at_top (length h) _ _

pub saved_low : (e : Issue) (h : History) (d i : ℕ) → i < length h
    → saved (e ∷ h) d i ≡ saved h d i
unfolding saved
saved_low e h d i l = below_top i (length h) _ _ l

pub read_by_top : (e : Issue) (h : History) (d j : ℕ) → read_by (e ∷ h) (length h) d j ≡ e.read d j
unfolding read_by
read_by_top e h d j = at_top (length h) _ _

pub read_by_low : (e : Issue) (h : History) (i d j : ℕ) → i < length h
    → read_by (e ∷ h) i d j ≡ read_by h i d j
unfolding read_by
read_by_low e h i d j l = below_top i (length h) _ _ l

-- Only issues of the history have writes.
pub saved-below : (h : History) (d i : ℕ) → So (saved h d i) → i < length h
unfolding saved
saved-below [] d i p = absurd (false≢true p)
saved-below (e ∷ h) d i p =
    test (eqb i (length h)) (λ y. omega (arith, eqb-eq i (length h) y))
    (λ n. omega (arith, saved-below h d i (rw n at p)))

-- Only issues of the history have read.
pub rows-top : (e : Issue) (h : History) → rows_of (e ∷ h) (length h) ≡ e.rows
unfolding rows_of
rows-top e h = at_top (length h) _ _

pub rows-low : (e : Issue) (h : History) (i : ℕ) → i < length h → rows_of (e ∷ h) i ≡ rows_of h i
unfolding rows_of
rows-low e h i l = below_top i (length h) _ _ l

pub read_by_below : (h : History) (i d j : ℕ) → So (read_by h i d j) → i < length h
unfolding read_by
read_by_below [] i d j p = absurd (false≢true p)
read_by_below (e ∷ h) i d j p =
    test (eqb i (length h)) (λ y. omega (arith, eqb-eq i (length h) y))
    (λ n. omega (arith, read_by_below h i d j (rw n at p)))

-- ---- what comes straight before the issue on top

pub leads-writer : (K : ℕ) (e : Issue) (h : History) (i : ℕ) → writer_of h i ≡ e.writer
    → So (leads K e h i)
unfolding leads
leads-writer K e h i p =
    or_left (any_below K (λ d. e.read d i)) (eq-eqb (writer_of h i) e.writer p)

pub leads-read : (K : ℕ) (e : Issue) (h : History) (i d : ℕ) → d < K → So (e.read d i)
    → So (leads K e h i)
unfolding leads
leads-read K e h i d l p =
    or_right (eqb (writer_of h i) e.writer) (any-intro K (λ d. e.read d i) d l p)

pub leads-from : (K : ℕ) (e : Issue) (h : History) (i : ℕ) → So (leads K e h i)
    → (writer_of h i ≡ e.writer) ⊎ ((d : ℕ) × (d < K) × So (e.read d i))
unfolding leads
leads-from K e h i p =
    elim (or_cases (eqb (writer_of h i) e.writer) (any_below K (λ d. e.read d i)) p) [
      | inl q ↦ inl (eqb-eq (writer_of h i) e.writer q)
      | inr q ↦ inr (any_some K (λ d. e.read d i) q)
    ]

-- ---- the past of the issue on top

unfoldable pub top_past : ℕ → Issue → History → ℕ → Items
top_past K e h d j =
    (eqb j (length h) && e.keys d) || any_below (length h) (λ x. leads K e h x && in_past K h x d
    j)

pub past_top : (K : ℕ) (e : Issue) (h : History) (d j : ℕ)
    → in_past K (e ∷ h) (length h) d j ≡ top_past K e h d j
unfolding in_past top_past
past_top K e h d j = at_top (length h) _ _

pub past-low : (K : ℕ) (e : Issue) (h : History) (i d j : ℕ) → i < length h
    → in_past K (e ∷ h) i d j ≡ in_past K h i d j
unfolding in_past
past-low K e h i d j l = below_top i (length h) _ _ l

-- Its own writes.
pub top_past-own : (K : ℕ) (e : Issue) (h : History) (d : ℕ) → So (e.keys d)
    → So (top_past K e h d (length h))
unfolding top_past
top_past-own K e h d p = or_left _ (and_intro (eq-eqb (length h) (length h) refl) p)

-- The past of an issue that comes straight before it.
pub top_past-via : (K : ℕ) (e : Issue) (h : History) (d j i : ℕ) → i < length h
    → So (leads K e h i) → So (in_past K h i d j) → So (top_past K e h d j)
unfolding top_past
top_past-via K e h d j i l p q =
    or_right (eqb j (length h) && e.keys d)
    (any-intro (length h) (λ x. leads K e h x && in_past K h x d j) i l (and_intro p q))

-- Nothing else.
pub top_past-from : (K : ℕ) (e : Issue) (h : History) (d j : ℕ) → So (top_past K e h d j)
    → ((j ≡ length h) × So (e.keys d))
    ⊎ ((i : ℕ) × (i < length h) × So (leads K e h i) × So (in_past K h i d j))
unfolding top_past
top_past-from K e h d j p =
    let n = length h in
    let via : Items = λ x. leads K e h x && in_past K h x d j in
    elim (or_cases (eqb j n && e.keys d) (any_below n via) p) [
      | inl q ↦
          inl (eqb-eq j n (and_left (eqb j n) (e.keys d) q), and_right (eqb j n) (e.keys d) q)
      | inr q ↦
          let r = any_some n via q in
          let a = leads K e h r.0 in
          let b = in_past K h r.0 d j in
          inr (r.0, r.1, and_left a b r.2, and_right a b r.2)
    ]

-- ---- the laws of the past

past_bound : (K : ℕ) (h : History) (i d j : ℕ) → i < length h → So (in_past K h i d j)
    → (j ≤ i) × So (saved h d j)
past_bound K [] i d j l p = absurd (not-suc-le-zero l)
past_bound K (e ∷ h) i d j l p =
    below-cases i (length h) l
    (λ q. elim (top_past-from K e h d j (past_top K e h d j ∙˙ (rw q at p))) [
      | inl u ↦ (omega arith, rw (u.0, saved-top e h d) u.1)
      | inr u ↦
          let r = past_bound K h u.0 d j u.1 u.3 in
          (omega arith, rw (saved_low e h d j (omega arith)) r.1)
    ])
    (λ q.
    let r = past_bound K h i d j q (past-low K e h i d j q ∙˙ p) in
    (r.0, rw (saved_low e h d j (omega arith)) r.1))

past-own : (K : ℕ) (h : History) (i d : ℕ) → i < length h → So (saved h d i)
    → So (in_past K h i d i)
past-own K [] i d l p = absurd (not-suc-le-zero l)
past-own K (e ∷ h) i d l p =
    below-cases i (length h) l
    (λ q. rw (q, past_top K e h d (length h))
    (top_past-own K e h d (saved-top e h d ∙˙ (rw q at p))))
    (λ q. rw (past-low K e h i d i q) (past-own K h i d q (saved_low e h d i q ∙˙ p)))

past-session : (K : ℕ) (h : History) (i d j : ℕ) → i < length h → j ≤ i
    → writer_of h j ≡ writer_of h i → So (saved h d j) → So (in_past K h i d j)
past-session K [] i d j l o w p = absurd (not-suc-le-zero l)
past-session K (e ∷ h) i d j l o w p =
    below-cases j i (omega arith) (λ q. rw q (past-own K (e ∷ h) i d l (rw q at p)))
    (λ less.
    let k : j < length h = omega arith in
    let low : So (saved h d j) = saved_low e h d j k ∙˙ p in
    below-cases i (length h) l
    (λ q.
    let v : writer_of h j ≡ e.writer = cc (writer_of_low e h j k, writer_of_top e h) in
    rw (q, past_top K e h d j)
    (top_past-via K e h d j j k (leads-writer K e h j v) (past-own K h j d k low)))
    (λ q.
    let v : writer_of h j ≡ writer_of h i = cc (writer_of_low e h j k, writer_of_low e h i q) in
    rw (past-low K e h i d j q) (past-session K h i d j q o v low)))

past-trans : (K : ℕ) (h : History) (i d j e k : ℕ) → i < length h
    → So (in_past K h i d j) → So (in_past K h j e k) → So (in_past K h i e k)
past-trans K [] i d j e k l p q = absurd (not-suc-le-zero l)
past-trans K (t ∷ h) i d j e k l p q =
    below-cases i (length h) l
    (λ s. elim (top_past-from K t h d j (past_top K t h d j ∙˙ (rw s at p))) [
      | inl u ↦ let z : i ≡ j = omega arith in rw z q
      | inr u ↦
          let b = past_bound K h u.0 d j u.1 u.3 in
          let r : So (in_past K h j e k) = past-low K t h j e k (omega arith) ∙˙ q in
          rw (s, past_top K t h e k)
          (top_past-via K t h e k u.0 u.1 u.2
          (past-trans K h u.0 d j e k u.1 u.3 r))
    ])
    (λ s.
    let r = past-low K t h i d j s ∙˙ p in
    let b = past_bound K h i d j s r in
    rw (past-low K t h i e k s)
    (past-trans K h i d j e k s r (past-low K t h j e k (omega arith) ∙˙ q)))

pub past-laws : (K : ℕ) (h : History) → PastLaws K h
past-laws K h = record {
  bound = past_bound K h;
  own = past-own K h;
  session = past-session K h;
  trans = past-trans K h;
}
