-- The computed past is what happens before (document 01: "stands behind").
-- before-past, past-before: the two ways; past-is-before: both.
-- before-below: of an issue that there is. before-order: no later. before-grow, before-settled: an
-- issue more changes nothing below it.
-- Assumes nothing.
use mathlib.Core.Path.{◌≡◌}
use mathlib.Core.Bool.{So}
use mathlib.Core.Logic.{◌⊎◌, inl, inr, ⊎_map, ◌↔◌}
use mathlib.Core.List.{[], ◌∷◌}
use Prim.Native.Nat.{ℕ, ◌≤◌, ◌<◌}
use native.Mathlib.Omega.{arith}
use native.Mathlib.Nat.{not-suc-le-zero}
use native.Mathlib.Decide.{ℕ_discrete}
use lib.ListN.{length}
use Rattle.words.proofs.Bools.{◌∙˙◌}
use Rattle.words.proofs.Tests.{below-cases}
use Rattle.history.specs.History.{Issue, History, writer_of, saved, read_by, leads, in_past, HappensBefore, HappensBefore.together, HappensBefore.earlier, HappensBefore.was_read_of, HappensBefore.chain}
use Rattle.history.proofs.Notions.{Sound}
use Rattle.history.proofs.Past.{writer_of_top, writer_of_low, saved_low, saved-below, read_by_top, read_by_low, read_by_below, leads-read, leads-from, past_top, past-low, top_past-via, top_past-from, past-laws}
use Rattle.history.proofs.Sounds.{sound-low}

-- ---- what happens before is in the past

past-read : (K W : ℕ) (h : History) → Sound K W h → (i d j : ℕ) → So (read_by h i d j)
    → So (in_past K h i d j)
past-read K W [] s i d j p = absurd (not-suc-le-zero (read_by_below [] i d j p))
past-read K W (e ∷ h) s i d j p =
    let u = s.reads i d j p in
    below-cases i (length h) (read_by_below (e ∷ h) i d j p)
    (λ q.
    let l : j < length h = omega arith in
    let lead = leads-read K e h j d u.0 (read_by_top e h d j ∙˙ (rw q at p)) in
    let own = (past-laws K h).own j d l (saved_low e h d j l ∙˙ u.2) in
    rw (q, past_top K e h d j) (top_past-via K e h d j j l lead own))
    (λ q.
    rw (past-low K e h i d j q)
    (past-read K W h (sound-low s) i d j (read_by_low e h i d j q ∙˙ p)))

pub before-below : {h : History} {d j e i : ℕ} → HappensBefore h d j e i → i < length h
before-below (together l _ _ _) = l
before-below (earlier l _ _ _ _) = l
before-below (was_read_of l _ _) = l
before-below (chain _ b) = before-below b

pub before-past : {K W : ℕ} {h : History} {d j e i : ℕ} → Sound K W h → HappensBefore h d j e i
    → So (in_past K h i d j)
before-past {K} {W} {h} s (together {d = d} {i = i} l p q n) = (past-laws K h).own i d l p
before-past {K} {W} {h} s (earlier {d = d} {j = j} {i = i} l o w p q) =
    (past-laws K h).session i d j l (omega arith) w p
before-past {K} {W} {h} s (was_read_of {d = d} {j = j} {i = i} l p q) = past-read K W h s i d j p
before-past {K} {W} {h} s (chain {d = d} {j = j} {c = c} {k = k} {i = i} a b) =
    (past-laws K h).trans i c k d j (before-below b) (before-past s b) (before-past s a)

-- What happens before a write is no later.
pub before-order : {K W : ℕ} {h : History} {d j e i : ℕ} → Sound K W h → HappensBefore h d j e i
    → j ≤ i
before-order {K} {W} {h} {d} {j} {e} {i} s b =
    ((past-laws K h).bound i d j (before-below b) (before-past s b)).0

-- ---- an issue more

-- What happens before a write still does.
pub before-grow : {h : History} {d j e i : ℕ} (t : Issue) → HappensBefore h d j e i
    → HappensBefore (t ∷ h) d j e i
before-grow {h} t (together {d = d} {e = e} {i = i} l p q n) =
    together {d = d} {e = e} {i = i} (omega arith) (rw (saved_low t h d i l) p)
    (rw (saved_low t h e i l) q) n
before-grow {h} t (earlier {d = d} {j = j} {e = e} {i = i} l o w p q) =
    let k : j < length h = omega arith in
    earlier {d = d} {j = j} {e = e} {i = i} (omega arith) o
    (cc (writer_of_low t h j k, writer_of_low t h i l)) (rw (saved_low t h d j k) p)
    (rw (saved_low t h e i l) q)
before-grow {h} t (was_read_of {d = d} {j = j} {e = e} {i = i} l p q) =
    was_read_of {d = d} {j = j} {e = e} {i = i} (omega arith) (rw (read_by_low t h i d j l) p)
    (rw (saved_low t h e i l) q)
before-grow t (chain a b) = chain (before-grow t a) (before-grow t b)

before-shrink : {K W : ℕ} {h : History} (t : Issue) {d j e i : ℕ} → Sound K W (t ∷ h)
    → i < length h → HappensBefore (t ∷ h) d j e i → HappensBefore h d j e i
before-shrink {h} t s k (together {d = d} {e = e} {i = i} l p q n) =
    together {d = d} {e = e} {i = i} k (saved_low t h d i k ∙˙ p) (saved_low t h e i k ∙˙ q) n
before-shrink {h} t s k (earlier {d = d} {j = j} {e = e} {i = i} l o w p q) =
    let m : j < length h = omega arith in
    earlier {d = d} {j = j} {e = e} {i = i} k o (cc (writer_of_low t h j m, writer_of_low t h i k))
    (saved_low t h d j m ∙˙ p) (saved_low t h e i k ∙˙ q)
before-shrink {h} t s k (was_read_of {d = d} {j = j} {e = e} {i = i} l p q) =
    was_read_of {d = d} {j = j} {e = e} {i = i} k (read_by_low t h i d j k ∙˙ p)
    (saved_low t h e i k ∙˙ q)
before-shrink {h} t s k (chain {k = m} {i = i} a b) =
    let o : m ≤ i = before-order s b in
    let l : m < length h = omega arith in
    chain (before-shrink t s l a) (before-shrink t s k b)

-- What stands behind a write is settled when its issue is entered.
pub before-settled : {K W : ℕ} {h : History} (t : Issue) → Sound K W (t ∷ h) → (d j e i : ℕ)
    → i < length h → HappensBefore (t ∷ h) d j e i ↔ HappensBefore h d j e i
before-settled t s d j e i l = (before-shrink t s l, before-grow t)

-- ---- what is in the past happens before

-- For the issue on top, from what is known below it.
top-before : (K W : ℕ) (t : Issue) (h : History) → Sound K W (t ∷ h) → (d j e : ℕ)
    → ((i d j e : ℕ) → i < length h → So (in_past K h i d j) → So (saved h e i)
    → (j ≡ i) ⊎ HappensBefore h d j e i)
    → ((j ≡ length h) × So (t.keys d))
    ⊎ ((i : ℕ) × (i < length h) × So (leads K t h i) × So (in_past K h i d j))
    → So (saved (t ∷ h) e (length h))
    → (j ≡ length h) ⊎ HappensBefore (t ∷ h) d j e (length h)
top-before K W t h s d j e below (inl u) q = inl u.0
top-before K W t h s d j e below (inr u) q = inr (go (leads-from K t h i u.2))
  where
    n : ℕ
    n = length h

    i : ℕ
    i = u.0

    l : i < length h
    l = u.1

    sd : So (saved (t ∷ h) d j)
    sd =
        let b = (past-laws K h).bound i d j l u.3 in
        rw (saved_low t h d j (omega arith)) b.1

    same : (c : ℕ) → So (saved (t ∷ h) c i) → j ≡ i → HappensBefore (t ∷ h) c i e n
        → HappensBefore (t ∷ h) d j e n
    same c sc z b =
        elim (ℕ_discrete d c) [
          | yes y ↦ rw (y, z) b
          | no y ↦
              rw z (chain (together {d = d} {e = c} {i = i} (omega arith) (rw z at sd) sc y) b)
        ]

    -- Through the write of c in issue i, which happens before the top.
    via : (c : ℕ) → So (saved (t ∷ h) c i) → HappensBefore (t ∷ h) c i e n
        → HappensBefore (t ∷ h) d j e n
    via c sc b =
        elim (below i d j c l u.3 (saved_low t h c i l ∙˙ sc)) [
          | inl z ↦ same c sc z b
          | inr a ↦ chain (before-grow t a) b
        ]

    go : (writer_of h i ≡ t.writer) ⊎ ((c : ℕ) × (c < K) × So (t.read c i))
        → HappensBefore (t ∷ h) d j e n
    go (inl w) =
        let c = s.some-write i (omega arith) in
        via c.0 c.1
        (earlier {d = c.0} {j = i} {i = n} (omega arith) l
        (cc (writer_of_low t h i l, writer_of_top t h)) c.1 q)
    go (inr r) =
        let rd : So (read_by (t ∷ h) n r.0 i) = rw (read_by_top t h r.0 i) r.2 in
        via r.0 (s.reads n r.0 i rd).2 (was_read_of {i = n} (omega arith) rd q)

-- A write in the past of an issue is one of that issue, or happens before any write of it.
pub past-before : (K W : ℕ) (h : History) → Sound K W h → (i d j e : ℕ) → i < length h
    → So (in_past K h i d j) → So (saved h e i) → (j ≡ i) ⊎ HappensBefore h d j e i
past-before K W [] s i d j e l p q = absurd (not-suc-le-zero l)
past-before K W (t ∷ h) s i d j e l p q =
    below-cases i (length h) l
    (λ z.
    let top = top_past-from K t h d j (past_top K t h d j ∙˙ (rw z at p)) in
    rw z (top-before K W t h s d j e (past-before K W h (sound-low s)) top (rw z at q)))
    (λ z.
    ⊎_map (λ y. y) (before-grow t)
    (past-before K W h (sound-low s) i d j e z (past-low K t h i d j z ∙˙ p)
    (saved_low t h e i z ∙˙ q)))

-- For the write of key e in issue i: the past of issue i has that write and what happens before
-- it.
pub past-is-before : {K W : ℕ} {h : History} → Sound K W h → (d j e i : ℕ) → So (saved h e i)
    → So (in_past K h i d j) ↔ (((d ≡ e) × (j ≡ i)) ⊎ HappensBefore h d j e i)
past-is-before {K} {W} {h} s d j e i q = (forth, back)
  where
    l : i < length h
    l = saved-below h e i q

    forth : So (in_past K h i d j) → ((d ≡ e) × (j ≡ i)) ⊎ HappensBefore h d j e i
    forth p =
        elim (past-before K W h s i d j e l p q) [
          | inl z ↦
              let sd = ((past-laws K h).bound i d j l p).1 in
              elim (ℕ_discrete d e) [
                | yes y ↦ inl (y, z)
                | no y ↦ inr (rw z (together {d = d} {e = e} {i = i} l (rw z at sd) q y))
              ]
          | inr b ↦ inr b
        ]

    back : ((d ≡ e) × (j ≡ i)) ⊎ HappensBefore h d j e i → So (in_past K h i d j)
    back (inl z) = rw (z.0, z.1) ((past-laws K h).own i e l q)
    back (inr b) = before-past s b
