-- Sets of writes of one key, counted by writer: the row of a version that counts its copy.
-- last-..: the last issue of a set. rank: an issue's count at its writer. tally: a set's counts.
-- tally-dominates: the counts of one set dominate those of another where it has all of them.
-- Assumes nothing.
use mathlib.Core.Path.{◌≡◌, refl, sym, ◌∙◌, fun_ext}
use mathlib.Core.Bool.{Bool, true, false, ◌&&◌, ◌||◌, So, and-or_distrib_right}
use mathlib.Core.Logic.{◌↔◌}
use Prim.Native.Nat.{ℕ, zero, suc, ◌≤◌, ◌<◌, max}
use native.Mathlib.Omega.{arith}
use native.Mathlib.Decide.{dec_le}
use lib.ListN.{length}
use Rattle.words.specs.Tests.{Items, Within}
use Rattle.words.specs.Numbers.{count_below, largest, when}
use Rattle.words.proofs.Bools.{and_intro, and_left, and_right, eqb-eq, eq-eqb}
use Rattle.words.proofs.Numbers.{when-yes, when-pos, when-le, when-or, count-mono, count-between, largest-at, largest-le, largest-some, largest-same, largest-max}
use Rattle.clock.specs.Clock.{Clock, Dominates, join}
use Rattle.history.specs.History.{History, writer_of}
use Rattle.history.specs.Copies.{last_in, by_writer}

-- ---- a count up to the largest of some numbers

count-max : (m n : ℕ) (p : Items) → count_below (max m n) p ≡ max (count_below m p) (count_below n
    p)
count-max m n p =
    elim (dec_le m n) [
      | yes l ↦ let e : max m n ≡ n = omega arith in rw e (omega (arith, count-mono m n p l))
      | no l ↦
          let e : max m n ≡ m = omega arith in
          rw e (omega (arith, count-mono n m p (omega arith)))
    ]

count-largest : (n : ℕ) (f : ℕ → ℕ) (p : Items)
    → count_below (largest n f) p ≡ largest n (λ i. count_below (f i) p)
unfolding largest count_below
count-largest zero f p = refl
count-largest (suc n) f p = rw (count-max (largest n f) (f n) p, count-largest n f p)

count-when : (b : Bool) (n : ℕ) (p : Items) → count_below (when b n) p ≡ when b (count_below n p)
unfolding when count_below
count-when true n p = refl
count-when false n p = refl

module _ (K : ℕ) (h : History) where
  pub by-writer : (i w : ℕ) → writer_of h i ≡ w → So (by_writer K h w i)
  unfolding by_writer
  by-writer i w e = eq-eqb (writer_of h i) w e

  pub writer-is : (i w : ℕ) → So (by_writer K h w i) → writer_of h i ≡ w
  unfolding by_writer
  writer-is i w p = eqb-eq (writer_of h i) w p

  -- ---- the last issue of a set

  pub last-at : (p : Items) (i : ℕ) → i < length h → So (p i) → suc i ≤ last_in K h p
  unfolding last_in
  last-at p i l q =
      omega (arith, largest-at (length h) (λ j. when (p j) (suc j)) i l, when-yes (p i) (suc i) q)

  pub last-top : (p : Items) → 1 ≤ last_in K h p
      → (i : ℕ) × (i < length h) × So (p i) × (suc i ≡ last_in K h p)
  unfolding last_in
  last-top p q =
      let r = largest-some (length h) (λ j. when (p j) (suc j)) q in
      let i = r.0 in
      let s = when-pos (p i) (suc i) (omega (arith, r.2)) in
      (i, r.1, s, sym (when-yes (p i) (suc i) s) ∙ r.2)

  pub last_some : (p : Items) → 1 ≤ last_in K h p → (i : ℕ) × (i < length h) × So (p i)
  last_some p q = let r = last-top p q in (r.0, r.1, r.2)

  pub last-le : (p : Items) → last_in K h p ≤ length h
  unfolding last_in
  last-le p =
      largest-le (length h) (λ j. when (p j) (suc j)) (length h)
      (λ j l. omega (arith, when-le (p j) (suc j)))

  pub last-same : (p q : Items) → ((i : ℕ) → i < length h → p i ≡ q i)
      → last_in K h p ≡ last_in K h q
  unfolding last_in
  last-same p q f =
      largest-same (length h) (λ i. when (p i) (suc i)) (λ i. when (q i) (suc i))
      (λ i l. rw (f i l))

  pub last-union : (p q : Items) → last_in K h (λ i. p i || q i) ≡ max (last_in K h p) (last_in K
      h q)
  unfolding last_in
  last-union p q =
      let f : Items → ℕ → ℕ = λ s i. when (s i) (suc i) in
      largest-same (length h) (f (λ i. p i || q i)) (λ i. max (f p i) (f q i))
      (λ i _. when-or (p i) (q i) (suc i)) ∙ largest-max (length h) (f p) (f q)

  -- ---- ranks

  -- How many issues by w there are up to issue i.
  abbrev pub rank : ℕ → ℕ → ℕ
  rank w i = count_below (suc i) (by_writer K h w)

  pub own-rank : (i : ℕ) → 1 ≤ rank (writer_of h i) i
  own-rank i =
      let w = writer_of h i in
      let own = by-writer i w refl in
      omega (arith, count-between 0 (suc i) i (by_writer K h w) (omega arith) (omega arith) own)

  -- Of two issues by one writer the later one has the larger rank.
  pub rank-order : (w i j : ℕ) → writer_of h i ≡ w → rank w i ≤ rank w j → i ≤ j
  rank-order w i j e o =
      elim (dec_le i j) [
        | yes l ↦ l
        | no l ↦
            let more = count-between (suc j) (suc i) i (by_writer K h w) (omega arith) (omega
            arith)
            (by-writer i w e) in
            omega arith
      ]

  -- ---- the counts of a set

  -- For each writer the issues by that writer up to its last one in the set.
  unfoldable pub tally : Items → Clock
  tally s w = count_below (last_in K h (λ j. s j && by_writer K h w j)) (by_writer K h w)

  -- What an issue of the set gives to the count of w.
  abbrev mark : Items → ℕ → ℕ → ℕ
  mark s w i = when (s i && by_writer K h w i) (rank w i)

  -- The largest rank in the set.
  pub tally-largest : (s : Items) (w : ℕ)
      → tally s w ≡ largest (length h) (λ i. when (s i && by_writer K h w i) (rank w i))
  unfolding tally last_in
  tally-largest s w =
      let f : ℕ → ℕ = λ i. when (s i && by_writer K h w i) (suc i) in
      count-largest (length h) f (by_writer K h w)
      ∙ largest-same (length h) (λ i. count_below (f i) (by_writer K h w)) (mark s w)
      (λ i _. count-when (s i && by_writer K h w i) (suc i) (by_writer K h w))

  pub tally-at : (s : Items) (i : ℕ) → i < length h → So (s i)
      → rank (writer_of h i) i ≤ tally s (writer_of h i)
  tally-at s i l p =
      let w = writer_of h i in
      let e = when-yes (s i && by_writer K h w i) (rank w i) (and_intro p (by-writer i w refl)) in
      omega (arith, tally-largest s w, largest-at (length h) (mark s w) i l, e)

  pub tally-some : (s : Items) (w : ℕ) → 1 ≤ tally s w
      → (i : ℕ) × (i < length h) × So (s i) × (writer_of h i ≡ w) × (rank w i ≡ tally s w)
  tally-some s w o =
      let e = tally-largest s w in
      let r = largest-some (length h) (mark s w) (omega arith) in
      let i = r.0 in
      let b = s i && by_writer K h w i in
      let p : So b = when-pos b (rank w i) (omega (arith, r.2)) in
      let own = and_right (s i) (by_writer K h w i) p in (
        i,
        r.1,
        and_left (s i) (by_writer K h w i) p,
        writer-is i w own,
        sym (when-yes b (rank w i) p) ∙ r.2 ∙ sym e,
      )

  -- A set that has with a write of a key all earlier ones of that key by its writer.
  abbrev pub SessionClosed : Items → Items → Type 0
  SessionClosed writes s =
      (i j : ℕ) → i < length h → So (s i) → j ≤ i → writer_of h j ≡ writer_of h i → So (writes j)
      → So (s j)

  -- Where t's count at the writer of an issue is as large as that of s, which has the issue, t has
  -- it too.
  pub tally-has : (writes s t : Items) → SessionClosed writes t → (i : ℕ) → i < length h
      → So (s i) → So (writes i) → tally s (writer_of h i) ≤ tally t (writer_of h i) → So (t i)
  tally-has writes s t closed i l p q o =
      let w = writer_of h i in
      let a = tally-at s i l p in
      let r = tally-some t w (omega (arith, own-rank i)) in
      let le = rank-order w i r.0 refl (omega (arith, r.4)) in
      closed r.0 i r.1 r.2 le (sym r.3) q

  -- A count is no larger than the ranks that it counts.
  pub tally-le : (s : Items) (w m : ℕ)
      → ((i : ℕ) → i < length h → So (s i) → writer_of h i ≡ w → rank w i ≤ m) → tally s w ≤ m
  tally-le s w m f =
      elim (dec_le 1 (tally s w)) [
        | yes y ↦
            let r = tally-some s w y in
            omega (arith, f r.0 r.1 r.2 r.3, r.4)
        | no y ↦ omega arith
      ]

  -- The counts of t dominate those of s just where t has all of s.
  pub tally-dominates : (W : ℕ) (writes s t : Items) → ((i : ℕ) → i < length h → writer_of h i < W)
      → Within (length h) s writes → SessionClosed writes t
      → Dominates W (tally t) (tally s) ↔ Within (length h) s t
  tally-dominates W writes s t ok sub closed = (there, back)
    where
      there : Dominates W (tally t) (tally s) → Within (length h) s t
      there c i l p = tally-has writes s t closed i l p (sub i l p) (c (writer_of h i) (ok i l))

      back : Within (length h) s t → Dominates W (tally t) (tally s)
      back f w lw =
          elim (dec_le 1 (tally s w)) [
            | yes y ↦
                let r = tally-some s w y in
                let a = tally-at t r.0 r.1 (f r.0 r.1 r.2) in
                omega (arith, rw r.3 at a, r.4)
            | no y ↦ omega arith
          ]

  -- Union counts as the join of the clocks.
  pub tally-union : (s t : Items) → tally (λ i. s i || t i) ≡ join (tally s) (tally t)
  unfolding join
  tally-union s t =
      fun_ext (λ w.
      rw (tally-largest s w, tally-largest t w)
      (tally-largest both w
      ∙ largest-same (length h) (mark both w) (λ i. max (mark s w i) (mark t w i))
      (λ i _. split w i)
      ∙ largest-max (length h) (mark s w) (mark t w)))
    where
      both : Items
      both i = s i || t i

      split : (w i : ℕ) → mark both w i ≡ max (mark s w i) (mark t w i)
      split w i =
          let by = by_writer K h w i in
          rw and-or_distrib_right (when-or (s i && by) (t i && by) (rank w i))

  -- No count is larger than the number of issues by that writer.
  pub tally-total : (s : Items) (w : ℕ) → tally s w ≤ count_below (length h) (by_writer K h w)
  unfolding tally
  tally-total s w =
      let p : Items = λ j. s j && by_writer K h w j in
      count-mono (last_in K h p) (length h) (by_writer K h w) (last-le p)

  -- Nothing counts as no clock.
  pub tally-none : (s : Items) → ((i : ℕ) → i < length h → s i ≡ false) → tally s ≡ (λ w. 0)
  unfolding when
  tally-none s f =
      fun_ext (λ w.
      let z = largest-le (length h) (mark s w) 0 (λ i l. rw (f i l) (omega arith)) in
      omega (arith, tally-largest s w))
