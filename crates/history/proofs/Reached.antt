-- The writes in a copy or behind one, the sets that a copy can be, and the tests of copies.
-- reaches-..: ways in, nothing else, of a union, and by the laws of the past.
-- good-..: no copy, a union, an issue's past. union-..: with one that is not held.
-- copy-..: held, needs and meets as statements.
-- Assumes nothing.
use mathlib.Core.Path.{◌≡◌, ◌∙◌, fun_ext}
use mathlib.Core.Bool.{false, ◌&&◌, ◌||◌, So, false≢true}
use mathlib.Core.Logic.{inl, inr, ◌↔◌, ◌≢◌}
use Prim.Native.Nat.{ℕ, ◌≤◌, ◌<◌}
use native.Mathlib.Omega.{arith}
use lib.ListN.{length}
use Rattle.words.specs.Tests.{Items, Within, none}
use Rattle.words.proofs.Bools.{test, clash, same_test, ◌∙˙◌, and_intro, and_left, and_right, or_left, or_right, or_cases, or-false-right}
use Rattle.words.proofs.Tests.{any-intro, any_some, all-intro, all-at}
use Rattle.model.specs.Algebra.{implies}
use Rattle.model.proofs.Cuts.{implies_in, implies-out}
use Rattle.history.specs.History.{History, writer_of, saved, in_past}
use Rattle.history.specs.Copies.{Copy, reaches, held_copy, meets_copy, union}
use Rattle.history.proofs.Notions.{PastLaws, Good}

module _ (K : ℕ) (h : History) where
  -- ---- what a copy reaches

  pub reaches-intro : (c : Copy) (d j i : ℕ) → i < length h → So (c i) → So (in_past K h i d j)
      → So (reaches K h c d j)
  unfolding reaches
  reaches-intro c d j i l p q =
      any-intro (length h) (λ i. c i && in_past K h i d j) i l (and_intro p q)

  pub reaches_some : (c : Copy) (d j : ℕ) → So (reaches K h c d j)
      → (i : ℕ) × (i < length h) × So (c i) × So (in_past K h i d j)
  unfolding reaches
  reaches_some c d j p =
      let r = any_some (length h) (λ i. c i && in_past K h i d j) p in
      let i = r.0 in
      let b = in_past K h i d j in
      (i, r.1, and_left (c i) b r.2, and_right (c i) b r.2)

  -- A copy that has more reaches more.
  pub reaches-mono : (a b : Copy) → Within (length h) a b
      → (d j : ℕ) → So (reaches K h a d j) → So (reaches K h b d j)
  reaches-mono a b f d j p =
      let r = reaches_some a d j p in
      let i = r.0 in
      reaches-intro b d j i r.1 (f i r.1 r.2) r.3

  pub reaches-union : (a b : Copy) (d j : ℕ)
      → reaches K h (union K h a b) d j ≡ reaches K h a d j || reaches K h b d j
  unfolding union
  reaches-union a b d j = same_test there back
    where
      both : Copy
      both i = a i || b i

      there : So (reaches K h both d j) → So (reaches K h a d j || reaches K h b d j)
      there p =
          let r = reaches_some both d j p in
          let i = r.0 in
          elim (or_cases (a i) (b i) r.2) [
            | inl q ↦ or_left (reaches K h b d j) (reaches-intro a d j i r.1 q r.3)
            | inr q ↦ or_right (reaches K h a d j) (reaches-intro b d j i r.1 q r.3)
          ]

      back : So (reaches K h a d j || reaches K h b d j) → So (reaches K h both d j)
      back p =
          elim (or_cases (reaches K h a d j) (reaches K h b d j) p) [
            | inl q ↦ reaches-mono a both (λ i _ m. or_left (b i) m) d j q
            | inr q ↦ reaches-mono b both (λ i _ m. or_right (a i) m) d j q
          ]

  -- ---- the tests of copies

  pub copy-held : (c : Copy) → So (held_copy K h c) ↔ ((i : ℕ) × (i < length h) × So (c i))
  unfolding held_copy
  copy-held c = (any_some (length h) c, λ r. any-intro (length h) c r.0 r.1 r.2)

  pub copy_meets : (d : ℕ) (b c : Copy)
      → So (meets_copy K h d b c) ↔ Within (length h) (reaches K h c d) b
  unfolding meets_copy
  copy_meets d b c =
      let has : Items = λ j. implies (reaches K h c d j) (b j) in (
        λ p j l. implies-out (reaches K h c d j) (b j) (all-at (length h) has p j l),
        λ f. all-intro (length h) has (λ j l. implies_in (reaches K h c d j) (b j) (f j l)),
      )

  -- What is not held reaches nothing.
  pub reaches-unheld : (c : Copy) → held_copy K h c ≡ false
      → (d j : ℕ) → reaches K h c d j ≡ false
  reaches-unheld c n d j =
      test (reaches K h c d j)
      (λ y. let r = reaches_some c d j y in clash ((copy-held c).1 (r.0, r.1, r.2)) n)
      (λ z. z)

  -- ---- the sets that a copy can be

  pub good_none : (k : ℕ) → Good K h k none
  good_none k = record {
    writes = λ i p. absurd (false≢true p);
    behind = λ i j p q. p;
  }

  -- One that is not held has nothing, so a union with it is the other.
  unheld-none : (k : ℕ) (c : Copy) → Good K h k c → held_copy K h c ≡ false
      → (i : ℕ) → c i ≡ false
  unheld-none k c g n i =
      test (c i) (λ p. clash ((copy-held c).1 (i, (g.writes i p).0, p)) n) (λ z. z)

  pub union-unheld-left : (k : ℕ) (a b : Copy) → Good K h k a → held_copy K h a ≡ false
      → union K h a b ≡ b
  unfolding union
  union-unheld-left k a b g n = fun_ext (λ i. rw (unheld-none k a g n i))

  pub union-unheld-right : (k : ℕ) (a b : Copy) → Good K h k b → held_copy K h b ≡ false
      → union K h a b ≡ a
  unfolding union
  union-unheld-right k a b g n =
      fun_ext (λ i. rw (unheld-none k b g n i) (or-false-right (a i)))

  pub good-union : (k : ℕ) (a b : Copy) → Good K h k a → Good K h k b → Good K h k (union K h a b)
  unfolding union
  good-union k a b f g = record {
    writes = λ i p.
        elim (or_cases (a i) (b i) p) [
          | inl q ↦ f.writes i q
          | inr q ↦ g.writes i q
        ];
    behind = λ i j p r.
        elim (or_cases (a i) (b i) p) [
          | inl q ↦ or_left (b j) (f.behind i j q r)
          | inr q ↦ or_right (a j) (g.behind i j q r)
        ];
  }

  -- ---- by the laws of the past

  module _ (laws : PastLaws K h) where
    pub reaches-saved : (c : Copy) (d j : ℕ) → So (reaches K h c d j)
        → (j < length h) × So (saved h d j)
    reaches-saved c d j p =
        let r = reaches_some c d j p in
        let b = laws.bound r.0 d j r.1 r.3 in
        (omega arith, b.1)

    -- What the writes of issue i include of a key.
    pub good-past : (i k : ℕ) → i < length h → Good K h k (in_past K h i k)
    good-past i k l = record {
      writes = λ j p. let b = laws.bound i k j l p in (omega arith, b.1);
      behind = λ j t p q. laws.trans i k j k t l p q;
    }

    -- A copy of a key reaches, of that key, itself.
    pub reaches-own : (k : ℕ) (c : Copy) → Good K h k c → (j : ℕ) → reaches K h c k j ≡ c j
    reaches-own k c g j =
        same_test
        (λ p. let r = reaches_some c k j p in g.behind r.0 j r.2 r.3)
        (λ p.
        let w = g.writes j p in
        reaches-intro c k j j w.0 p (laws.own j k w.0 w.1))

    -- A copy of a key that has a write of it has the earlier ones by the same writer.
    pub reaches-session : (k : ℕ) (c : Copy) → Good K h k c → (i j : ℕ) → i < length h
        → So (reaches K h c k i) → j ≤ i → writer_of h j ≡ writer_of h i → So (saved h k j)
        → So (reaches K h c k j)
    reaches-session k c g i j l p o w q =
        let own = reaches-own k c g in
        own j ∙ g.behind i j (own i ∙˙ p) (laws.session i k j l o w q)
