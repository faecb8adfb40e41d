-- The merged mask of two copies names just who leads in their union (CR 3).
-- leads_on-union: the merge's test, by masks and own rows. named-union: it names somebody.
-- leading-union: so the merged mask is that of the union.
-- Assumes nothing.
use mathlib.Core.Path.{◌≡◌, ap, ◌∙◌, fun_ext}
use mathlib.Core.Bool.{Bool, ◌&&◌, ◌||◌, So}
use mathlib.Core.Logic.{inl, inr, ◌↔◌}
use Prim.Native.Nat.{ℕ, ◌<◌}
use lib.Dec.{eqb, ltb}
use lib.ListN.{length}
use Rattle.words.specs.Tests.{Items}
use Rattle.words.proofs.Bools.{same_test, ◌∙˙◌, and_intro, and_left, and_right, or_left, or_right, or_cases, eqb-eq, eq-eqb, ltb-lt, lt-ltb}
use Rattle.words.proofs.Tests.{any-intro}
use Rattle.masks.specs.Mask.{test_bit, mask_below}
use Rattle.masks.proofs.Sets.{test-mask, mask-same, set-none}
use Rattle.clock.specs.Clock.{Clock}
use Rattle.model.specs.Version.{leads_on, merged_leaders}
use Rattle.history.specs.History.{History, writer_of}
use Rattle.history.specs.Copies.{Copy, held_copy, union, counted, leading}
use Rattle.history.proofs.Notions.{PastLaws, Good}
use Rattle.history.proofs.Tally.{tally}
use Rattle.history.proofs.Reached.{reaches-own, copy-held}
use Rattle.history.proofs.Counted.{counted-row}
use Rattle.history.proofs.Leading.{Leader, leading-iff, leading_newest}
use Rattle.history.proofs.LeadingJoined.{Joined, LeadsBy, union-leads, union-led}

-- ---- the test of the merge

leads-on : (m n : ℕ) (p q : Clock) (u : ℕ)
    → So (leads_on m p n q u) ↔ LeadsBy (So (test_bit m u)) (So (test_bit n u)) (p u) (q u)
unfolding leads_on
leads-on m n p q u = (there, back)
  where
    a : Bool
    a = test_bit m u

    b : Bool
    b = test_bit n u

    same : Bool
    same = eqb (p u) (q u)

    more : Bool
    more = ltb (q u) (p u)

    less : Bool
    less = ltb (p u) (q u)

    there : So ((a && (b && same)) || ((a && more) || (b && less)))
        → LeadsBy (So a) (So b) (p u) (q u)
    there s =
        elim (or_cases (a && (b && same)) ((a && more) || (b && less)) s) [
          | inl x ↦
              let y = and_right a (b && same) x in
              inl (
                and_left a (b && same) x,
                and_left b same y,
                eqb-eq (p u) (q u) (and_right b same y),
              )
          | inr x ↦ elim (or_cases (a && more) (b && less) x) [
            | inl y ↦ inr (inl (and_left a more y, ltb-lt (q u) (p u) (and_right a more y)))
            | inr y ↦ inr (inr (and_left b less y, ltb-lt (p u) (q u) (and_right b less y)))
          ]
        ]

    back : LeadsBy (So a) (So b) (p u) (q u)
        → So ((a && (b && same)) || ((a && more) || (b && less)))
    back (inl x) =
        or_left ((a && more) || (b && less))
        (and_intro x.0 (and_intro x.1 (eq-eqb (p u) (q u) x.2)))
    back (inr (inl x)) =
        or_right (a && (b && same))
        (or_left (b && less) (and_intro x.0 (lt-ltb (q u) (p u) x.1)))
    back (inr (inr x)) =
        or_right (a && (b && same))
        (or_right (a && more) (and_intro x.0 (lt-ltb (p u) (q u) x.1)))

leads-map : {A B A' B' : Type 0} {p q : ℕ} → (A → A') → (B → B') → LeadsBy A B p q
    → LeadsBy A' B' p q
leads-map f g (inl x) = inl (f x.0, g x.1, x.2)
leads-map f g (inr (inl x)) = inr (inl (f x.0, x.1))
leads-map f g (inr (inr x)) = inr (inr (g x.0, x.1))

module _ (K : ℕ) (h : History) (laws : PastLaws K h) (k : ℕ) where
  -- The own row of a copy counts the copy itself.
  own_row : (c : Copy) → Good K h k c → (counted K h c).past k ≡ tally K h c
  own_row c g = counted-row K h c k ∙ ap (tally K h) (fun_ext (reaches-own K h laws k c g))

  -- ---- by the masks and the own rows, of W writers

  module _ (W : ℕ) (a b : Copy) (f : Good K h k a) (g : Good K h k b) where
    abbrev named : Items
    named =
        leads_on (mask_below W (leading K h k a)) ((counted K h a).past k)
        (mask_below W (leading K h k b)) ((counted K h b).past k)

    joined : Joined a b (union K h a b)
    unfolding union
    joined = record {
      left = λ i p. or_left (b i) p;
      right = λ i p. or_right (a i) p;
      only = λ i p. or_cases (a i) (b i) p;
    }

    pub leads_on-union : (u : ℕ) → u < W → named u ≡ leading K h k (union K h a b) u
    leads_on-union u l = same_test there back
      where
        bit : (c : Copy) → test_bit (mask_below W (leading K h k c)) u ≡ leading K h k c u
        bit c = test-mask W (leading K h k c) u l

        of : (c : Copy) → So (test_bit (mask_below W (leading K h k c)) u) ↔ Leader K h k c u
        of c = (
          λ p. (leading-iff K h k c u).0 (bit c ∙˙ p),
          λ L. bit c ∙ (leading-iff K h k c u).1 L,
        )

        test-is : So (named u)
            ↔ LeadsBy (So (test_bit (mask_below W (leading K h k a)) u))
            (So (test_bit (mask_below W (leading K h k b)) u)) (tally K h a u) (tally K h b u)
        test-is =
            rw (← own_row a f, ← own_row b g)
            (leads-on (mask_below W (leading K h k a)) (mask_below W (leading K h k b))
            ((counted K h a).past k) ((counted K h b).past k) u)

        there : So (named u) → So (leading K h k (union K h a b) u)
        there p =
            (leading-iff K h k (union K h a b) u).1
            (union-leads K h laws k a b (union K h a b) f g joined u
            (leads-map (of a).0 (of b).0 (test-is.0 p)))

        back : So (leading K h k (union K h a b) u) → So (named u)
        back p =
            test-is.1
            (leads-map (of a).1 (of b).1
            (union-led K h laws k a b (union K h a b) f g joined u
            ((leading-iff K h k (union K h a b) u).0 p)))

    -- The newest write of both leads, so somebody is named.
    pub named-union : ((i : ℕ) → i < length h → writer_of h i < W) → So (held_copy K h a)
        → (u : ℕ) × (u < W) × So (named u)
    named-union writers p =
        let r = (copy-held K h a).0 p in
        let both = (copy-held K h (union K h a b)).1 (r.0, r.1, joined.left r.0 r.2) in
        let t = leading_newest K h k laws (union K h a b) both in
        let l = writers t.0 t.1 in
        (writer_of h t.0, l, leads_on-union (writer_of h t.0) l ∙ t.2)

    pub leading-union : ((i : ℕ) → i < length h → writer_of h i < W) → So (held_copy K h a)
        → merged_leaders W (mask_below W (leading K h k a)) ((counted K h a).past k)
        (mask_below W (leading K h k b)) ((counted K h b).past k)
        ≡ mask_below W (leading K h k (union K h a b))
    unfolding merged_leaders
    leading-union writers p =
        let t = named-union writers p in
        let some = any-intro W named t.0 t.1 t.2 in
        rw (set-none W named, some)
        (mask-same W named (leading K h k (union K h a b)) leads_on-union)
