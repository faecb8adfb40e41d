-- Who leads in a copy (CR 3).
-- Leader: what the test of a writer says. leading-iff: so it does. leader_part, leading-unheld: in
-- a smaller copy, in none.
-- leading-grow: with an issue on top. leading_top, mask-top: what the newest issue includes is led
-- by its writer alone. leading_newest: the newest write leads.
-- Assumes nothing.
use mathlib.Core.Path.{◌≡◌, refl, sym, ap, ◌∙◌}
use mathlib.Core.Bool.{false, not, ◌&&◌, So}
use mathlib.Core.Logic.{◌↔◌}
use mathlib.Core.List.{◌∷◌}
use Prim.Native.Nat.{ℕ, suc, ◌≤◌, ◌<◌, ◌^◌}
use native.Mathlib.Omega.{arith}
use native.Mathlib.Decide.{ℕ_discrete}
use lib.Dec.{eqb}
use lib.ListN.{length}
use lib.Pow.{pow-lt}
use Rattle.words.specs.Tests.{Items, any_below}
use Rattle.words.proofs.Bools.{test, clash, same_test, ◌∙˙◌, and_intro, and_left, and_right, not-intro, not_elim, eqb-eq, eq-eqb, ne_eqb}
use Rattle.words.proofs.Tests.{any-intro, any_some, any_none, any-no}
use Rattle.masks.specs.Mask.{mask_below}
use Rattle.masks.proofs.Bits.{test-pow}
use Rattle.masks.proofs.Sets.{mask_is}
use Rattle.history.specs.History.{Issue, History, writer_of, in_past}
use Rattle.history.specs.Copies.{Copy, held_copy, last_in, by_writer, last_by, behind_other, leading}
use Rattle.history.proofs.Notions.{PastLaws}
use Rattle.history.proofs.Past.{writer_of_top, writer_of_low, saved-top, past-low}
use Rattle.history.proofs.Tally.{by-writer, writer-is, last-at, last-top}
use Rattle.history.proofs.Reached.{copy-held}
use Rattle.history.proofs.Grown.{Below}

-- The last write by writer u in the copy stands behind no other in it.
pub record Leader (K : ℕ) (h : History) (k : ℕ) (c : Copy) (u : ℕ) : Type 0 where
  pub last : ℕ
  pub low : last < length h
  pub included : So (c last)
  pub own : writer_of h last ≡ u
  pub latest : (i : ℕ) → i < length h → So (c i) → writer_of h i ≡ u → i ≤ last
  pub free : (i : ℕ) → i < length h → So (c i) → So (in_past K h i k last) → i ≡ last

module _ (K : ℕ) (h : History) (k : ℕ) where
  -- ---- the test, and what it says

  -- The writes by u in a copy.
  abbrev mine : Copy → ℕ → Items
  mine c u j = c j && by_writer K h u j

  abbrev ahead : Copy → ℕ → Items
  ahead c i t = c t && (not (eqb t i) && in_past K h t k i)

  pub leading-iff : (c : Copy) (u : ℕ) → So (leading K h k c u) ↔ Leader K h k c u
  unfolding leading last_by behind_other
  leading-iff c u = (there, back)
    where
      n : ℕ
      n = length h

      is : Items
      is i = eqb (last_in K h (mine c u)) (suc i) && not (any_below n (ahead c i))

      there : So (any_below n is) → Leader K h k c u
      there p =
          let r = any_some n is p in
          let i = r.0 in
          let last = eqb (last_in K h (mine c u)) (suc i) in
          let other = any_below n (ahead c i) in
          let e = eqb-eq (last_in K h (mine c u)) (suc i) (and_left last (not other) r.2) in
          let none = any_none n (ahead c i) (not_elim (and_right last (not other) r.2)) in
          let t = last-top K h (mine c u) (omega arith) in
          let same : t.0 ≡ i = omega (arith, t.3) in
          let m = rw same at t.2 in
          record {
            last = i;
            low = r.1;
            included = and_left (c i) (by_writer K h u i) m;
            own = writer-is K h i u (and_right (c i) (by_writer K h u i) m);
            latest = λ j l p w.
                omega (arith, last-at K h (mine c u) j l (and_intro p (by-writer K h j u w)));
            free = λ t l p q.
                elim (ℕ_discrete t i) [
                  | yes y ↦ y
                  | no y ↦
                      clash (and_intro p (and_intro (not-intro (ne_eqb t i y)) q)) (none t l)
                ];
          }

      back : Leader K h k c u → So (any_below n is)
      back L =
          let i = L.last in
          let own = and_intro L.included (by-writer K h i u L.own) in
          let least = last-at K h (mine c u) i L.low own in
          let t = last-top K h (mine c u) (omega arith) in
          let j = t.0 in
          let most = L.latest j t.1 (and_left (c j) (by_writer K h u j) t.2)
          (writer-is K h j u (and_right (c j) (by_writer K h u j) t.2)) in
          let e : last_in K h (mine c u) ≡ suc i = omega (arith, t.3) in
          any-intro n is i L.low
          (and_intro (eq-eqb (last_in K h (mine c u)) (suc i) e)
          (not-intro (any-no n (ahead c i) (alone L))))
        where
          alone : (L : Leader K h k c u) (t : ℕ) → t < length h → ahead c L.last t ≡ false
          alone L t l =
              let i = L.last in
              let other = not (eqb t i) in
              let past = in_past K h t k i in
              test (ahead c i t)
              (λ y.
              let z = and_right (c t) (other && past) y in
              let e = L.free t l (and_left (c t) (other && past) y) (and_right other past z) in
              clash (eq-eqb t i e) (not_elim (and_left other past z)))
              (λ f. f)

  -- A leader whose last write is in a part of the copy leads there.
  pub leader_part : (a c : Copy) (u : ℕ) → ((i : ℕ) → So (a i) → So (c i))
      → (L : Leader K h k c u) → So (a L.last) → Leader K h k a u
  leader_part a c u sub L p = record {
    last = L.last;
    low = L.low;
    included = p;
    own = L.own;
    latest = λ i l q. L.latest i l (sub i q);
    free = λ i l q. L.free i l (sub i q);
  }

  -- In a copy that is not held nobody leads.
  pub leading-unheld : (c : Copy) → held_copy K h c ≡ false → (u : ℕ) → leading K h k c u ≡ false
  leading-unheld c n u =
      test (leading K h k c u)
      (λ y.
      let L = (leading-iff c u).0 y in
      clash ((copy-held K h c).1 (L.last, L.low, L.included)) n)
      (λ z. z)

  -- ---- the newest write of a copy leads

  pub leading_newest : PastLaws K h → (c : Copy) → So (held_copy K h c)
      → (i : ℕ) × (i < length h) × So (leading K h k c (writer_of h i))
  leading_newest laws c p =
      let r = (copy-held K h c).0 p in
      let o = last-at K h c r.0 r.1 r.2 in
      let t = last-top K h c (omega arith) in
      let i = t.0 in
      let newest : (j : ℕ) → j < length h → So (c j) → j ≤ i =
      λ j l q. omega (arith, t.3, last-at K h c j l q) in
      let L : Leader K h k c (writer_of h i) = record {
        last = i;
        low = t.1;
        included = t.2;
        own = refl;
        latest = λ j l q _. newest j l q;
        free = λ j l q b.
            let before = (laws.bound j k i l b).0 in
            let after = newest j l q in
            omega arith;
      } in
      (i, t.1, (leading-iff c (writer_of h i)).1 L)

-- ---- an issue on top

module _ (K : ℕ) (e : Issue) (h : History) (k : ℕ) where
  -- Who led in a copy of before leads in it still.
  pub leading-grow : (c : Copy) → Below h c → (u : ℕ)
      → leading K (e ∷ h) k c u ≡ leading K h k c u
  leading-grow c b u =
      same_test (λ p. (leading-iff K h k c u).1 (there ((leading-iff K (e ∷ h) k c u).0 p)))
      (λ p. (leading-iff K (e ∷ h) k c u).1 (back ((leading-iff K h k c u).0 p)))
    where
      there : Leader K (e ∷ h) k c u → Leader K h k c u
      there L =
          let i = L.last in
          let l = b i L.included in
          record {
            last = i;
            low = l;
            included = L.included;
            own = sym (writer_of_low e h i l) ∙ L.own;
            latest = λ j m p w. L.latest j (omega arith) p (writer_of_low e h j m ∙ w);
            free = λ j m p q. L.free j (omega arith) p (past-low K e h j k i m ∙ q);
          }

      back : Leader K h k c u → Leader K (e ∷ h) k c u
      back L =
          let i = L.last in
          record {
            last = i;
            low = let l = L.low in omega arith;
            included = L.included;
            own = writer_of_low e h i L.low ∙ L.own;
            latest = λ j _ p w.
                L.latest j (b j p) p (sym (writer_of_low e h j (b j p)) ∙ w);
            free = λ j _ p q. L.free j (b j p) p (past-low K e h j k i (b j p) ∙˙ q);
          }

  -- ---- what the issue on top includes

  abbrev top : Copy
  top = in_past K (e ∷ h) (length h) k

  -- For a key of the issue its writer alone leads.
  pub leading_top : PastLaws K (e ∷ h) → So (e.keys k) → (u : ℕ)
      → leading K (e ∷ h) k top u ≡ eqb u e.writer
  leading_top laws s u =
      same_test (λ p. there ((leading-iff K (e ∷ h) k top u).0 p))
      (λ p. (leading-iff K (e ∷ h) k top u).1 (back (eqb-eq u e.writer p)))
    where
      n : ℕ
      n = length h

      in_top : So (top n)
      in_top = laws.own n k (omega arith) (saved-top e h k ∙ s)

      -- A leader's write that isn't the issue's own would stand behind that one.
      there : Leader K (e ∷ h) k top u → So (eqb u e.writer)
      there L =
          let z = L.free n (omega arith) in_top L.included in
          eq-eqb u e.writer (sym L.own ∙ ap (writer_of (e ∷ h)) (sym z) ∙ writer_of_top e h)

      back : u ≡ e.writer → Leader K (e ∷ h) k top u
      back w = record {
        last = n;
        low = omega arith;
        included = in_top;
        own = writer_of_top e h ∙ sym w;
        latest = λ i l p _. (laws.bound n k i (omega arith) p).0;
        free = λ i l _ q. let b = (laws.bound i k n l q).0 in omega arith;
      }

  pub mask-top : PastLaws K (e ∷ h) → So (e.keys k) → (W : ℕ) → e.writer < W
      → 2 ^ e.writer ≡ mask_below W (leading K (e ∷ h) k top)
  mask-top laws s W l =
      mask_is W (2 ^ e.writer) (leading K (e ∷ h) k top) (pow-lt l)
      (λ u _. test-pow e.writer u ∙ sym (leading_top laws s u))
