-- Lists pass on by merge, reading and issue (CR 6): a copy lists what its later issues list, and
-- nothing but admitted saves.
-- carries-..: no copy, a merge, one issue more, a new version. read-..: what a run had read.
-- ListsSound: the lists of a history; lists-..: none, one issue more. list-within, list-most: no
-- list has more than was admitted.
-- Assumes nothing.
use mathlib.Core.Path.{sym}
use mathlib.Core.Bool.{So, ◌&&◌, false≢true}
use mathlib.Core.Logic.{◌↔◌, inl, inr}
use mathlib.Core.List.{[], ◌∷◌}
use Prim.Native.Nat.{ℕ, ◌≤◌, ◌<◌}
use native.Mathlib.Omega.{arith}
use native.Mathlib.Nat.{not-suc-le-zero}
use lib.Dec.{eqb}
use lib.ListN.{length}
use Rattle.words.specs.Tests.{Items, none}
use Rattle.words.specs.Numbers.{largest, when}
use Rattle.words.proofs.Bools.{test, ◌∙˙◌, or_cases, and_left, and_right}
use Rattle.words.proofs.Tests.{below-cases}
use Rattle.words.proofs.Numbers.{when-yes, when-no, largest-at, largest-le, largest-some}
use Rattle.clock.specs.Clock.{join}
use Rattle.history.specs.History.{Issue, History, read_by, rows_of, in_past}
use Rattle.history.specs.Copies.{union}
use Rattle.history.specs.Listing.{Base, BookCopy, plain_copy_of, merge_book, read_copy}
use Rattle.history.specs.Lists.{writer_list, list_of}
use Rattle.history.proofs.Notions.{Sound}
use Rattle.history.proofs.Past.{rows-top, rows-low, read_by_top, read_by_low, read_by_below}
use Rattle.history.proofs.Grown.{Below}
use Rattle.history.proofs.Listed.{Based}
use Rattle.history.proofs.Lists.{Carries, Carried, writer-now, list-low, list-past}

-- ---- what a run had read

-- Its copies' rows joined are no less than each,
pub read_has : (n : ℕ) (R : Items) (c : ℕ → BookCopy) (k : ℕ) → k < n → So (R k)
    → (d u : ℕ) → (c k).rows d u ≤ (read_copy n R c).rows d u
unfolding read_copy
read_has n R c k l p d u =
    omega (
      arith,
      largest-at n (λ k. when (R k) ((c k).rows d u)) k l,
      when-yes (R k) ((c k).rows d u) p,
    )

-- and the least such.
pub read-least : (n : ℕ) (R : Items) (c : ℕ → BookCopy) (d u m : ℕ)
    → ((k : ℕ) → k < n → So (R k) → (c k).rows d u ≤ m) → (read_copy n R c).rows d u ≤ m
unfolding read_copy
read-least n R c d u m f =
    largest-le n (λ k. when (R k) ((c k).rows d u)) m
    (λ k l.
    test (R k)
    (λ y. omega (arith, when-yes (R k) ((c k).rows d u) y, f k l y))
    (λ z. omega (arith, when-no (R k) ((c k).rows d u) z)))

-- A save that is listed there is listed by one of them.
pub read_is : (n : ℕ) (R : Items) (c : ℕ → BookCopy) (d u m : ℕ) → 1 ≤ m
    → m ≤ (read_copy n R c).rows d u ↔ ((k : ℕ) × (k < n) × So (R k) × (m ≤ (c k).rows d u))
unfolding read_copy
read_is n R c d u m o =
    (there, λ r. omega (arith, r.3, read_has n R c r.0 r.1 r.2 d u))
  where
    there : m ≤ largest n (λ k. when (R k) ((c k).rows d u))
        → (k : ℕ) × (k < n) × So (R k) × (m ≤ (c k).rows d u)
    there l =
        let r = largest-some n (λ k. when (R k) ((c k).rows d u)) (omega arith) in
        test (R r.0)
        (λ y. (r.0, r.1, y, omega (arith, r.2, when-yes (R r.0) ((c r.0).rows d u) y)))
        (λ z. absurd (omega (arith, r.2, when-no (R r.0) ((c r.0).rows d u) z)))

module _ (B : Base) where
  pub carries-none : (h : History) → Carries B h (plain_copy_of none)
  carries-none h i p d u = absurd (false≢true p)

  pub carries-merge : (K : ℕ) (h : History) (a b : BookCopy) → Carries B h a → Carries B h b
      → Carries B h (merge_book K h a b)
  unfolding merge_book union join
  carries-merge K h a b f g i p d u =
      elim (or_cases (a.later i) (b.later i) p) [
        | inl q ↦ omega (arith, f i q d u)
        | inr q ↦ omega (arith, g i q d u)
      ]

  pub carries-grow : (e : Issue) (h : History) (c : BookCopy) → Below h c.later → Carries B h c
      → Carries B (e ∷ h) c
  carries-grow e h c below f i p d u = rw (list-low B e h i (below i p)) (f i p d u)

  -- A new version includes what stands behind its issue, and has the issue's list.
  pub carries-new : (K W : ℕ) (e : Issue) (h : History) → Sound K W (e ∷ h)
      → Carried B (e ∷ h) → (k : ℕ) → Carries B (e ∷ h) (record {
        later = in_past K (e ∷ h) (length h) k;
        rows = list_of B (e ∷ h) (length h);
        number = 0;
      })
  carries-new K W e h sound carried k i p d u =
      list-past B (e ∷ h) carried K W sound (length h) k i (omega arith) p d u

  -- ---- the history

  -- What a run has read carries on into its issue.
  pub carried-issue : (K W : ℕ) (e : Issue) (h : History) → Sound K W (e ∷ h) → Carried B h
      → ((c j : ℕ) → So (e.read c j) → (d u : ℕ) → list_of B h j d u ≤ e.rows d u)
      → Carried B (e ∷ h)
  carried-issue K W e h sound old new i c j p d u =
      let l = sound.reads i c j p in
      below-cases i (length h) (read_by_below (e ∷ h) i c j p)
      (λ q.
      let y = read_by_top e h c j ∙˙ (rw q at p) in
      rw (q, rows-top e h, list-low B e h j (omega (arith, l.1))) (new c j y d u))
      (λ m.
      rw (rows-low e h i m, list-low B e h j (omega (arith, l.1)))
      (old i c j (read_by_low e h i c j m ∙˙ p) d u))

  pub read-carries : (h : History) (n : ℕ) (R : Items) (c : ℕ → BookCopy)
      → ((k : ℕ) → k < n → So (R k) → Carries B h (c k))
      → (k j : ℕ) → k < n → So (R k && (c k).later j)
      → (d u : ℕ) → list_of B h j d u ≤ (read_copy n R c).rows d u
  read-carries h n R c f k j l p d u =
      let y = and_left (R k) ((c k).later j) p in
      omega (arith, f k l y j (and_right (R k) ((c k).later j) p) d u, read_has n R c k l y d u)

-- ---- the lists of a history

-- What runs had read was admitted, and lists are carried on.
pub record ListsSound (B : Base) (h : History) : Type 0 where
  pub within : (i : ℕ) → i < length h → (d u : ℕ) → rows_of h i d u ≤ B.saves d u
  pub carried : Carried B h

pub lists-empty : (B : Base) → ListsSound B []
unfolding read_by
lists-empty B =
    record {
      within = λ i l. absurd (not-suc-le-zero l);
      carried = λ i c j p. absurd
          (false≢true p);
    }

pub lists-issue : (B : Base) (K W : ℕ) (e : Issue) (h : History) → Sound K W (e ∷ h)
    → ListsSound B h → ((d u : ℕ) → e.rows d u ≤ B.saves d u)
    → ((c j : ℕ) → So (e.read c j) → (d u : ℕ) → list_of B h j d u ≤ e.rows d u)
    → ListsSound B (e ∷ h)
lists-issue B K W e h sound s low read = record {
  within = λ i l d u.
      below-cases i (length h) l (λ q. rw (q, rows-top e h) (low d u))
      (λ m. rw (rows-low e h i m) (s.within i m d u));
  carried = carried-issue B K W e h sound s.carried read;
}

module _ (B : Base) (based : Based B) where
  -- No writer lists more than was admitted,
  pub list-within : (h : History)
      → ((i : ℕ) → i < length h → (d u : ℕ) → rows_of h i d u ≤ B.saves d u)
      → (w d u : ℕ) → writer_list B h w d u ≤ B.saves d u
  unfolding writer_list join
  list-within [] f w d u = based.pasts w d u
  list-within (e ∷ h) f w d u =
      let low = list-within h (λ i l. rw (rows-low e h i l) at (f i (omega arith))) w d u in
      let top : e.rows d u ≤ B.saves d u =
      rw (rows-top e h) at (f (length h) (omega arith) d u) in
      test (eqb e.writer w) (λ y. rw y (omega arith)) (λ n. rw n low)

  -- nor an issue.
  pub list-most : (e : Issue) (h : History) → ListsSound B (e ∷ h)
      → (d u : ℕ) → list_of B (e ∷ h) (length h) d u ≤ B.saves d u
  list-most e h s d u =
      rw (sym (writer-now B e h)) (list-within (e ∷ h) s.within e.writer d u)
