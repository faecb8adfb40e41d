-- A merge of key k of two places, told from their words without merging (CR 10).
-- leading-is: who leads it. pasts-compared: all rows of the two pasts at once. kept-is: the test
-- of one version from its parts. moved-not, moved-is: whether a key moves.
-- Assumes nothing.
use mathlib.Core.Path.{◌≡◌, sym, ap, ap₂, ◌∙◌}
use mathlib.Core.Bool.{Bool, false, not, ◌&&◌, ◌||◌, So}
use mathlib.Core.List.{List}
use Prim.Native.Nat.{ℕ, ◌*◌, ◌<◌}
use lib.Dec.{eqb, leb}
use Rattle.words.specs.Tests.{all_below}
use Rattle.words.proofs.Bools.{not_elim, or-none}
use Rattle.masks.specs.Mask.{test_bit}
use Rattle.clock.specs.declared.Standing.{Standing}
use Rattle.clock.specs.Clock.{standing, covering, covered, dominates, clock_at}
use Rattle.sizes.specs.declared.Counts.{Counts}
use Rattle.sizes.specs.Bounds.{past_size, key_at, row_at}
use Rattle.model.specs.Version.{Version, held, merged_leaders}
use Rattle.model.specs.Store.{Branch}
use Rattle.model.specs.Stays.{moved_keys, leaders_merged, keeps, stays_by_of, stays_other_by}
use Rattle.model.proofs.Merges.{leaders-same}
use Rattle.model.proofs.Rows.{Flat, rows-cover, rows-covered}
use Rattle.model.proofs.Moved.{moved_by_lem, moved-key}
use Rattle.layout.specs.Reading.{read_place}
use Rattle.layout.proofs.Places.{place_at_lem}
use Rattle.layout.proofs.Pasts.{row_first}
use Rattle.layout.proofs.Readings.{row_word}
use Rattle.layout.proofs.Inside.{version-flat}
use Rattle.version.specs.Branches.{ReadHeld}

-- ---- the parts, in words

module _ (z : Counts) (l : List ℕ) (a b k : ℕ) (h : k < z.keys) where
  abbrev W : ℕ
  W = z.writers

  abbrev K : ℕ
  K = z.keys

  abbrev A : Version
  A = read_place z l a k

  abbrev B : Version
  B = read_place z l b k

  -- By both masks, and both own rows.
  pub leading-is : (r m p n q : ℕ) → r ≡ merged_leaders W m (clock_at l p) n (clock_at l q)
      → m ≡ A.leaders → p ≡ row_at z (key_at z a k) k
      → n ≡ B.leaders → q ≡ row_at z (key_at z b k) k
      → r ≡ leaders_merged W k A B
  leading-is r m p n q e em ep en eq =
      e
      ∙ (ap₂ (λ (m n : ℕ). merged_leaders W m (clock_at l p) n (clock_at l q)) em en
      ∙ leaders-same W A.leaders B.leaders
      (clock_at l p) (A.past k) (clock_at l q) (B.past k)
      (λ u i. rw ep (sym (row_word z l a k k u h h i)))
      (λ u i. rw eq (sym (row_word z l b k k u h h i))))

  -- The past of a key lies in the words as one clock.
  flat : (at : ℕ) → Flat W K (read_place z l at k).past (clock_at l (row_at z (key_at z at k) 0))
  flat at = rw (place_at_lem z l at k h, row_first z (key_at z at k)) (version-flat z l
      (key_at z at k))

  pub pasts-compared : (r : Standing) (n p q : ℕ) → r ≡ standing n (clock_at l p) (clock_at l q)
      → n ≡ past_size z → p ≡ row_at z (key_at z a k) 0 → q ≡ row_at z (key_at z b k) 0
      → (covering r ≡ all_below K (λ d. dominates W (A.past d) (B.past d)))
      × (covered r ≡ all_below K (λ d. dominates W (B.past d) (A.past d)))
  unfolding past_size
  pasts-compared r n p q e en ep eq =
      let f = clock_at l (row_at z (key_at z a k) 0) in
      let g = clock_at l (row_at z (key_at z b k) 0) in
      let s : r ≡ standing (K * W) f g = rw (← en, ← ep, ← eq) e in (
        ap covering s ∙ rows-cover W K A.past B.past f g (flat a) (flat b),
        ap covered s ∙ rows-covered W K A.past B.past f g (flat a) (flat b),
      )

-- ---- one version

-- Version a of number x and mask m, merged with version b of number y, by the mask of the merge.
pub kept-is : (W K : ℕ) (a b : Version) (r s : Bool) (x y m lead merged : ℕ)
    → r ≡ not (leb 1 y) || (leb y x && (eqb lead m && s))
    → x ≡ a.issue → y ≡ b.issue → m ≡ a.leaders → lead ≡ merged
    → s ≡ all_below K (λ d. dominates W (a.past d) (b.past d))
    → r ≡ not (held b) || keeps W K merged a b
unfolding held keeps
kept-is W K a b r s x y m lead merged e ex ey em el es =
    rw (← ex, ← ey, ← em, ← el, ← es) e

-- ---- one key

module _ (z : Counts) (x y : Branch) (k : ℕ) where
  -- Read on neither line.
  pub moved-not : So (not (test_bit x.read k || test_bit y.read k)) → false ≡ moved_keys z x y k
  unfolding moved_keys
  moved-not s =
      let n = or-none (test_bit x.read k) (test_bit y.read k) (not_elim s) in
      rw (n.0, n.1)

  pub moved-is : ReadHeld z x → k < z.keys → (r p q : Bool)
      → r ≡ (test_bit x.read k && not p) || (test_bit y.read k && not q)
      → p ≡ stays_by_of z.writers z.keys k (x.snapshot k) (y.snapshot k)
      → q ≡ stays_other_by z.writers z.keys k (x.snapshot k) (y.snapshot k)
      → r ≡ moved_keys z x y k
  unfolding moved_by_lem
  moved-is H h r p q e ep eq = rw (moved-key z x y k (H k h), ← ep, ← eq) e
