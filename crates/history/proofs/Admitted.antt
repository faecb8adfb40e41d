-- What stands on an admitted store can be the copies of a book that begins there (CR 6).
-- base-based: the base. admitted-good, admitted-counted: a version's copy. admitted-empty: a mask,
-- where nothing was admitted.
-- Assumes nothing.
use mathlib.Core.Path.{◌≡◌, sym, ap, fun_ext}
use mathlib.Core.Bool.{false, So, false≢true}
use mathlib.Core.Logic.{⊎_elim}
use mathlib.Core.List.{[]}
use Prim.Native.Nat.{ℕ, ◌≤◌, ◌<◌}
use native.Mathlib.Omega.{arith}
use lib.Dec.{eqb}
use Rattle.words.specs.Tests.{none}
use Rattle.words.proofs.Bools.{test, and_left, eqb-eq}
use Rattle.words.proofs.Tests.{below_or_not}
use Rattle.clock.specs.Clock.{Clock, Dominates}
use Rattle.clock.proofs.Order.{present-some}
use Rattle.sizes.specs.declared.Counts.{Counts}
use Rattle.model.specs.Version.{Version, zero_past, held}
use Rattle.model.specs.Store.{Writer, Store}
use Rattle.model.specs.Form.{zero_rows, zero_version, version_formed}
use Rattle.model.proofs.Merges.{held-iff}
use Rattle.model.proofs.FormedPlaces.{VersionFormed, version-row, version-zero}
use Rattle.model.proofs.Admits.{Covered, Admissible}
use Rattle.layout.proofs.Parts.{FitPast, FitVersion}
use Rattle.layout.proofs.Follow.{Fine}
use Rattle.history.specs.Copies.{CountedAs, counted}
use Rattle.history.specs.Listing.{Base, no_base, counted_copy}
use Rattle.history.specs.Admission.{base_of, admitted_copy}
use Rattle.history.proofs.Reached.{good_none}
use Rattle.history.proofs.Counted.{counted_none}
use Rattle.history.proofs.Shifts.{shift_none}
use Rattle.history.proofs.Listed.{Based}
use Rattle.history.proofs.BookWrites.{GoodBook}

-- A past has nothing outside of the counts, so what covers it within them covers it.
covers-all : (z : Counts) (q r : ℕ → Clock) → FitPast z q
    → ((d : ℕ) → d < z.keys → Dominates z.writers (r d) (q d)) → (d u : ℕ) → q d u ≤ r d u
covers-all z q r F g d u =
    ⊎_elim
    (λ l. ⊎_elim (λ i. g d l u i) (λ i. omega (arith, (F.each d l).rest u i))
    (below_or_not u z.writers))
    (λ l. omega (arith, ap (λ (p : Clock). p u) (F.rest d l)))
    (below_or_not d z.keys)

module _ (s : Store) (F : Fine s) (A : Admissible s) where
  -- ---- the base

  saves-fit : FitPast s.counts (λ d. (s.master d).past d)
  saves-fit = record {
    each = λ d l. (F.fits.master.each d l).past.each d l;
    rest = λ d l. ap (λ (v : Version). v.past d) (F.fits.master.rest d l);
  }

  pub base-based : Based (base_of s)
  unfolding base_of
  base-based = record {
    pasts = λ w d u.
        ⊎_elim
        (λ l. covers-all s.counts (s.writer w).past (λ d. (s.master d).past d)
        (F.fits.writer.each w l).past (A.covered.writers w l) d u)
        (λ l. omega (
          arith,
          ap (λ (x : Writer). x.past d u) (F.fits.writer.rest w l),
        ))
        (below_or_not w s.counts.writers);
    counts = covers-all s.counts (λ d. (s.master d).past d) (λ d u. (s.writer u).count)
        saves-fit (λ d l. A.counted.versions.master d l d l);
  }

  -- ---- a version of key k, and its copy

  module _ (k : ℕ) (v : Version) (fit : FitVersion s.counts v)
      (formed : VersionFormed s.counts k v) (covered : Covered s v.past) where
    low : (d u : ℕ) → v.past d u ≤ (base_of s).saves d u
    unfolding base_of
    low = covers-all s.counts v.past (λ d. (s.master d).past d) fit.past covered

    unheld-zero : v.issue ≡ 0 → v.past ≡ zero_past
    unheld-zero e =
        let n : held v ≡ false =
        test (held v) (λ y. absurd (omega (arith, (held-iff v).0 y))) (λ n. n) in
        let zero = covers-all s.counts v.past zero_past fit.past
        (λ d l u i. omega (arith, version-zero s.counts k v formed n d l u i)) in
        fun_ext (λ d. fun_ext (λ u. omega (arith, zero d u)))

    pub admitted-good : v.issue ≤ s.last
        → GoodBook s.counts.keys s.counts.writers [] (base_of s) k (admitted_copy v)
    unfolding base_of
    admitted-good number = record {
      good = good_none s.counts.keys [] k;
      listed = record {
        low = low;
        full = λ i p. absurd (false≢true p);
        blank = λ e _. unheld-zero e;
        own = λ l. version-row s.counts k v formed ((held-iff v).1 l);
        number = number;
      };
      carries = λ i p. absurd (false≢true p);
    }

    -- Where nothing was admitted there is no version, and no mask.
    pub admitted-empty : base_of s ≡ no_base → v.leaders ≡ 0
    unfolding version_formed zero_version
    admitted-empty e =
        test (held v)
        (λ y.
        let r = present-some s.counts.writers (v.past k)
        (version-row s.counts k v formed y) in
        let none : (base_of s).saves k r.0 ≡ 0 = ap (λ (b : Base). b.saves k r.0) e in
        absurd (omega (arith, r.2, low k r.0, none)))
        (λ n.
        let z : So (zero_version s.counts v) = rw n at formed in
        eqb-eq _ _ (and_left (eqb v.leaders 0) (zero_rows s.counts v) z))

-- It is its copy counted.
pub admitted-counted : (K : ℕ) (B : Base) (v : Version)
    → CountedAs v (counted_copy K [] B (admitted_copy v))
unfolding counted_copy
admitted-counted K B v =
    let z = counted_none K [] in
    record {
      issue = omega (arith, shift_none B.last (counted K [] none).issue (sym z.issue));
      past = fun_ext (λ d. fun_ext (λ w. omega (
        arith,
        shift_none (B.count w) ((counted K [] none).past d w)
            (sym (ap (λ (p : ℕ → Clock). p d w) z.past)),
      )));
    }
