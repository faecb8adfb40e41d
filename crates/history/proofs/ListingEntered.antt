-- An issue entered in a book that begins at an admission (CR 6): the new version and the writers'
-- pasts are copies with lists, counted.
-- listed_as: issues with a list. entered_rows, entered_version: the new version, as a store makes
-- it. new-counted: the new version's copy. writer-rows, other-rows: the writers.
-- Assumes nothing.
use mathlib.Core.Path.{◌≡◌, refl, sym, ap, fun_ext}
use mathlib.Core.Bool.{cond, ◌&&◌, So}
use mathlib.Core.Logic.{◌≢◌}
use mathlib.Core.List.{[], ◌∷◌}
use Prim.Native.Nat.{ℕ, suc, ◌+◌, ◌≤◌, ◌^◌, max}
use native.Mathlib.Omega.{arith}
use lib.Dec.{eqb}
use lib.ListN.{length}
use Rattle.words.specs.Tests.{any_below}
use Rattle.words.specs.Numbers.{count_below}
use Rattle.words.proofs.Bools.{test, and_right, eqb-eq, ne_eqb}
use Rattle.clock.specs.Clock.{Clock, join}
use Rattle.model.specs.Version.{Version}
use Rattle.history.specs.History.{Issue, History, in_past}
use Rattle.history.specs.Copies.{Copy, CountedAs, held_copy, by_writer, counted}
use Rattle.history.specs.Listing.{Base, BookCopy, shift, counted_copy}
use Rattle.history.proofs.Notions.{PastLaws}
use Rattle.history.proofs.Counted.{counted-unheld}
use Rattle.history.proofs.Entered.{mine, read_any, entered_past, entered, new_version-counted, writer-past, other-past}
use Rattle.history.specs.Lists.{writer_list, list_of}
use Rattle.history.proofs.Lists.{list-top, writer-now}
use Rattle.history.proofs.Shifts.{shift_none, shift-some, shift-max}

-- Issues with a list, and no admitted version: what a writer has, or a new version.
abbrev pub listed_as : Copy → (ℕ → Clock) → BookCopy
listed_as c list = record { later = c; rows = list; number = 0 }

module _ (K : ℕ) (e : Issue) (h : History) (B : Base) where
  -- The writer's list before the issue.
  abbrev own : ℕ → Clock
  own = writer_list B h e.writer

  -- The issue's.
  abbrev list : ℕ → Clock
  list = list_of B (e ∷ h) (length h)

  -- The writer's past takes in those that the run read, and gets the new count in the keys issued.
  unfoldable pub entered_rows : ℕ → Clock
  entered_rows d u =
      cond (e.keys d && eqb u e.writer)
      (suc (B.count e.writer + count_below (length h) (by_writer K h e.writer)))
      (join ((counted_copy K h B (listed_as (by_writer K h e.writer) own)).past d)
      ((counted_copy K h B (listed_as (read_any K e h) e.rows)).past d) u)

  unfoldable pub entered_version : Version
  entered_version = record {
    issue = suc (B.last + length h);
    leaders = 2 ^ e.writer;
    past = entered_rows;
  }

  -- Lists are within the counts at the admission.
  module _ (laws : PastLaws K h) (within : (d u : ℕ) → list d u ≤ B.count u) where
    -- The list of the issue with its count from the base on.
    shifted : (d u : ℕ)
        → max (list d u) (shift (B.count u) (entered_past K e h d u))
        ≡ entered_rows d u
    unfolding entered_rows entered_past counted_copy join
    shifted d u =
        let n = count_below (length h) (mine K e h) in
        let a = (counted K h (mine K e h)).past d u in
        let c = (counted K h (read_any K e h)).past d u in
        let is : list d u ≡ max (own d u) (e.rows d u) =
        ap (λ (r : ℕ → Clock). r d u) (list-top B e h) in
        test (e.keys d && eqb u e.writer)
        (λ y.
        let w = eqb-eq u e.writer (and_right (e.keys d) (eqb u e.writer) y) in
        let same : B.count u ≡ B.count e.writer = ap B.count w in
        rw y (omega (arith, within d u, shift-some (B.count u) (suc n) (omega arith))))
        (λ m. rw m (omega (arith, shift-max (B.count u) a c)))

    -- The new version is its copy counted.
    pub new-counted : PastLaws K (e ∷ h) → (k : ℕ) → So (e.keys k)
        → CountedAs entered_version (counted_copy K (e ∷ h) B
        (listed_as (in_past K (e ∷ h) (length h) k) list))
    unfolding entered_version counted_copy entered
    new-counted up k s =
        let v = new_version-counted K e h laws up k s in
        let c = counted K (e ∷ h) (in_past K (e ∷ h) (length h) k) in
        record {
          issue = let o = shift-some B.last c.issue (omega (arith, v.issue)) in
              omega (arith, v.issue);
          past = fun_ext (λ d. fun_ext (λ u.
              sym (rw (sym v.past) (shifted d u))));
        }

    -- The writer's past after it is that of all its issues, with the issue's list.
    pub writer-rows : (counted_copy K (e ∷ h) B
        (listed_as (by_writer K (e ∷ h) e.writer) (writer_list B (e ∷ h) e.writer))).past
        ≡ entered_rows
    unfolding counted_copy
    writer-rows =
        fun_ext (λ d. fun_ext (λ u.
        rw (writer-past K e h laws, writer-now B e h) (shifted d u)))

-- Before any issue a writer's past is the one at the admission.
pub begin-past : (K : ℕ) (B : Base) (w : ℕ)
    → (counted_copy K [] B (listed_as (by_writer K [] w) (writer_list B [] w))).past ≡ B.past w
unfolding counted_copy writer_list held_copy any_below
begin-past K B w =
    let none = (counted-unheld K [] (by_writer K [] w) refl).past in
    fun_ext (λ d. fun_ext (λ u. omega (
      arith,
      shift_none (B.count u) ((counted K [] (by_writer K [] w)).past d u)
          (sym (ap (λ (p : ℕ → Clock). p d u) none)),
    )))

-- The other writers' pasts are as they were.
pub other-rows : (K : ℕ) (e : Issue) (h : History) (B : Base) → PastLaws K h
    → (w : ℕ) → e.writer ≢ w
    → (counted_copy K (e ∷ h) B (listed_as (by_writer K (e ∷ h) w) (writer_list B (e ∷ h) w))).past
    ≡ (counted_copy K h B (listed_as (by_writer K h w) (writer_list B h w))).past
unfolding counted_copy writer_list
other-rows K e h B laws w ne =
    fun_ext (λ d. fun_ext (λ u.
    rw (other-past K e h laws w ne, ne_eqb e.writer w ne)))
