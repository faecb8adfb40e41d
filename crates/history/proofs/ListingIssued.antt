-- The master after an issue, in a book that begins at an admission (CR 6): the new version alone
-- may not have all admitted saves, but the master's copy that takes it in has.
-- good-grow, book-grown: a copy of before. Issued, issued-book: the master's copy after the issue.
-- Assumes nothing.
use mathlib.Core.Path.{◌≡◌, ◌∙◌}
use mathlib.Core.Bool.{So}
use mathlib.Core.List.{◌∷◌}
use Prim.Native.Nat.{ℕ, ◌≤◌}
use native.Mathlib.Omega.{arith}
use lib.ListN.{length}
use Rattle.words.proofs.Bools.{clash, ◌∙˙◌}
use Rattle.clock.specs.Clock.{Clock}
use Rattle.model.specs.Version.{Version, merge}
use Rattle.history.specs.History.{Issue, History, in_past}
use Rattle.history.specs.Copies.{Copy, CountedAs}
use Rattle.history.specs.Listing.{Base, BookCopy, merge_book, counted_copy}
use Rattle.history.specs.Lists.{list_of}
use Rattle.history.proofs.Notions.{PastLaws, Sound, Good}
use Rattle.history.proofs.Lists.{Carried}
use Rattle.history.proofs.Carrying.{carries-merge, carries-grow, carries-new}
use Rattle.history.proofs.Past.{saved-top, saved_low, past-low, past-laws}
use Rattle.history.proofs.Reached.{good-union, good-past}
use Rattle.history.proofs.Listed.{Based, BlankList, listed-issued, issued-full}
use Rattle.history.proofs.ListingMerged.{merge-counted, book-grow}
use Rattle.history.proofs.ListingEntered.{listed_as, entered_version, new-counted}
use Rattle.history.proofs.BookWrites.{GoodBook}

-- ---- a copy of before

pub good-grow : (K : ℕ) (e : Issue) (h : History) (k : ℕ) (c : Copy) → Good K h k c
    → Good K (e ∷ h) k c
good-grow K e h k c g = record {
  writes = λ i p. let w = g.writes i p in (omega arith, rw (saved_low e h k i w.0) w.1);
  behind = λ i j p q.
      g.behind i j p (past-low K e h i k j (g.writes i p).0 ∙˙ q);
}

pub book-grown : (K W : ℕ) (e : Issue) (h : History) (B : Base) (k : ℕ) (c : BookCopy)
    → GoodBook K W h B k c → GoodBook K W (e ∷ h) B k c
book-grown K W e h B k c g =
    record {
      good = good-grow K e h k c.later g.good;
      listed = g.listed;
      carries = carries-grow B e h c (λ i p. (g.good.writes i p).0) g.carries;
    }

-- ---- the master's copy of a key that was issued

-- v stands for c, a copy of key k that has all admitted saves.
pub record Whole (K W : ℕ) (h : History) (B : Base) (k : ℕ) (v : Version) (c : BookCopy) : Type 0
  where
    pub counts : CountedAs v (counted_copy K h B c)
    pub good : GoodBook K W h B k c
    pub all : c.rows k ≡ B.saves k

-- A key that was not issued.
pub whole-grow : (K W : ℕ) (e : Issue) (h : History) (B : Base) (k : ℕ) (v : Version)
    (c : BookCopy) → Whole K W h B k v c → Whole K W (e ∷ h) B k v c
whole-grow K W e h B k v c r = record {
  counts = rw (book-grow K e h B (past-laws K h) c (λ i p. (r.good.good.writes i p).0))
      r.counts;
  good = book-grown K W e h B k c r.good;
  all = r.all;
}

pub issued-book : (K W : ℕ) (e : Issue) (h : History) (B : Base) → Based B → Sound K W (e ∷ h)
    → Carried B (e ∷ h) → ((d u : ℕ) → list_of B (e ∷ h) (length h) d u ≤ B.saves d u)
    → (k : ℕ) → So (e.keys k) → (v : Version) (m : BookCopy) → Whole K W h B k v m
    → Whole K W (e ∷ h) B k (merge W k v (entered_version K e h B))
    (merge_book K (e ∷ h) m
    (listed_as (in_past K (e ∷ h) (length h) k) (list_of B (e ∷ h) (length h))))
unfolding merge_book
issued-book K W e h B based sound carried low k s v m r = record {
  counts = merge-counted K (e ∷ h) B W k v (entered_version K e h B) m new old
      (new-counted K e h B (past-laws K h) within up k s) before.good made
      before.listed.blank blank;
  good = record {
    good = good-union K (e ∷ h) k m.later top before.good made;
    listed = listed-issued K (e ∷ h) B W k m r.all top list low before.listed (length h) has;
    carries = carries-merge B K (e ∷ h) m new before.carries
        (carries-new B K W e h sound carried k);
  };
  all = issued-full K (e ∷ h) B W k m r.all top list low;
}
  where
    list : ℕ → Clock
    list = list_of B (e ∷ h) (length h)

    top : Copy
    top = in_past K (e ∷ h) (length h) k

    new : BookCopy
    new = listed_as top list

    up : PastLaws K (e ∷ h)
    up = past-laws K (e ∷ h)

    -- Its own save is in it,
    has : So (top (length h))
    has = up.own (length h) k (omega arith) (saved-top e h k ∙ s)

    blank : BlankList new
    blank _ f = clash has (f (length h))

    made : Good K (e ∷ h) k top
    made = good-past K (e ∷ h) up (length h) k (omega arith)

    within : (d u : ℕ) → list d u ≤ B.count u
    within d u = omega (arith, low d u, based.counts d u)

    before : GoodBook K W (e ∷ h) B k m
    before = book-grown K W e h B k m r.good

    old : CountedAs v (counted_copy K (e ∷ h) B m)
    old =
        rw (book-grow K e h B (past-laws K h) m (λ i p. (r.good.good.writes i p).0))
        r.counts
