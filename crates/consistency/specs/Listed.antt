-- CR 6: what stands behind of the saves that were admitted, at one point of a list.
-- ListIsBefore: an issue's list is the paper's clauses. Lists: a copy's; ListsPlace: of a place.
-- ListsHold: all of it.
-- Assumes nothing.
use Rattle.std.specs.Prelude.{◌≡◌, ◌↔◌, List, ℕ, ◌≤◌, ◌<◌, length}
use Rattle.std.proofs.Math.Bool.{So}
use Rattle.model.specs.Algebra.{Place}
use Rattle.model.specs.Store.{Store}
use Rattle.history.specs.History.{History}
use Rattle.history.specs.Listing.{Base, BookCopy}
use Rattle.history.specs.Lists.{ListedBefore, ListedBehind, list_of}
use Rattle.history.specs.Book.{book_branch, Book}
use Rattle.consistency.specs.Trace.{ReadSet, Among}

-- Behind the saves of issue i stands the admitted save of key d by writer u at count n just where
-- n is within the issue's list.
abbrev pub ListIsBefore : Base → History → Type 0
ListIsBefore B h =
    (d u n i : ℕ) → i < length h → ListedBefore B h d u n i ↔ n ≤ list_of B h i d u

pub record Lists (B : Base) (h : History) (c : BookCopy) : Type 0 where
  -- "behind them stand just those in its own list", also behind what it took in since
  pub behind : (d u n : ℕ) → ListedBehind B h c d u n ↔ n ≤ c.rows d u
  -- which were admitted
  pub admitted : (d u : ℕ) → c.rows d u ≤ B.saves d u
  pub number : c.number ≤ B.last

abbrev pub ListsPlace : ℕ → Base → History → Place BookCopy → Type 0
ListsPlace K B h p = (k : ℕ) → k < K → Lists B h (p k)

pub record ListsHold (s : Store) (b : Book) (finished : ℕ → List ReadSet) : Type 0 where
  pub issues : ListIsBefore b.base b.history
  pub master : ListsPlace s.counts.keys b.base b.history b.master
  pub caches : (o : ℕ) → o < s.counts.sites
      → ListsPlace s.counts.keys b.base b.history (b.cache o)
  pub snapshots : (r n : ℕ) → r < s.counts.runs
      → ListsPlace s.counts.keys b.base b.history (book_branch n (b.run r)).snapshot
  pub reads : (r : ℕ) (x : ReadSet) → Among x (finished r) → (k : ℕ) → k < s.counts.keys
      → So (x.keys k) → Lists b.base b.history (x.copy k)
  -- The master has every admitted save.
  pub every : (k u : ℕ) → k < s.counts.keys → (b.master k).rows k u ≡ b.base.saves k u
