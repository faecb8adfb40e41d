-- The book's copies. In a book that begins at an admission (CR 6) what stood on the desk then
-- isn't entered but listed.
-- Base: the admitted desk; no_base: none. BookCopy: a copy with its list; plain_copy_of: with
-- none.
-- held_book, needs_book, meets_book, merge_book, book_copies: what the rules ask. read_copy: the
-- copies that a run had read, together. shift, counted_copy: a copy counted.
-- An admitted save of key d is told by its writer u and a count n of u, as if each issue of u up
-- to its count had saved d. The sets of them that occur are "n up to a count": a set is a clock.
-- Assumes nothing.
use Rattle.std.specs.Prelude.{Bool, not, ◌&&◌, ◌||◌, ℕ, zero, suc, ◌+◌, max, eqb, leb, length}
use Rattle.words.specs.Tests.{Items, any_below, none}
use Rattle.words.specs.Numbers.{largest, when}
use Rattle.clock.specs.Clock.{Clock, dominates, present}
use Rattle.model.specs.Algebra.{Algebra}
use Rattle.model.specs.Version.{zero_past, join_pasts}
use Rattle.history.specs.History.{History}
use Rattle.history.specs.Copies.{Copy, CopyCount, reaches, held_copy, meets_copy, union, counted}

-- What the book takes over from the desk at an admission.
pub record Base : Type 0 where
  pub last : ℕ  -- the last issue number
  pub count : ℕ → ℕ  -- each writer's count
  pub past : ℕ → ℕ → Clock  -- each writer's past
  pub saves : ℕ → Clock  -- the master's own rows: all admitted saves

-- "as on a new desk"
abbrev pub no_base : Base
no_base = record { last = 0; count = λ w. 0; past = λ w. zero_past; saves = zero_past }

-- "a copy then admitted includes the saves that its own row counts, and behind them stand just
-- those in its own list": of a copy of key k, row k and the others. "These lists pass on by merge,
-- reading and issue".
pub record BookCopy : Type 0 where
  pub later : Copy  -- the issues entered since
  pub rows : ℕ → Clock
  pub number : ℕ  -- the largest issue number of an admitted version in it, 0 for none

-- A copy of nothing admitted.
abbrev pub plain_copy_of : Copy → BookCopy
plain_copy_of c = record { later = c; rows = zero_past; number = 0 }

-- ---- what the rules ask of such a copy

module _ (K : ℕ) (h : History) where
  unfoldable pub held_book : BookCopy → Bool
  held_book c = leb 1 c.number || held_copy K h c.later

  -- "Merge is union", also of what is listed.
  unfoldable pub merge_book : BookCopy → BookCopy → BookCopy
  merge_book a b = record {
    later = union K h a.later b.later;
    rows = join_pasts a.rows b.rows;
    number = max a.number b.number;
  }

module _ (K W : ℕ) (h : History) where
  -- "A copy needs another sheet d if saves of d stand behind any of it": later ones, or listed.
  unfoldable pub needs_book : ℕ → BookCopy → Items
  needs_book k c d =
      not (eqb d k)
      && (any_below (length h) (reaches K h c.later d) || present W (c.rows d))

  -- "a copy of d meets that if it has all these"
  unfoldable pub meets_book : ℕ → BookCopy → BookCopy → Bool
  meets_book d b c =
      meets_copy K h d b.later c.later && dominates W (b.rows d) (c.rows d)

  -- Copies in a book of W writers.
  abbrev pub book_copies : Algebra BookCopy
  book_copies = record {
    nothing = plain_copy_of none;
    held = held_book K h;
    needs = needs_book;
    meets = meets_book;
    merge = λ k. merge_book K h;
  }

-- ---- "reading": what an issue takes over

-- The copies c of the keys in R below n, together: their later saves, and their lists joined.
unfoldable pub read_copy : ℕ → Items → (ℕ → BookCopy) → BookCopy
read_copy n R c = record {
  later = λ i. any_below n (λ k. R k && (c k).later i);
  rows = λ d u. largest n (λ k. when (R k) ((c k).rows d u));
  number = 0;
}

-- ---- "A version on the desk is its copy counted"

-- A count or number that goes on from a: n more than a, but 0 for none.
unfoldable pub shift : ℕ → ℕ → ℕ
shift a zero = 0
shift a (suc n) = a + suc n

module _ (K : ℕ) (h : History) where
  -- The later saves counted from the base on, together with what is listed: "the largest issue
  -- number"; "in row d, for each writer" the larger count.
  unfoldable pub counted_copy : Base → BookCopy → CopyCount
  counted_copy B c =
      let n = counted K h c.later in
      record {
        issue = max c.number (shift B.last n.issue);
        past = λ d w. max (c.rows d w) (shift (B.count w) (n.past d w));
      }
