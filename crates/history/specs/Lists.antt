-- What stands behind an issue, and behind a copy, of the saves that were admitted (CR 6).
-- ListedBefore: the clauses, of an issue. IncludesAdmitted, ListedBehind: of a copy. writer_list,
-- list_of: a writer's list, an issue's.
-- The admitted save of key d by writer u at count n, from 1 on, is told by d, u and n
-- (specs/Listing).
-- Assumes nothing.
use Rattle.std.specs.Prelude.{cond, [], ◌∷◌, ℕ, ◌≤◌, ◌<◌, eqb, length}
use Rattle.std.proofs.Math.Bool.{So}
use Rattle.clock.specs.Clock.{Clock}
use Rattle.model.specs.Version.{zero_past, join_pasts}
use Rattle.history.specs.History.{History, writer_of, rows_of, HappensBefore}
use Rattle.history.specs.Listing.{Base, BookCopy}

-- ---- in the paper's words

-- "needs listed at admission in place of the earlier history": an admitted save stands behind the
-- saves of issue i
pub data ListedBefore (B : Base) (h : History) : ℕ → ℕ → ℕ → ℕ → Type 0 where
  -- "behind a writer's next issue also those in that writer's past"
  in_past_of : {d u n i : ℕ} → i < length h → n ≤ B.past (writer_of h i) d u
      → ListedBefore B h d u n i
  -- if a copy that its run had read includes or lists it
  in_read : {d u n i : ℕ} → i < length h → n ≤ rows_of h i d u → ListedBefore B h d u n i
  -- "or through a chain of these"; none leads on from an admitted save: "they aren't chained
  -- through another copy's list"
  chained : {d u n j c e i : ℕ} → ListedBefore B h d u n j → HappensBefore h c j e i
      → ListedBefore B h d u n i

-- "a copy then admitted includes the saves that its own row counts": of key k, by writer u at
-- count n
abbrev pub IncludesAdmitted : ℕ → BookCopy → ℕ → ℕ → Type 0
IncludesAdmitted k c u n = n ≤ c.rows k u

-- An admitted save stands behind a copy, or is in it (its own row): "just those in its own list",
-- and those behind its later saves.
pub data ListedBehind (B : Base) (h : History) (c : BookCopy) : ℕ → ℕ → ℕ → Type 0 where
  in_list : {d u n : ℕ} → n ≤ c.rows d u → ListedBehind B h c d u n
  in_later : {d u n i : ℕ} → So (c.later i) → ListedBefore B h d u n i → ListedBehind B h c d u n

-- ---- as the book keeps it: "These lists pass on by merge, reading and issue"

module _ (B : Base) where
  -- A writer's: its past at the admission, and what the runs of its issues had read.
  unfoldable pub writer_list : History → ℕ → ℕ → Clock
  writer_list [] w = B.past w
  writer_list (e ∷ h) w =
      cond (eqb e.writer w) (join_pasts (writer_list h w) e.rows) (writer_list h w)

  -- Of issue i: its writer's, with what its run had read.
  unfoldable pub list_of : History → ℕ → ℕ → Clock
  list_of [] i = zero_past
  list_of (e ∷ h) i =
      cond (eqb i (length h)) (join_pasts (writer_list h e.writer) e.rows) (list_of h i)
