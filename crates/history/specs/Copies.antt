-- Copies (document 01: "a copy: a set of saves, empty if not held"), what the rules ask of them,
-- and a copy counted.
-- Copy; reaches; held_copy, needs_copy, meets_copy, union. last_in, counted; CountedAs: a version
-- that is. leading: the writers that lead in a copy (CR 3).
-- Assumes nothing.
use Rattle.std.specs.Prelude.{◌≡◌, Bool, not, ◌&&◌, ◌||◌, ℕ, suc, eqb, length}
use Rattle.words.specs.Tests.{Items, any_below, all_below}
use Rattle.words.specs.Numbers.{count_below, largest, when}
use Rattle.clock.specs.Clock.{Clock}
use Rattle.model.specs.Algebra.{implies}
use Rattle.model.specs.Version.{Version}
use Rattle.history.specs.History.{History, writer_of, in_past}

-- A copy of a key: the issues of its writes.
abbrev pub Copy : Type 0
Copy = Items

-- A copy counted: an issue number and a past.
pub record CopyCount : Type 0 where
  pub issue : ℕ
  pub past : ℕ → Clock

-- A version with that number and past; its mask stands apart.
pub record CountedAs (v : Version) (n : CopyCount) : Type 0 where
  pub issue : v.issue ≡ n.issue
  pub past : v.past ≡ n.past

module _ (K : ℕ) (h : History) where
  -- The write of key d in issue j is in the copy, or stands behind a write in it.
  unfoldable pub reaches : Copy → ℕ → Items
  reaches c d j = any_below (length h) (λ i. c i && in_past K h i d j)

  unfoldable pub held_copy : Copy → Bool
  held_copy c = any_below (length h) c

  -- "A copy needs another sheet d if saves of d stand behind any of it."
  unfoldable pub needs_copy : ℕ → Copy → Items
  needs_copy k c d = not (eqb d k) && any_below (length h) (reaches c d)

  -- "a copy of d meets that if it has all these"
  unfoldable pub meets_copy : ℕ → Copy → Copy → Bool
  meets_copy d b c = all_below (length h) (λ j. implies (reaches c d j) (b j))

  -- "Merge is union."
  unfoldable pub union : Copy → Copy → Copy
  union a b i = a i || b i

  -- ---- "A version on the desk is its copy counted"

  -- The number of the last issue in a set, 0 for none.
  unfoldable pub last_in : Items → ℕ
  last_in p = largest (length h) (λ i. when (p i) (suc i))

  -- Issue i is by writer w.
  unfoldable pub by_writer : ℕ → Items
  by_writer w i = eqb (writer_of h i) w

  -- "the largest issue number in it; in row d, for each writer, how many issues by that writer
  -- the book has up to that writer's last save of d in the copy or behind a save in it; 0
  -- wherever there is none"
  unfoldable pub counted : Copy → CopyCount
  counted c = record {
    issue = last_in c;
    past = λ d w. count_below (last_in (λ j. reaches c d j && by_writer w j)) (by_writer w);
  }

  -- ---- CR 3: "the writers whose last included save stands behind no other included save"

  -- Issue i has the last write by writer u in the copy.
  unfoldable pub last_by : Copy → ℕ → Items
  last_by c u i = eqb (last_in (λ j. c j && by_writer u j)) (suc i)

  -- The write of key k in issue i stands behind another one in the copy, which is of key k.
  unfoldable pub behind_other : ℕ → Copy → Items
  behind_other k c i = any_below (length h) (λ t. c t && (not (eqb t i) && in_past K h t k i))

  -- Writer u leads in a copy of key k.
  unfoldable pub leading : ℕ → Copy → Items
  leading k c u = any_below (length h) (λ i. last_by c u i && not (behind_other k c i))
