-- What the exported calls on two lent clocks give.
-- alike: clocks that can be compared. compared: the answer of `sheetdesk_compare`. covers: that of
-- `sheetdesk_covers`. together, merged: that of `sheetdesk_merge`, and the target that it leaves.
-- Assumes nothing.
use Rattle.std.specs.Prelude.{Bool, cond, ◌&&◌, List, ℕ, eqb, leb, length}
use Rattle.words.specs.Numbers.{when}
use Rattle.words.specs.Words.{put}
use Rattle.clock.specs.Clock.{standing, standing_number, dominates, join, clock_at}
use Rattle.sizes.specs.Bounds.{max_writers}

-- Of one length, which doesn't exceed the most writers.
unfoldable pub alike : List ℕ → List ℕ → Bool
alike p q = eqb (length p) (length q) && leb (length p) max_writers

-- "0 equal, 1 older, 2 newer, 3 rival": p against q, and 4 if they aren't alike.
unfoldable pub compared : List ℕ → List ℕ → ℕ
compared p q =
    cond (alike p q) (standing_number (standing (length p) (clock_at p 0) (clock_at q 0))) 4

-- "Clock p covers q if every count of p is at least that of q": 1 or 0, and 2 if they aren't
-- alike.
unfoldable pub covers : List ℕ → List ℕ → ℕ
covers p q =
    cond (alike p q) (when (dominates (length p) (clock_at p 0) (clock_at q 0)) 1) 2

-- 1 for clocks that are alike, and 0 for others.
unfoldable pub together : List ℕ → List ℕ → ℕ
together t s = when (alike t s) 1

-- The larger count at each place; t itself if they aren't alike.
unfoldable pub merged : List ℕ → List ℕ → List ℕ
merged t s = cond (alike t s) (put t 0 (length t) (join (clock_at t 0) (clock_at s 0))) t
