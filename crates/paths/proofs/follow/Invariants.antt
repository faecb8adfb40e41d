-- `follow` has the items of the path. The loop's invariant: those passed are stored, and what is
-- left of the path begins in the mask.
-- Assumes nothing.
-- What is left of the path as the loop turns, and the item that is found.
use mathlib.Core.Path.{◌≡◌}
use mathlib.Core.List.{List}
use Prim.Native.Nat.{ℕ, ◌+◌, ◌≤◌, ◌-◌}
use lib.ListN.{length, get_or}
use Rattle.words.specs.Words.{put}
use Rattle.masks.specs.Mask.{test_bit}
use Rattle.paths.specs.Path.{path_by}
use Rattle.paths.specs.Rows.{leads_by, no_items_of}
use Rattle.paths.proofs.Following.{Going}
use Rattle.paths.proofs.follow.Given as goal

abbrev pathOf : List ℕ → ℕ → List ℕ → ℕ → ℕ → List ℕ
pathOf rows n masks start m =
    path_by n (leads_by rows) (test_bit (get_or masks 0 0)) m (test_bit start)

abbrev pub invariant-loop-i : goal.invariant-loop-i
invariant-loop-i l =
    (l.i ≤ l.m + 1) × (length l.items ≡ 32)
    × (l.items ≡ put no_items_of 0 l.i (λ j. get_or (pathOf l.rows l.n l.masks l.start l.m) j 0))
    × (l.i ≤ l.m → Going l.rows l.n (get_or l.masks 0 0) (pathOf l.rows l.n l.masks l.start l.m)
    l.i (l.m - l.i) l.from)
