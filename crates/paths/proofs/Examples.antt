-- Shortest paths worked out by hand, computed.
-- Assumes nothing.
use mathlib.Core.Path.{◌≡◌, refl}
use mathlib.Core.List.{List, [], ◌∷◌}
use Prim.Native.Nat.{ℕ}
use lib.ListN.{get_or}
use Rattle.words.specs.Tests.{any_below}
use Rattle.masks.specs.Mask.{test_bit}
use Rattle.paths.specs.Path.{lowest, near, distance, nearest, path_by, shortest_path}

-- From one mask of items to another, by a mask for each item of those that it leads to.
unfoldable found : ℕ → List ℕ → ℕ → ℕ → List ℕ
found n rows start goal =
    shortest_path n (λ t. test_bit (get_or rows t 0)) (test_bit start) (test_bit goal)

-- All of a line; nothing against its direction; an item that is in both sets.
line : (found 4 (2 ∷ 4 ∷ 8 ∷ 0 ∷ []) 1 8 ≡ 0 ∷ 1 ∷ 2 ∷ 3 ∷ [])
    × (found 4 (2 ∷ 4 ∷ 8 ∷ 0 ∷ []) 8 1 ≡ [])
    × (found 4 (2 ∷ 4 ∷ 8 ∷ 0 ∷ []) 6 12 ≡ 2 ∷ [])
unfolding found shortest_path distance path_by nearest lowest near any_below test_bit
line = (refl, refl, refl)

-- Of 3 2 0 and 3 1 4 the second: its last item is the higher one, but its second is lower.
ends-apart : found 5 (0 ∷ 16 ∷ 1 ∷ 6 ∷ 0 ∷ []) 8 17 ≡ 3 ∷ 1 ∷ 4 ∷ []
unfolding found shortest_path distance path_by nearest lowest near any_below test_bit
ends-apart = refl

-- Of 2 1 0 and 3 0 the second: the first begins lower and is longer.
lower-but-longer : found 4 (0 ∷ 1 ∷ 2 ∷ 1 ∷ []) 12 1 ≡ 3 ∷ 0 ∷ []
unfolding found shortest_path distance path_by nearest lowest near any_below test_bit
lower-but-longer = refl
