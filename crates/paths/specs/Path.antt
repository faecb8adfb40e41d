-- Paths by a relation among the items below n, from a start set to a goal.
-- Path, ShortestPath: what is meant, by Smaller: the order of lists. last_of: where a path ends.
-- shortest_path: what is computed.
-- lowest, near, meets, distance, nearest, path_by: by which it is.
-- Assumes nothing.
use Rattle.std.specs.Prelude.{◌≡◌, ◌&&◌, cond, List, [], ◌∷◌, ◌⊎◌, ℕ, zero, suc, ◌≤◌, ◌<◌, ltb, length}
use Rattle.std.proofs.Math.Bool.{So}
use Rattle.words.specs.Tests.{Items, any_below}

-- ---- what is meant

-- Each next by an edge, from t on, and the last in the goal.
unfoldable pub Onward : ℕ → (ℕ → Items) → Items → ℕ → List ℕ → Type 0
Onward n edge goal t [] = So (goal t)
Onward n edge goal t (d ∷ l) = (d < n) × So (edge t d) × Onward n edge goal d l

-- A path: the first in start, each next by an edge, the last in the goal.
unfoldable pub Path : ℕ → (ℕ → Items) → Items → Items → List ℕ → Type 0
Path n edge start goal [] = ⊥
Path n edge start goal (t ∷ l) = (t < n) × So (start t) × Onward n edge goal t l

-- The last item of a list.
unfoldable pub last_of : List ℕ → ℕ
last_of [] = 0
last_of (t ∷ []) = t
last_of (t ∷ d ∷ l) = last_of (d ∷ l)

-- Item by item: smaller where two lists first differ.
unfoldable pub Smaller : List ℕ → List ℕ → Type 0
Smaller [] m = ⊥
Smaller (a ∷ l) [] = ⊥
Smaller (a ∷ l) (b ∷ m) = (a < b) ⊎ ((a ≡ b) × Smaller l m)

-- A shortest path; of equally short ones, the smallest item by item.
pub record ShortestPath (n : ℕ) (edge : ℕ → Items) (start goal : Items) (l : List ℕ) : Type 0 where
  pub path : Path n edge start goal l
  pub shortest : (m : List ℕ) → Path n edge start goal m → length l ≤ length m
  pub smallest : (m : List ℕ) → Path n edge start goal m → length m ≡ length l → ¬ Smaller m l

-- ---- what is computed

-- The lowest number that passes, and n where none below n does.
unfoldable pub lowest : ℕ → Items → ℕ
lowest zero p = zero
lowest (suc n) p = cond (p zero) zero (suc (lowest n (λ i. p (suc i))))

module _ (n : ℕ) (edge : ℕ → Items) where
  -- The items that are m edges away from the goal.
  unfoldable pub near : Items → ℕ → Items
  near goal zero k = goal k
  near goal (suc m) k = any_below n (λ d. edge k d && near goal m d)

  -- Those of start among them.
  abbrev pub meets : Items → ℕ → Items → Items
  meets goal m start k = start k && near goal m k

  -- How many edges a shortest path has, and n where there is no path.
  unfoldable pub distance : Items → Items → ℕ
  distance start goal = lowest n (λ m. any_below n (meets goal m start))

  -- The lowest item of start that is m edges away from the goal.
  unfoldable pub nearest : Items → ℕ → Items → ℕ
  nearest goal m start = lowest n (meets goal m start)

  -- That item; then the lowest next one that is one edge less away, and so on.
  unfoldable pub path_by : Items → ℕ → Items → List ℕ
  path_by goal zero start = nearest goal zero start ∷ []
  path_by goal (suc m) start =
      let t = nearest goal (suc m) start in
      t ∷ path_by goal m (edge t)

  -- No item where there is no path.
  unfoldable pub shortest_path : Items → Items → List ℕ
  shortest_path start goal =
      let m = distance start goal in
      cond (ltb m n) (path_by goal m start) []
