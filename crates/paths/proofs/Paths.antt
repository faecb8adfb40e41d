-- Laws of paths and of the computed shortest one.
-- onward_near, path-near: a path's length is how far its first item is away from the goal.
-- pathBy-..: the computed list is a path, as long as asked for, and none as long is smaller.
-- Assumes nothing.
use mathlib.Core.Path.{◌≡◌, refl, ap}
use mathlib.Core.Bool.{◌&&◌, So}
use mathlib.Core.List.{List, [], ◌∷◌}
use mathlib.Core.Logic.{inl, inr}
use Prim.Native.Nat.{ℕ, zero, suc, ◌<◌}
use native.Mathlib.Omega.{arith}
use lib.ListN.{length}
use Rattle.words.specs.Tests.{Items, any_below}
use Rattle.words.proofs.Bools.{and_intro, and_left, and_right}
use Rattle.words.proofs.Tests.{any-intro}
use Rattle.paths.specs.Path.{Onward, Path, Smaller, near, meets, nearest, path_by}
use Rattle.paths.proofs.Lowest.{lowest-first, lowest-passes, lowest-low}

module _ (n : ℕ) (edge : ℕ → Items) (goal : Items) where
  -- What follows a first item is a path from what that leads to.
  go_on : (t : ℕ) (l : List ℕ) → Path n edge (edge t) goal l → Onward n edge goal t l
  unfolding Path Onward
  go_on t [] p = absurd p
  go_on t (d ∷ l) p = p

  -- ---- how long a path is

  pub onward_near : (t : ℕ) (l : List ℕ) → Onward n edge goal t l
      → So (near n edge goal (length l) t)
  unfolding Onward near
  onward_near t [] p = p
  onward_near t (d ∷ l) p =
      any-intro n (λ k. edge t k && near n edge goal (length l) k) d p.0
      (and_intro p.1 (onward_near d l p.2))

  pub path-near : (start : Items) (t : ℕ) (l : List ℕ) → Path n edge start goal (t ∷ l)
      → So (meets n edge goal (length l) start t)
  unfolding Path
  path-near start t l p = and_intro p.1 (onward_near t l p.2)

  -- ---- the computed path

  pub length-path_by : (m : ℕ) (start : Items) → length (path_by n edge goal m start) ≡ suc m
  unfolding path_by
  length-path_by zero start = refl
  length-path_by (suc m) start =
      ap (λ (i : ℕ). suc i) (length-path_by m (edge (nearest n edge goal (suc m) start)))

  -- No path of m edges begins lower than the nearest item.
  first-least : (m : ℕ) (start : Items) (t : ℕ) (l : List ℕ) → Path n edge start goal (t ∷ l)
      → length l ≡ m → ¬ (t < nearest n edge goal m start)
  unfolding Path nearest
  first-least m start t l p e h =
      let q : So (meets n edge goal m start t) = rw (← e) (path-near start t l p) in
      let r = lowest-first n (meets n edge goal m start) t p.0 q in
      omega (arith, r)

  -- The nearest item is one of start, and m edges away.
  pub nearest-meets : (m : ℕ) (start : Items) → So (any_below n (meets n edge goal m start))
      → let t = nearest n edge goal m start in (t < n) × So (meets n edge goal m start t)
  unfolding nearest
  nearest-meets m start h =
      let p = meets n edge goal m start in
      let l = lowest-low n p h in (l, lowest-passes n p l)

  pub path_by-path : (m : ℕ) (start : Items) → So (any_below n (meets n edge goal m start))
      → Path n edge start goal (path_by n edge goal m start)
  unfolding Path Onward path_by near
  path_by-path zero start h =
      let t = nearest n edge goal zero start in
      let r = nearest-meets zero start h in
      (r.0, and_left (start t) (goal t) r.1, and_right (start t) (goal t) r.1)
  path_by-path (suc m) start h =
      let t = nearest n edge goal (suc m) start in
      let r = nearest-meets (suc m) start h in
      let a = start t in
      let b = near n edge goal (suc m) t in (
        r.0,
        and_left a b r.1,
        go_on t (path_by n edge goal m (edge t)) (path_by-path m (edge t) (and_right a b r.1)),
      )

  -- No path of its length is smaller.
  pub path_by-least : (m : ℕ) (start : Items) (t : ℕ) (l : List ℕ)
      → Path n edge start goal (t ∷ l) → length l ≡ m
      → ¬ Smaller (t ∷ l) (path_by n edge goal m start)
  unfolding Path Onward Smaller path_by
  path_by-least zero start t l p e (inl s) = first-least zero start t l p e s
  path_by-least zero start t [] p e (inr s) = s.1
  path_by-least zero start t (d ∷ l) p e (inr s) = s.1
  path_by-least (suc m) start t l p e (inl s) = first-least (suc m) start t l p e s
  path_by-least (suc m) start t [] p e (inr s) = s.1
  path_by-least (suc m) start t (d ∷ l) p e (inr s) =
      let q : Path n edge (edge (nearest n edge goal (suc m) start)) goal (d ∷ l) =
      rw (← s.0) p.2 in
      path_by-least m (edge (nearest n edge goal (suc m) start)) d l q (omega (arith, e)) s.1
