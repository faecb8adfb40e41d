-- The computed list is the shortest path, the smallest of these.
-- path-some: there is a path exactly if the least set of the start meets the goal. path-last: the
-- last item of a path. path-shortest, -none, -long: the computed one.
-- Assumes nothing.
use mathlib.Core.Path.{◌≡◌}
use mathlib.Core.Bool.{false, ◌&&◌, So}
use mathlib.Core.List.{List, [], ◌∷◌}
use mathlib.Core.Logic.{inl, inr, ◌↔◌}
use Prim.Native.Nat.{ℕ, zero, suc, ◌-◌, ◌≤◌, ◌<◌}
use native.Mathlib.Omega.{arith}
use lib.Dec.{ltb}
use lib.ListN.{length}
use Rattle.words.specs.Tests.{Items, any_below}
use Rattle.words.proofs.Bools.{test, clash, and_intro, and_left, and_right, lt-ltb, ltb-lt}
use Rattle.words.proofs.Tests.{below_or_not, any-intro, any_some}
use Rattle.reach.specs.Closure.{Reach, Reach.here, Reach.next, round, rounds, closure}
use Rattle.paths.specs.Path.{Onward, Path, last_of, Smaller, ShortestPath, near, meets, distance, path_by, shortest_path}
use Rattle.reach.proofs.Closures.{round-from, reach-low, closure-iff, closure-soon}
use Rattle.paths.proofs.Lowest.{lowest-first, lowest-passes}
use Rattle.paths.proofs.Paths.{path-near, length-path_by, path_by-path, path_by-least}

module _ (n : ℕ) (edge : ℕ → Items) (goal : Items) where
  -- ---- how far the goal is

  -- What f rounds have added is at most f edges away.
  rounds-near : (f : ℕ) (m : Items) (d : ℕ) → d < n → So (goal d) → So (rounds f n edge m d)
      → (j : ℕ) × (j ≤ f) × So (any_below n (meets n edge goal j m))
  unfolding rounds near
  rounds-near zero m d l q p =
      (0, omega arith, any-intro n (meets n edge goal 0 m) d l (and_intro p q))
  rounds-near (suc f) m d l q p =
      let r = rounds-near f (round n edge m) d l q p in
      let j = r.0 in
      let s = any_some n (meets n edge goal j (round n edge m)) r.2 in
      let k = s.0 in
      let a = round n edge m k in
      let b = near n edge goal j k in
      let away = and_right a b s.2 in
      elim (round-from n edge m k (and_left a b s.2)) [
        | inl y ↦
            let found = any-intro n (meets n edge goal j m) k s.1 (and_intro y away) in
            (j, omega (arith, r.1), found)
        | inr y ↦
            let t = y.0 in
            let more = any-intro n (λ d. edge t d && near n edge goal j d) k s.1
            (and_intro y.3 away) in (
              suc j,
              omega (arith, r.1),
              any-intro n (meets n edge goal (suc j) m) t y.1
                  (and_intro y.2 more),
            )
      ]

  -- Something reached leads back to an item of start.
  reach-start : {start : Items} {d : ℕ} → Reach n edge start d → (k : ℕ) × (k < n) × So (start k)
  reach-start (here {d = d} l p) = (d, l, p)
  reach-start (next r _ _) = reach-start r

  module _ (start : Items) where
    -- The least set of the start has an item of the goal.
    abbrev pub reaches : Items
    reaches d = closure n edge start d && goal d

    distance-low : So (any_below n reaches) → distance n edge start goal < n
    unfolding distance
    distance-low h =
        let s = any_some n reaches h in
        let d = s.0 in
        let a = closure n edge start d in
        let c = and_left a (goal d) s.2 in
        let k = reach-start ((closure-iff n edge start d s.1).0 c) in
        let soon = closure-soon n edge start k.0 k.1 k.2 d s.1 c in
        let r = rounds-near (n - 1) start d s.1 (and_right a (goal d) s.2) soon in
        let low : r.0 < n = omega (arith, r.1, s.1) in
        let f = lowest-first n (λ m. any_below n (meets n edge goal m start)) r.0 low r.2 in
        omega (arith, f, low)

    -- ---- the computed path

    -- Where there is a path, it is computed in as many edges as the goal is away.
    path-is : So (any_below n reaches)
        → shortest_path n edge start goal ≡ path_by n edge goal (distance n edge start goal) start
    unfolding shortest_path
    path-is h = rw (lt-ltb _ _ (distance-low h))

    distance-meets : So (any_below n reaches)
        → So (any_below n (meets n edge goal (distance n edge start goal) start))
    unfolding distance
    distance-meets h =
        lowest-passes n (λ m. any_below n (meets n edge goal m start)) (distance-low h)

    -- No path has fewer edges.
    distance_least : So (any_below n reaches) → (l : List ℕ) → Path n edge start goal l
        → distance n edge start goal < length l
    unfolding Path distance
    distance_least h [] p = absurd p
    distance_least h (t ∷ l) p =
        let q = any-intro n (meets n edge goal (length l) start) t p.0
        (path-near n edge goal start t l p) in
        let low = distance-low h in
        let f = lowest-first n (λ m. any_below n (meets n edge goal m start)) (length l) in
        elim (below_or_not (length l) n) [
          | inl y ↦ omega (arith, f y q)
          | inr y ↦ omega (arith, low)
        ]

    no-path : ¬ Path n edge start goal []
    unfolding Path
    no-path p = p

    pub path-shortest : So (any_below n reaches)
        → ShortestPath n edge start goal (shortest_path n edge start goal)
    path-shortest h = rw (path-is h) (record {
      path = path_by-path n edge goal m start (distance-meets h);
      shortest = λ l p. omega (arith, length-path_by n edge goal m start, distance_least h l p);
      smallest = least;
    })
      where
        m : ℕ
        m = distance n edge start goal

        least : (l : List ℕ) → Path n edge start goal l
            → length l ≡ length (path_by n edge goal m start)
            → ¬ Smaller l (path_by n edge goal m start)
        least [] p e s = no-path p
        least (t ∷ l) p e s =
            let k = length-path_by n edge goal m start in
            path_by-least n edge goal m start t l p (omega (arith, e, k)) s

    -- It has at most n items.
    pub path-long : length (shortest_path n edge start goal) ≤ n
    unfolding shortest_path
    path-long =
        test (ltb (distance n edge start goal) n)
        (λ y. let l = ltb-lt (distance n edge start goal) n y in
        rw y (omega (arith, l, length-path_by n edge goal (distance n edge start goal) start)))
        (λ x. rw x (omega arith))

    -- ---- where there is one

    onward-last : (t : ℕ) (l : List ℕ) → Reach n edge start t → Onward n edge goal t l
        → So (goal (last_of (t ∷ l))) × Reach n edge start (last_of (t ∷ l))
    unfolding Onward last_of
    onward-last t [] r p = (p, r)
    onward-last t (d ∷ l) r p = onward-last d l (next r p.0 p.1) p.2

    -- The last item of a path is in the goal, and in the least set of the start.
    pub path-last : (l : List ℕ) → Path n edge start goal l
        → (last_of l < n) × So (reaches (last_of l))
    unfolding Path
    path-last [] p = absurd p
    path-last (t ∷ l) p =
        let r = onward-last t l (here p.0 p.1) p.2 in
        let low = reach-low r.1 in
        (low, and_intro ((closure-iff n edge start (last_of (t ∷ l)) low).1 r.1) r.0)

    -- There is a path exactly if the least set of the start has an item of the goal.
    pub path-some : So (any_below n reaches) ↔ ((l : List ℕ) × Path n edge start goal l)
    path-some = (
      λ h. (shortest_path n edge start goal, (path-shortest h).path),
      λ p. let e = path-last p.0 p.1 in any-intro n reaches (last_of p.0) e.0 e.1,
    )

    -- Without one no item is computed.
    pub path-none : any_below n reaches ≡ false → shortest_path n edge start goal ≡ []
    unfolding shortest_path distance
    path-none h =
        let m = distance n edge start goal in
        test (ltb m n)
        (λ y. let away = lowest-passes n (λ m. any_below n (meets n edge goal m start))
        (ltb-lt m n y) in
        clash (path-some.1 (path_by n edge goal m start, path_by-path n edge goal m start away)) h)
        (λ x. rw x)
