-- What a look tells.
-- look-master: "Looking at the master gives 0". look-lacking: a version that the master lacks is
-- newer. looked: examples on stores that no list of calls from new reaches, each in form
-- (`Computed` proves that they pass).
-- Assumes nothing.
use mathlib.Core.Path.{◌≡◌}
use mathlib.Core.Bool.{Bool, false, So}
use mathlib.Core.List.{List, [], ◌∷◌, ◌++◌}
use Prim.Native.Nat.{ℕ, ◌<◌}
use native.Mathlib.Omega.{arith}
use lib.Dec.{eqb}
use Rattle.words.proofs.Bools.{test}
use Rattle.clock.specs.declared.Standing.TheVariants.{Newer}
use Rattle.clock.proofs.Standings.{standing-newer, standing-self}
use Rattle.clock.proofs.Order.{present-some}
use Rattle.sizes.specs.Bounds.{counts_of}
use Rattle.model.specs.Algebra.{Place}
use Rattle.model.specs.Version.{Version, unheld, held}
use Rattle.model.specs.Store.{Store, Run, fresh, with_last, with_master, with_cache, with_run}
use Rattle.model.specs.Form.{well_formed}
use Rattle.model.specs.Calls.Look.{look_place, look_limit, row_numbers, look_standing, look_numbers}
use Rattle.model.specs.Calls.{ask, look}
use Rattle.model.proofs.FormedPlaces.{PlaceFormed, version-row, version-zero}
use Rattle.model.proofs.Formed.{well-out}
use Rattle.model.proofs.Plans.{run-place}
use Rattle.model.proofs.Scripts.{seen}
use Rattle.model.proofs.Readings.{led, version, place, unforked, jobs, answered, zero-zero, zero_one, one-one, two-zero}

pub look-master : (s : Store) (i k : ℕ) → look_numbers s 0 i k
    ≡ (s.master k).issue ∷ (s.master k).leaders
    ∷ (row_numbers s.counts.writers ((s.master k).past k) ++ 0 ∷ [])
unfolding look_numbers look_standing look_place
look-master s i k = rw (standing-self s.counts.writers ((s.master k).past k))

-- ---- a version of a key that the master lacks

module _ (s : Store) (F : So (well_formed s)) (p i : ℕ) (h : i < look_limit s.counts p) where
  formed-looked : PlaceFormed s.counts (look_place s p i)
  unfolding look_place look_limit
  formed-looked =
      let G = well-out s F in
      test (eqb p 0) (λ y. rw y G.master) (λ n.
      test (eqb p 1)
      (λ y. rw (n, y) (G.cache i (rw (n, y) at h)))
      (λ m. rw (n, m) (run-place s.counts (s.run i) (G.run i (rw (n, m) at h)) 0)))

  -- Its own row isn't all zero, and the master's is.
  pub look-lacking : (k : ℕ) → k < s.counts.keys → So (held (look_place s p i k))
      → held (s.master k) ≡ false
      → look_standing s.counts.writers k (look_place s p i k) (s.master k) ≡ Newer
  unfolding look_standing
  look-lacking k l y n =
      let z = s.counts in
      let v = look_place s p i k in
      let zero = version-zero z k (s.master k) ((well-out s F).master k l) n k l in
      let r = present-some z.writers (v.past k) (version-row z k v (formed-looked k l) y) in
      (standing-newer z.writers (v.past k) ((s.master k).past k)).1
      (λ w b. omega (arith, zero w b), (r.0, r.1, omega (arith, r.2, zero r.0 r.1)))

-- ---- examples

-- Looks at lent stores whose master has key 0 at (1,1) and lacks key 1: a rival, a version that
-- the master lacks, and the master itself; then an equal own row with another need, a smaller
-- issue number that is newer, and a larger one that is older.
abbrev lent : List Version → Store
lent shelf =
    let s = with_last (fresh (counts_of 2 2 1 1)) 9 in
    with_cache (with_master s (place (version 3 (one-one ∷ []) ∷ []))) 0 (place shelf)

-- Two keys, three writers, two sites and two runs. Key 1, with a need of 0: the master has it at
-- (2,1,3). The third count alone differs on shelf 1 and on card 1; shelf 0 and card 0 stand
-- otherwise.
abbrev wide : ℕ → List ℕ → Place Version
wide n own = place (unheld ∷ version n ((1 ∷ 1 ∷ 1 ∷ []) ∷ own ∷ []) ∷ [])

abbrev carrying : Place Version → Run
carrying p = unforked 1 2 0 jobs (record { read = 0; snapshot = p })

abbrev lent-wide : Store
lent-wide =
    let s = with_last (fresh (counts_of 2 3 2 2)) 9 in
    let t = with_master s (wide 5 (2 ∷ 1 ∷ 3 ∷ [])) in
    let u = with_cache (with_cache t 0 (wide 4 (3 ∷ 1 ∷ 2 ∷ []))) 1 (wide 4 (2 ∷ 1 ∷ 2 ∷ [])) in
    with_run (with_run u 0 (carrying (wide 6 (2 ∷ 1 ∷ 3 ∷ [])))) 1
    (carrying (wide 6 (2 ∷ 1 ∷ 4 ∷ [])))

-- A look at key 1 of the place: its issue number, writer 0, the own row (.., 1, ..) and the
-- standing.
abbrev seen-wide : ℕ → ℕ → ℕ → ℕ → ℕ → ℕ → Bool
seen-wide p i n a c st =
    answered lent-wide (ask (look p i 1)) (0 ∷ n ∷ 1 ∷ a ∷ 1 ∷ c ∷ st ∷ [])

abbrev pub looked : List Bool
looked =
    let s = lent (led 2 7 (two-zero ∷ (0 ∷ 5 ∷ []) ∷ [])
    ∷ version 1 (zero-zero ∷ zero_one ∷ []) ∷ []) in
    answered s (ask (look 1 0 0)) (seen 7 2 2 0 3) ∷ answered s (ask (look 1 0 1)) (seen 1 1 0 1 2)
    ∷ answered s (ask (look 0 0 0)) (seen 3 1 1 1 0)
    ∷ answered (lent (version 7 (one-one ∷ (4 ∷ 5 ∷ []) ∷ []) ∷ [])) (ask (look 1 0 0))
    (seen 7 1 1 1 0)
    ∷ answered (lent (version 1 ((2 ∷ 1 ∷ []) ∷ []) ∷ [])) (ask (look 1 0 0)) (seen 1 1 2 1 2)
    ∷ answered (lent (version 9 (zero_one ∷ []) ∷ [])) (ask (look 1 0 0)) (seen 9 1 0 1 1)
    ∷ seen-wide 1 0 4 3 2 3 ∷ seen-wide 1 1 4 2 2 1 ∷ seen-wide 2 0 6 2 3 0
    ∷ seen-wide 2 1 6 2 4 2 ∷ seen-wide 0 0 5 2 3 0 ∷ []
