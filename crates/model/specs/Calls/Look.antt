-- Look: the issue number, leading writers and own row of a version, and how it stands against
-- the master's.
-- Assumes nothing.
use Rattle.std.specs.Prelude.{cond, not, List, [], ◌∷◌, ◌++◌, ℕ, eqb, leb}
use Rattle.words.specs.Lists.{blocks}
use Rattle.clock.specs.declared.Standing.{Standing}
use Rattle.clock.specs.Clock.{Clock, standing, standing_number}
use Rattle.sizes.specs.declared.Counts.{Counts}
use Rattle.model.specs.Algebra.{Place}
use Rattle.model.specs.Version.{Version, held}
use Rattle.model.specs.Store.{Store}
use Rattle.model.specs.Outcome.{Reply, refuse}

-- How many kinds of places there are.
abbrev pub place_kinds : ℕ
place_kinds = 3

-- "place (0 master, 1 shelf, 2 card), its number (0 for the master)"
unfoldable pub look_place : Store → ℕ → ℕ → Place Version
look_place s p i =
    cond (eqb p 0) s.master (cond (eqb p 1) (s.site i).cache (s.run i).branch.snapshot)

-- How many places there are of each kind.
unfoldable pub look_limit : Counts → ℕ → ℕ
look_limit z p = cond (eqb p 0) 1 (cond (eqb p 1) z.sites z.runs)

unfoldable pub look_cause : Store → ℕ → ℕ → ℕ → ℕ
look_cause s p i k =
    refuse (leb place_kinds p) 3
    (refuse (leb (look_limit s.counts p) i) 3
    (refuse (leb s.counts.keys k) 3
    (refuse (not (held (look_place s p i k))) 8
    0)))

-- The counts of W writers, in order.
unfoldable pub row_numbers : ℕ → Clock → List ℕ
row_numbers W c = blocks W (λ w. c w ∷ [])

-- "the standing of the place's version against the master's": of their own rows (row k).
unfoldable pub look_standing : ℕ → ℕ → Version → Version → Standing
look_standing W k v master = standing W (v.past k) (master.past k)

-- "answers issue number and own row. Changes nothing." CR 3: "the mask follows the issue number";
-- CR 1: the standing is "printed last".
unfoldable pub look_numbers : Store → ℕ → ℕ → ℕ → List ℕ
look_numbers s p i k =
    let W = s.counts.writers in
    let v = look_place s p i k in
    v.issue ∷ v.leaders
    ∷ (row_numbers W (v.past k) ++ standing_number (look_standing W k v (s.master k)) ∷ [])

unfoldable pub look_reply : ℕ → ℕ → ℕ → Store → Reply
look_reply p i k s =
    record { cause = look_cause s p i k; word = 0; numbers = look_numbers s p i k }
