-- What new comes to: its causes from the tests that the code makes, and its two outcomes.
-- cause-..: which cause there is. NewEnds: what new answers and leaves; new-no, new-done.
-- Assumes nothing.
use mathlib.Core.Path.{◌≡◌, refl, ap}
use mathlib.Core.Bool.{false, So}
use mathlib.Core.Logic.{◌≢◌}
use mathlib.Core.List.{List, [], ◌∷◌}
use Prim.Native.Nat.{ℕ, ◌≤◌, ◌<◌}
use lib.ListN.{length}
use Rattle.words.proofs.Bools.{le-leb, gt-leb, ne_eqb}
use Rattle.sizes.specs.declared.Counts.{Counts}
use Rattle.sizes.specs.Bounds.{ranged, counts_of, total_of}
use Rattle.model.specs.Store.{fresh}
use Rattle.model.specs.Outcome.{refuse, unless, answer}
use Rattle.layout.specs.Buffer.{written}
use Rattle.layout.specs.Calls.{new, new_cause, new_on, call_on, leaves}

-- ---- the causes

module _ (l : List ℕ) (z : Counts) where
  pub cause-range : ranged z ≡ false → new_cause l z ≡ 2
  unfolding new_cause refuse
  cause-range p = rw p

  pub cause-room : So (ranged z) → length l < total_of z → new_cause l z ≡ 1
  unfolding new_cause refuse
  cause-room p h = rw (p, gt-leb (total_of z) (length l) h)

  pub cause-none : So (ranged z) → total_of z ≤ length l → new_cause l z ≡ 0
  unfolding new_cause refuse
  cause-none p h = rw (p, le-leb (total_of z) (length l) h)

-- ---- the outcomes

-- The answer's words a, and the buffer m after it.
module _ (l : List ℕ) (k w n p : ℕ) where
  abbrev pub NewEnds : List ℕ → List ℕ → Type 0
  NewEnds a m =
      (a ≡ answer (call_on (new k w n p) l)) × (m ≡ leaves (call_on (new k w n p) l) l)

  -- If there is a cause, for counts y that are these,
  pub new-no : (y : Counts) (c : ℕ) → y ≡ counts_of k w n p → c ≡ new_cause l y → c ≢ 0
      → NewEnds (2 ∷ c ∷ []) l
  unfolding call_on new_on unless answer leaves
  new-no y c same e h = rw (← same, ← e, ne_eqb c 0 h) (refl, refl)

  -- and if there is none.
  pub new-done : (y : Counts) (c total : ℕ) (m : List ℕ) → y ≡ counts_of k w n p
      → c ≡ new_cause l y → c ≡ 0 → total ≡ total_of y → m ≡ written (fresh y) l
      → NewEnds (0 ∷ total ∷ []) m
  unfolding call_on new_on unless answer leaves
  new-done y c total m same e h t q =
      rw (← same, ← e, h) (ap (λ (x : ℕ). 0 ∷ x ∷ []) t, q)
