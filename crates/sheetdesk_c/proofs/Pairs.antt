-- What the exported comparisons of two clocks tell.
-- covers-compared: the one by the other. told: examples.
-- Assumes nothing.
use mathlib.Core.Path.{◌≡◌, refl}
use mathlib.Core.Bool.{Bool, true, false, cond}
use mathlib.Core.Logic.{◌↔◌, ◌⊎◌, inl, inr, ⊎_elim}
use mathlib.Core.List.{List, [], ◌∷◌, ◌++◌}
use Prim.Native.Nat.{ℕ, ◌-◌}
use native.Mathlib.Omega.{arith}
use lib.ListN.{length, replicate}
use Rattle.words.specs.Tests.{any_below}
use Rattle.words.specs.Numbers.{when}
use Rattle.clock.specs.declared.Standing.{Standing}
use Rattle.clock.specs.declared.Standing.TheVariants.{Equal, Older, Newer, Rival}
use Rattle.clock.specs.Clock.{exceeds, standing, standing_number, covering, dominates, clock_at}
use Rattle.sheetdesk_c.specs.Pairs.{alike, compared, covers}

-- p covers q exactly if it is told as equal or newer.
pub covers-compared : (p q : List ℕ)
    → (covers p q ≡ 1) ↔ ((compared p q ≡ 0) ⊎ (compared p q ≡ 2))
unfolding covers compared dominates when
covers-compared p q = cases (alike p q) (standing (length p) (clock_at p 0) (clock_at q 0))
  where
    cases : (b : Bool) (s : Standing)
        → (cond b (when (covering s) 1) 2 ≡ 1)
        ↔ ((cond b (standing_number s) 4 ≡ 0) ⊎ (cond b (standing_number s) 4 ≡ 2))
    cases true Equal = (λ e. inl refl, λ e. refl)
    cases true Older = (
      λ e. absurd (omega (arith, e)),
      ⊎_elim (λ e. absurd (omega (arith, e))) (λ e. absurd (omega (arith, e))),
    )
    cases true Newer = (λ e. inr refl, λ e. refl)
    cases true Rival = (
      λ e. absurd (omega (arith, e)),
      ⊎_elim (λ e. absurd (omega (arith, e))) (λ e. absurd (omega (arith, e))),
    )
    cases false s = (
      λ e. absurd (omega (arith, e)),
      ⊎_elim (λ e. absurd (omega (arith, e))) (λ e. absurd (omega (arith, e))),
    )

-- ---- examples

-- What compare and covers answer.
abbrev both : List ℕ → List ℕ → List ℕ
both p q = compared p q ∷ covers p q ∷ []

-- n counts, the last of them c.
abbrev ending : ℕ → ℕ → List ℕ
ending n c = replicate (n - 1) 3 ++ c ∷ []

-- The four standings; lengths that differ; 17 counts; 16, of which the last alone differs; none.
abbrev pub pairs : List (List ℕ)
pairs =
    both (2 ∷ 1 ∷ []) (2 ∷ 1 ∷ []) ∷ both (1 ∷ 1 ∷ []) (2 ∷ 1 ∷ [])
    ∷ both (2 ∷ 1 ∷ []) (2 ∷ 0 ∷ []) ∷ both (2 ∷ 0 ∷ []) (1 ∷ 1 ∷ [])
    ∷ both (2 ∷ 1 ∷ []) (2 ∷ []) ∷ both [] (0 ∷ []) ∷ both (ending 17 5) (ending 17 5)
    ∷ both (ending 16 5) (ending 16 5) ∷ both (ending 16 4) (ending 16 5)
    ∷ both (ending 16 5) (ending 16 4) ∷ both [] [] ∷ []

pub told : pairs
    ≡ (0 ∷ 1 ∷ []) ∷ (1 ∷ 0 ∷ []) ∷ (2 ∷ 1 ∷ []) ∷ (3 ∷ 0 ∷ []) ∷ (4 ∷ 2 ∷ []) ∷ (4 ∷ 2 ∷ [])
    ∷ (4 ∷ 2 ∷ []) ∷ (0 ∷ 1 ∷ []) ∷ (1 ∷ 0 ∷ []) ∷ (2 ∷ 1 ∷ []) ∷ (0 ∷ 1 ∷ []) ∷ []
unfolding alike compared covers dominates standing exceeds any_below clock_at when
told = refl
