-- Laws of the scratch buffer that a forecast leaves.
-- foreseen-..: by the call's cause. walk_kept: each step keeps the store fine.
-- Assumes nothing.
use mathlib.Core.Path.{◌≡◌, refl, ◌∙◌}
use mathlib.Core.Bool.{false, So}
use mathlib.Core.Logic.{◌≢◌}
use mathlib.Core.List.{List, [], ◌∷◌}
use Prim.Native.Nat.{ℕ}
use lib.ListN.{length}
use Rattle.words.proofs.Bools.{ne_eqb, and-false-right}
use Rattle.model.specs.Store.{Store}
use Rattle.model.specs.Outcome.{Outcome, refused, broken, done, told}
use Rattle.model.specs.Step.{step_rule_of}
use Rattle.model.specs.Calls.Forecast.{Walked, walk_on, walk, forecast_cause, forecast_walk}
use Rattle.layout.specs.Reading.{store_of}
use Rattle.layout.specs.Buffer.{written, in_form}
use Rattle.layout.specs.Forecast.{foreseen}
use Rattle.layout.proofs.Follow.{Fine}
use Rattle.layout.proofs.Kept.{Kept}
use Rattle.layout.proofs.Rules.Step.{step_kept}

module _ (l m : List ℕ) (r : ℕ) where
  pub foreseen-none : in_form l ≡ false → foreseen l m r ≡ m
  unfolding foreseen
  foreseen-none e = rw e

  pub foreseen-refused : forecast_cause (store_of l) (length m) r ≢ 0 → foreseen l m r ≡ m
  unfolding foreseen
  foreseen-refused n = rw (ne_eqb _ _ n, and-false-right (in_form l))

  pub foreseen-done : So (in_form l) → forecast_cause (store_of l) (length m) r ≡ 0
      → foreseen l m r ≡ written (forecast_walk r (store_of l)).store m
  unfolding foreseen
  foreseen-done F e = rw (F, e)

-- ---- each step keeps the store fine

abbrev FineAs : Store → Walked → Type 0
FineAs s w = Fine w.store × (w.store.counts ≡ s.counts)

-- What the next steps keep, after one.
then : (j : ℕ) (s : Store) (x : Outcome) (next : Store → Walked) → Fine s → Kept s x
    → ((t : Store) → Fine t → FineAs t (next t)) → FineAs s (walk_on j s x next)
unfolding walk_on
then j s (refused n) next F K f = (F, refl)
then j s (broken m t) next F K f = (K.fine, K.counts)
then j s (done a t) next F K f = ((f t K.fine).0, (f t K.fine).1 ∙ K.counts)
then j s (told w a) next F K f = f s F

pub walk_kept : (r : ℕ) (js : List ℕ) (s : Store) → Fine s → FineAs s (walk r js s)
unfolding walk
walk_kept r [] s F = (F, refl)
walk_kept r (j ∷ js) s F =
    then j s (step_rule_of r j 0 s) (λ t. walk r js t) F (step_kept r j 0 s F)
    (λ t G. walk_kept r js t G)
