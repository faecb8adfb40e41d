-- A scratch stays as long as it was.
-- Assumes nothing.
use mathlib.Core.Path.{◌≡◌, refl, ap, ◌∙◌}
use mathlib.Core.List.{List}
use mathlib.Core.Option.{Option, none, some}
use Prim.Native.Nat.{ℕ, ◌≤◌}
use native.Mathlib.Decide.{ℕ_discrete}
use native.Mathlib.Omega.{arith}
use lib.ListN.{length, length-append, length-drop}
use Rattle.words.proofs.Bools.{test, ltb-ge}
use Rattle.sizes.specs.Bounds.{total_of}
use Rattle.model.specs.Calls.Forecast.{undone, forecast_cause, forecast_walk}
use Rattle.model.specs.Store.{Store}
use Rattle.model.proofs.Outcomes.{no-cause}
use Rattle.layout.specs.Reading.{store_of}
use Rattle.layout.specs.Buffer.{written, in_form}
use Rattle.layout.specs.Forecast.{foreseen}
use Rattle.layout.proofs.Follow.{form-fine}
use Rattle.layout.proofs.Whole.{store_long}
use Rattle.layout.proofs.Foreseeing.{foreseen-none, foreseen-refused, foreseen-done, walk_kept}
use Rattle.batch.specs.Lent.{scratch_leaves}

written-long : (s : Store) (m : List ℕ) → total_of s.counts ≤ length m
    → length (written s m) ≡ length m
unfolding written
written-long s m h =
    rw length-append (omega (arith, store_long s, length-drop (total_of s.counts) m, h))

-- The scratch has room for the desk.
scratch-fits : (s : Store) (n r : ℕ) → forecast_cause s n r ≡ 0 → total_of s.counts ≤ n
unfolding forecast_cause
scratch-fits s n r e = ltb-ge n (total_of s.counts) (no-cause _ 1 _ (omega arith) e).0

foreseen-long : (l m : List ℕ) (r : ℕ) → length (foreseen l m r) ≡ length m
unfolding forecast_walk
foreseen-long l m r =
    test (in_form l)
    (λ F. elim (ℕ_discrete (forecast_cause (store_of l) (length m) r) 0) [
      | yes e ↦
          let s = store_of l in
          let k = (walk_kept r (undone (s.run r)) s (form-fine l F)).1 in
          ap length (foreseen-done l m r F e)
          ∙ written-long (forecast_walk r s).store m
          (rw k (scratch-fits s (length m) r e))
      | no e ↦ ap length (foreseen-refused l m r e)
    ])
    (λ F. ap length (foreseen-none l m r F))

pub scratch-long : (o : Option ℕ) (l m : List ℕ) → length (scratch_leaves o l m) ≡ length m
unfolding scratch_leaves
scratch-long none l m = refl
scratch-long (some r) l m = foreseen-long l m r
