-- What a trial of a job tells: refused for its cause, or found.
-- tried-no, tried-yes: its two cases. refused_as, found_as: what each of them tells.
-- Assumes nothing.
use mathlib.Core.Path.{◌≡◌, refl, sym, ap, ◌∙◌}
use mathlib.Core.Bool.{Bool, true, false}
use mathlib.Core.Logic.{◌≢◌}
use Prim.Native.Nat.{ℕ}
use lib.Dec.{eqb}
use Rattle.words.proofs.Bools.{test, clash, eqb-eq, eqb-ne, ne_eqb}
use Rattle.model.specs.Store.{Store}
use Rattle.model.specs.Step.{step_cause}
use Rattle.trial.specs.declared.Visit.{Visit}
use Rattle.trial.specs.declared.Trial.{Trial}
use Rattle.trial.specs.Trials.{Tried, visit_of, trial_of, tried_of}

is_found_lem : Tried → Bool
is_found_lem (Tried.Refused n) = false
is_found_lem (Tried.Found v t) = true

-- What it holds, or something else in the other case.
number : Tried → ℕ
number (Tried.Refused n) = n
number (Tried.Found v t) = 0

visit : Visit → Tried → Visit
visit w (Tried.Refused n) = w
visit w (Tried.Found v t) = v

trial : Trial → Tried → Trial
trial u (Tried.Refused n) = u
trial u (Tried.Found v t) = t

module _ (s : Store) (r j n snapshot : ℕ) where
  pub tried-no : (m : ℕ) → step_cause s r j n ≡ m → m ≢ 0
      → Tried.Refused m ≡ tried_of s r j n snapshot
  unfolding tried_of
  tried-no m e h = rw (e, ne_eqb m 0 h)

  pub tried-yes : (v : Visit) (t : Trial) → step_cause s r j n ≡ 0 → v ≡ visit_of s r j n snapshot
      → t ≡ trial_of s r j n → Tried.Found v t ≡ tried_of s r j n snapshot
  unfolding tried_of
  tried-yes v t e f g = rw e (λ i. Tried.Found (f i) (g i))

  pub refused_as : (m : ℕ) → Tried.Refused m ≡ tried_of s r j n snapshot
      → (m ≡ step_cause s r j n) × (m ≢ 0)
  unfolding tried_of is_found_lem number
  refused_as m e =
      let c = step_cause s r j n in
      test (eqb c 0) (λ y.
      let same : Tried.Refused m ≡ Tried.Found (visit_of s r j n snapshot) (trial_of s r j n) =
      rw y at e in
      clash {b = true} refl (sym (ap is_found_lem same))) (λ y.
      let equal : Tried.Refused m ≡ Tried.Refused c = rw y at e in
      let same : m ≡ c = ap number equal in
      (same, λ z. eqb-ne c 0 y (sym same ∙ z)))

  pub found_as : (v : Visit) (t : Trial) → Tried.Found v t ≡ tried_of s r j n snapshot
      → (step_cause s r j n ≡ 0) × (v ≡ visit_of s r j n snapshot) × (t ≡ trial_of s r j n)
  unfolding tried_of is_found_lem visit trial
  found_as v t e =
      let c = step_cause s r j n in
      test (eqb c 0) (λ y.
      let same : Tried.Found v t ≡ Tried.Found (visit_of s r j n snapshot) (trial_of s r j n) =
      rw y at e in
      (eqb-eq c 0 y, ap (visit v) same, ap (trial t) same))
      (λ y.
      let same : Tried.Found v t ≡ Tried.Refused c = rw y at e in
      clash {b = true} refl (ap is_found_lem same))
