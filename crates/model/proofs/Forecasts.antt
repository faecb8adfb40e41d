-- Laws of the forecast's jobs and steps.
-- undone_from: the jobs from one on; undone-..: one by one. step-cases: what a step comes to.
-- walk_end, walk-head: a walk by its first job. walk-append, walk-stopped: two walks.
-- Assumes nothing.
use mathlib.Core.Path.{◌≡◌, refl, sym, ap, ◌∙◌}
use mathlib.Core.Bool.{false, So}
use mathlib.Core.Logic.{◌≢◌}
use mathlib.Core.List.{List, [], ◌∷◌, ◌++◌}
use Prim.Native.Nat.{ℕ, suc, ◌+◌, ◌-◌, ◌≤◌, ◌<◌}
use native.Mathlib.Omega.{arith}
use native.Mathlib.Nat.{zero-add}
use Rattle.words.specs.Tests.{any_below}
use Rattle.words.specs.Lists.{blocks}
use Rattle.words.proofs.Bools.{test}
use Rattle.words.proofs.Lists.{blocks-ext}
use Rattle.masks.specs.Mask.{test_bit, mask_below}
use Rattle.model.specs.Store.{Run, Store, with_cache, with_run, with_state}
use Rattle.model.specs.Outcome.{Outcome, refused, broken, done, told, broken_state}
use Rattle.model.specs.Step.{step_moved, step_cause, step_broken, step_done, step_rule_of, step_site, step_cache}
use Rattle.model.specs.Calls.Forecast.{undone_at, undone, Ended, through, breaks_at, turned_at, Walked, walk_on, walk}
use Rattle.model.proofs.Outcomes.{unless-cases}
use Rattle.model.proofs.Steps.{stepped_run}

-- ---- the jobs that aren't done

-- Those from j on of n jobs, by a done mask.
abbrev pub undone_from : ℕ → ℕ → ℕ → List ℕ
undone_from finished n j = blocks (n - j) (λ i. undone_at finished (j + i))

pub undone-start : (a : Run) → undone a ≡ undone_from a.done a.jobs 0
unfolding undone
undone-start a =
    let e : a.jobs - 0 ≡ a.jobs = omega arith in
    rw e (blocks-ext a.jobs (λ i. undone_at a.done i) (λ i. undone_at a.done (0 + i))
    (λ i _. ap (λ (j : ℕ). undone_at a.done j) (sym (zero-add i))))

pub undone-end : (finished n j : ℕ) → n ≤ j → undone_from finished n j ≡ []
unfolding blocks
undone-end finished n j h = let e : n - j ≡ 0 = omega arith in rw e

module _ (finished n j : ℕ) (h : j < n) where
  pub undone-more : undone_from finished n j ≡ undone_at finished j ++ undone_from finished n (j +
      1)
  unfolding blocks
  undone-more =
      let e : n - j ≡ suc (n - (j + 1)) = omega arith in
      let f : j + 0 ≡ j = omega arith in
      rw (e, f) (ap (λ (t : List ℕ). undone_at finished j ++ t)
      (blocks-ext (n - (j + 1)) (λ i. undone_at finished (j + suc i))
      (λ i. undone_at finished (j + 1 + i)) (λ i _.
      let g : j + suc i ≡ j + 1 + i = omega arith in rw g)))

  pub undone-passed : So (test_bit finished j)
      → undone_from finished n j ≡ undone_from finished n (j + 1)
  unfolding undone_at
  undone-passed p = undone-more ∙ rw p

  pub undone-next : test_bit finished j ≡ false
      → undone_from finished n j ≡ j ∷ undone_from finished n (j + 1)
  unfolding undone_at
  undone-next p = undone-more ∙ rw p

-- ---- a walk by its first job

-- A step is refused for its cause, breaks its run, or is done.
pub step-cases {ℓ} : (P : Outcome → Type ℓ) (s : Store) (r j n : ℕ)
    → (step_cause s r j n ≢ 0 → P (refused (step_cause s r j n)))
    → (step_cause s r j n ≡ 0 → P (step_broken s r j n))
    → (step_cause s r j n ≡ 0 → P (step_done s r j n))
    → P (step_rule_of r j n s)
unfolding step_rule_of
step-cases P s r j n f g h =
    unless-cases P (step_cause s r j n) _
    (λ e. test (any_below s.counts.keys (step_moved s r j n)) (λ y. rw y (g e))
    (λ y. rw y (h e))) f

-- The keys that move in a step that breaks its run, and the store after it.
abbrev pub step_mask : Store → ℕ → ℕ → ℕ → ℕ
step_mask s r j n = mask_below s.counts.keys (step_moved s r j n)

abbrev pub broken_store : Store → ℕ → Store
broken_store s r = with_run s r (with_state (s.run r) broken_state)

-- The store after a step that is done.
abbrev pub stepped_store : Store → ℕ → ℕ → ℕ → Store
stepped_store s r j n =
    with_run (with_cache s (step_site s r j n) (step_cache s r j n)) r (stepped_run s r j n)

pub walk_end : (r : ℕ) (s : Store) → walk r [] s ≡ record { ended = through; store = s }
unfolding walk
walk_end r s = refl

module _ (r j : ℕ) (js : List ℕ) (s : Store) where
  -- By what the step of the first job comes to.
  pub walk-head {ℓ} : (P : Walked → Type ℓ)
      → (step_cause s r j 0 ≢ 0 → P (record {
        ended = turned_at j (step_cause s r j 0);
        store = s;
      }))
      → (step_cause s r j 0 ≡ 0
      → P (record { ended = breaks_at j (step_mask s r j 0); store = broken_store s r }))
      → (step_cause s r j 0 ≡ 0 → P (walk r js (stepped_store s r j 0)))
      → P (walk r (j ∷ js) s)
  unfolding walk walk_on step_broken step_done
  walk-head P f g h =
      step-cases (λ x. P (walk_on j s x (λ t. walk r js t))) s r j 0 f g h

-- ---- two walks, one after the other

abbrev stops : Ended → ℕ
stops through = 0
stops (breaks_at j m) = 1
stops (turned_at j n) = 1

module _ (j : ℕ) (s : Store) (f g : Store → Walked) where
  on-append : (k : Store → Walked) → ((t : Store) → (f t).ended ≡ through → g t ≡ k (f t).store)
      → (x : Outcome) → (walk_on j s x f).ended ≡ through
      → walk_on j s x g ≡ k (walk_on j s x f).store
  unfolding walk_on
  on-append k h (refused n) e = absurd (omega (arith, ap stops e))
  on-append k h (broken m t) e = absurd (omega (arith, ap stops e))
  on-append k h (done a t) e = h t e
  on-append k h (told w a) e = h s e

  on-stopped : ((t : Store) → (f t).ended ≢ through → g t ≡ f t)
      → (x : Outcome) → (walk_on j s x f).ended ≢ through → walk_on j s x g ≡ walk_on j s x f
  unfolding walk_on
  on-stopped h (refused n) e = refl
  on-stopped h (broken m t) e = refl
  on-stopped h (done a t) e = h t e
  on-stopped h (told w a) e = h s e

module _ (r : ℕ) (ys : List ℕ) where
  -- The second goes on where the first went through,
  pub walk-append : (xs : List ℕ) (s : Store) → (walk r xs s).ended ≡ through
      → walk r (xs ++ ys) s ≡ walk r ys (walk r xs s).store
  unfolding walk
  walk-append [] s e = refl
  walk-append (j ∷ xs) s e =
      on-append j s (λ t. walk r xs t) (λ t. walk r (xs ++ ys) t) (λ t. walk r ys t)
      (λ t h. walk-append xs t h) (step_rule_of r j 0 s) e

  -- and there is none where it didn't.
  pub walk-stopped : (xs : List ℕ) (s : Store) → (walk r xs s).ended ≢ through
      → walk r (xs ++ ys) s ≡ walk r xs s
  unfolding walk
  walk-stopped [] s e = absurd (e refl)
  walk-stopped (j ∷ xs) s e =
      on-stopped j s (λ t. walk r xs t) (λ t. walk r (xs ++ ys) t)
      (λ t h. walk-stopped xs t h) (step_rule_of r j 0 s) e
