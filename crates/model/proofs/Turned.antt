-- A forecast is turned down by 13, 7 or 12 alone: 6 can't come, since upstreams are lower jobs.
-- Walking: what its steps go by. forecast_open: its run is open. forecast-turned.
-- Assumes nothing.
use mathlib.Core.Path.{◌≡◌, refl, ap, ◌∙◌}
use mathlib.Core.Bool.{Bool, true, false, not, So, false≢true, ◌&&◌}
use mathlib.Core.Logic.{◌≢◌, ◌⊎◌, inl, inr}
use Prim.Native.Nat.{ℕ, zero, suc, ◌+◌, ◌-◌, ◌^◌, ◌≤◌, ◌<◌}
use native.Mathlib.Omega.{arith}
use Rattle.words.proofs.Bools.{test, gt-leb}
use Rattle.words.proofs.Lists.{put_at_same}
use Rattle.words.proofs.Tests.{below-cases, any-no}
use Rattle.masks.specs.Mask.{test_bit, with_bit}
use Rattle.masks.proofs.Bits.{test-with-same, test-with-other, test_low}
use Rattle.sizes.specs.Runs.{max_jobs}
use Rattle.model.specs.Store.{Run, Branch, Store, with_sites, with_cache, with_run, with_job_done}
use Rattle.model.specs.Form.{well_formed}
use Rattle.model.specs.Outcome.{refuse, allowed, step_row, forecast_row, open_state}
use Rattle.model.specs.Step.{step_cause, off_branch, not_ready, job_cause}
use Rattle.model.specs.Calls.Forecast.{Ended, through, breaks_at, turned_at, Walked, walk, forecast_walk}
use Rattle.model.proofs.Steps.{job_limit_lem, step-below, stepped_run}
use Rattle.model.proofs.Formed.{well-out}
use Rattle.model.proofs.Plans.{valid-out, plan-out, state-low}
use Rattle.model.proofs.Forecasts.{undone_from, undone-start, undone-end, undone-passed, undone-next, stepped_store, walk_end, walk-head}

-- A run whose jobs below j are done, and from j on just those of a mask; upstreams are lower.
pub record Walking (a : Run) (finished j : ℕ) : Type 0 where
  pub open_run_lem : So (allowed step_row a.state)
  pub upstream : (i : ℕ) → i < a.jobs → (a.job i).upstream < 2 ^ i
  pub below : (i : ℕ) → i < j → So (test_bit a.done i)
  pub rest : (i : ℕ) → j ≤ i → test_bit a.done i ≡ test_bit finished i

module _ (a : Run) (finished j : ℕ) (W : Walking a finished j) where
  walking_passed : So (test_bit finished j) → Walking a finished (j + 1)
  walking_passed p = record {
    open_run_lem = W.open_run_lem;
    upstream = W.upstream;
    below = λ i l. below-cases i j (omega arith) (λ e. rw e (W.rest j (omega arith) ∙ p))
        (λ k. W.below i k);
    rest = λ i l. W.rest i (omega arith);
  }

  walking_done : (b : Branch) → Walking (with_job_done a 0 (with_bit a.done j) b) finished (j + 1)
  unfolding with_job_done
  walking_done b = record {
    open_run_lem = W.open_run_lem;
    upstream = W.upstream;
    below = λ i l. below-cases i j (omega arith) (λ e. rw e (test-with-same a.done j))
        (λ k. test-with-other a.done j i (λ e. absurd (omega arith)) ∙ W.below i k);
    rest = λ i l. test-with-other a.done j i (λ e. absurd (omega arith))
        ∙ W.rest i (omega arith);
  }

  -- A job of the run that isn't done is ready,
  walking_ready : j < a.jobs → test_bit finished j ≡ false
      → not_ready a.done (a.job j).upstream j ≡ false
  unfolding not_ready
  walking_ready l p =
      let up = (a.job j).upstream in
      rw (W.rest j (omega arith) ∙ p)
      (any-no max_jobs (λ i. test_bit up i && not (test_bit a.done i)) (λ i _.
      test (test_bit up i)
      (λ y. rw (y, W.below i (test_low up j i (W.upstream j l) y)))
      (λ n. rw n)))

  -- and the run alone doesn't turn it down.
  walking_cause : j < a.jobs → test_bit finished j ≡ false → job_cause a j 0 0 ≡ 0
  unfolding job_cause off_branch refuse
  walking_cause l p =
      rw (
        job_limit_lem a.state a.jobs W.open_run_lem,
        gt-leb a.jobs j l,
        W.open_run_lem,
        walking_ready l p,
      )

-- The numbers by which a step of a walk is turned down.
abbrev pub TurnedBy : ℕ → Type 0
TurnedBy c = (c ≡ 13) ⊎ ((c ≡ 7) ⊎ (c ≡ 12))

late-rows : (a b c : Bool) → let n = refuse a 13 (refuse b 7 (refuse c 12 0)) in
    n ≢ 0 → TurnedBy n
unfolding refuse
late-rows true b c h = inl refl
late-rows false true c h = inr (inl refl)
late-rows false false true h = inr (inr refl)
late-rows false false false h = absurd (h refl)

abbrev tag : Ended → ℕ
tag through = 0
tag (breaks_at j m) = 0
tag (turned_at j n) = 1

abbrev number : Ended → ℕ
number through = 0
number (breaks_at j m) = 0
number (turned_at j n) = n

-- How a walk is turned down.
abbrev Turns : Walked → Type 0
Turns w = (i c : ℕ) → w.ended ≡ turned_at i c → TurnedBy c

stepped-run : (s : Store) (r j : ℕ) → (stepped_store s r j 0).run r ≡ stepped_run s r j 0
unfolding with_run with_cache with_sites
stepped-run s r j = put_at_same s.run r (stepped_run s r j 0)

stepped-counts : (s : Store) (r j : ℕ) → (stepped_store s r j 0).counts ≡ s.counts
unfolding with_run with_cache with_sites
stepped-counts s r j = refl

stepped-jobs : (s : Store) (r j : ℕ) → ((stepped_store s r j 0).run r).jobs ≡ (s.run r).jobs
unfolding with_job_done
stepped-jobs s r j = ap (λ (a : Run). a.jobs) (stepped-run s r j)

turned-cause : (s : Store) (r j : ℕ) → r < s.counts.runs → job_cause (s.run r) j 0 0 ≡ 0
    → step_cause s r j 0 ≢ 0 → TurnedBy (step_cause s r j 0)
turned-cause s r j h e n =
    let f = rw e at (step-below s r j 0 h) in
    rw f (late-rows _ _ _ (λ g. n (f ∙ g)))

-- A walk over the jobs of a mask from j on is turned down by 13, 7 or 12 alone.
walk-turned : (n j m finished r : ℕ) (s : Store) → r < s.counts.runs → (s.run r).jobs ≡ m
    → m - j ≡ n → Walking (s.run r) finished j → Turns (walk r (undone_from finished m j) s)
walk-turned zero j m finished r s h k e W =
    rw (undone-end finished m j (omega arith), walk_end r s)
    (λ i c q. absurd (omega (arith, ap tag q)))
walk-turned (suc n) j m finished r s h k e W =
    let l : j < m = omega arith in
    test (test_bit finished j)
    (λ y. rw (undone-passed finished m j l y)
    (walk-turned n (j + 1) m finished r s h k (omega arith)
    (walking_passed (s.run r) finished j W y)))
    (λ y. rw (undone-next finished m j l y)
    (walk-head r j (undone_from finished m (j + 1)) s Turns
    (λ g i c q. rw (← ap number q) (turned-cause s r j h
    (walking_cause (s.run r) finished j W (rw k l) y) g))
    (λ _ i c q. absurd (omega (arith, ap tag q)))
    (λ _. walk-turned n (j + 1) m finished r (stepped_store s r j 0)
    (rw (stepped-counts s r j) h) (stepped-jobs s r j ∙ k) (omega arith)
    (rw (stepped-run s r j) (walking_done (s.run r) finished j W _)))))

-- Only an open run is forecast, and it may be stepped.
pub forecast_open : (n : ℕ) → n < 3 → So (allowed forecast_row n) → n ≡ open_state
unfolding allowed
forecast_open zero h p = absurd (false≢true p)
forecast_open (suc zero) h p = refl
forecast_open (suc (suc zero)) h p = absurd (false≢true p)
forecast_open (suc (suc (suc n))) h p = absurd (omega arith)

step_open : So (allowed step_row open_state)
unfolding allowed
step_open = refl

-- So is the forecast of an open run of a store in form.
pub forecast-turned : (s : Store) (r : ℕ) → So (well_formed s) → r < s.counts.runs
    → So (allowed forecast_row (s.run r).state)
    → (i c : ℕ) → (forecast_walk r s).ended ≡ turned_at i c → TurnedBy c
unfolding forecast_walk
forecast-turned s r F h p =
    let a = s.run r in
    let formed = (well-out s F).run r h in
    let o = forecast_open a.state (state-low s.counts a formed) p in
    let P = plan-out s.counts a (omega arith) formed in
    rw (undone-start a)
    (walk-turned a.jobs 0 a.jobs a.done r s h refl (omega arith) (record {
      open_run_lem = rw o step_open;
      upstream = λ i l. (valid-out s.counts i (a.job i) (P.jobs.valid i l)).upstream;
      below = λ i l. absurd (omega arith);
      rest = λ i l. refl;
    }))
