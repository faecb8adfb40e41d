-- Laws of the form of a run.
-- Valid: a valid job. Plan: the form of a run that isn't free, as a record; plan-out, plan_in.
-- free-formed, Free: a free run. free-or-plan: a run is one of the two. run-branch, run-place: a
-- branch and its card. read-planned: what is read is in the plan.
-- state-low: its state.
-- Assumes nothing.
use mathlib.Core.Path.{◌≡◌, refl}
use mathlib.Core.Bool.{Bool, cond, So, ◌&&◌}
use mathlib.Core.Logic.{⊎_elim}
use Prim.Native.Nat.{ℕ, ◌≤◌, ◌<◌, ◌^◌}
use native.Mathlib.Omega.{arith}
use lib.Bits.{bit_or}
use lib.Dec.{eqb, leb, ltb}
use Rattle.words.specs.Tests.{all_below}
use Rattle.words.proofs.Bools.{test, and_intro, and_left, and_right, leb-le, le-leb, ltb-lt, lt-ltb, ge-ltb, eqb-eq, eq-eqb, eqb-ne, ne_eqb}
use Rattle.words.proofs.Tests.{below_or_not, all-intro, all-at}
use Rattle.masks.specs.Mask.{test_bit, mask_below}
use Rattle.sizes.specs.declared.Counts.{Counts}
use Rattle.sizes.specs.Bounds.{between}
use Rattle.sizes.specs.Runs.{max_jobs}
use Rattle.sizes.proofs.Offsets.{between-out, between_in}
use Rattle.model.specs.Store.{Job, Run, branch_of, free_run, no_job, planned, done_reads}
use Rattle.model.specs.Form.{valid_job, zero_job, zero_branch, free_formed, jobs_formed, masks_formed, mark_formed, snapshot_formed, branches_formed, run_formed}
use Rattle.model.proofs.FormedPlaces.{PlaceFormed}
use Rattle.model.proofs.Branches.{on_both, Snapshot, snapshot-out, snapshot_in, Vacant, vacant-out, no-branch, vacant-snapshot, Marked, mark-out, mark_in}

-- ---- jobs

pub record Valid (z : Counts) (i : ℕ) (j : Job) : Type 0 where
  pub site : j.site < z.sites
  pub reads : j.reads < 2 ^ z.keys
  pub upstream : j.upstream < 2 ^ i

pub valid-out : (z : Counts) (i : ℕ) (j : Job) → So (valid_job z i j) → Valid z i j
unfolding valid_job
valid-out z i j p =
    let a = ltb j.site z.sites in
    let b = ltb j.reads (2 ^ z.keys) in
    let c = ltb j.upstream (2 ^ i) in
    let q = and_right a (b && c) p in
    record {
      site = ltb-lt _ _ (and_left a (b && c) p);
      reads = ltb-lt _ _ (and_left b c q);
      upstream = ltb-lt _ _ (and_right b c q);
    }

pub zero-job : So (zero_job no_job)
unfolding zero_job
zero-job = refl

-- ---- the three parts of a run's form

-- n jobs, and zero words beyond them.
pub record Jobs (z : Counts) (n : ℕ) (job : ℕ → Job) : Type 0 where
  pub low : 1 ≤ n
  pub high : n ≤ max_jobs
  pub valid : (i : ℕ) → i < n → So (valid_job z i (job i))
  pub beyond : (i : ℕ) → i < max_jobs → n ≤ i → So (zero_job (job i))

-- What is asked of job i.
abbrev job_test : Counts → Run → ℕ → Bool
job_test z a i = cond (ltb i a.jobs) (valid_job z i (a.job i)) (zero_job (a.job i))

pub jobs-out : (z : Counts) (a : Run) → So (jobs_formed z a) → Jobs z a.jobs a.job
unfolding jobs_formed
jobs-out z a p =
    let b = between max_jobs a.jobs in
    let range = between-out max_jobs a.jobs (and_left b (all_below max_jobs (job_test z a)) p) in
    let each = all-at max_jobs (job_test z a) (and_right b (all_below max_jobs (job_test z a)) p)
    in
    record {
      low = range.0;
      high = range.1;
      valid = λ i h. let t = each i (omega (arith, range.1)) in rw (lt-ltb i a.jobs h) at t;
      beyond = λ i l h. let t = each i l in rw (ge-ltb i a.jobs h) at t;
    }

jobs_in : (z : Counts) (a : Run) → Jobs z a.jobs a.job → So (jobs_formed z a)
unfolding jobs_formed
jobs_in z a J =
    and_intro (between_in max_jobs a.jobs J.low J.high)
    (all-intro max_jobs (job_test z a) (λ i l. ⊎_elim
    (λ h. rw (lt-ltb i a.jobs h) (J.valid i h))
    (λ h. rw (ge-ltb i a.jobs h) (J.beyond i l h)) (below_or_not i a.jobs)))

-- The done mask, and the reads of both branches that follow from it.
pub record Masks (z : Counts) (n : ℕ) (job : ℕ → Job) (done read : ℕ) : Type 0 where
  pub low : done < 2 ^ n
  pub reads : read ≡ mask_below z.keys (done_reads n job done)

-- What both branches have read.
abbrev pub read_both : Run → ℕ
read_both a = bit_or a.branch.read a.second.read

pub masks-out : (z : Counts) (a : Run) → So (masks_formed z a)
    → Masks z a.jobs a.job a.done (read_both a)
unfolding masks_formed
masks-out z a p =
    let d = ltb a.done (2 ^ a.jobs) in
    let reads = mask_below z.keys (done_reads a.jobs a.job a.done) in
    record {
      low = ltb-lt _ _ (and_left d (eqb (read_both a) reads) p);
      reads = eqb-eq _ _ (and_right d (eqb (read_both a) reads) p);
    }

masks_in : (z : Counts) (a : Run) → Masks z a.jobs a.job a.done (read_both a)
    → So (masks_formed z a)
unfolding masks_formed
masks_in z a M = and_intro (lt-ltb _ _ M.low) (eq-eqb _ _ M.reads)

-- ---- a run that isn't free

pub record Plan (z : Counts) (a : Run) : Type 0 where
  pub state : a.state ≤ 2
  pub jobs : Jobs z a.jobs a.job
  pub masks : Masks z a.jobs a.job a.done (read_both a)
  pub mark : Marked z a
  pub snapshot : (n : ℕ) → Snapshot z a.jobs a.job (branch_of n a)

pub plan-out : (z : Counts) (a : Run) → 1 ≤ a.state → So (run_formed z a) → Plan z a
unfolding run_formed branches_formed
plan-out z a h p =
    let s = leb a.state 2 in
    let j = jobs_formed z a in
    let m = masks_formed z a in
    let k = mark_formed z a in
    let b = snapshot_formed z a a.branch in
    let c = snapshot_formed z a a.second in
    let q : So (s && (j && (m && (k && (b && c))))) =
    rw (ne_eqb a.state 0 (λ e. omega arith)) at p in
    let q₁ = and_right s (j && (m && (k && (b && c)))) q in
    let q₂ = and_right j (m && (k && (b && c))) q₁ in
    let q₃ = and_right m (k && (b && c)) q₂ in
    let q₄ = and_right k (b && c) q₃ in
    record {
      state = leb-le _ _ (and_left s (j && (m && (k && (b && c)))) q);
      jobs = jobs-out z a (and_left j (m && (k && (b && c))) q₁);
      masks = masks-out z a (and_left m (k && (b && c)) q₂);
      mark = mark-out z a (and_left k (b && c) q₃);
      snapshot = on_both (Snapshot z a.jobs a.job) a
          (snapshot-out z a a.branch (and_left b c q₄))
          (snapshot-out z a a.second (and_right b c q₄));
    }

pub plan_in : (z : Counts) (a : Run) → 1 ≤ a.state → Plan z a → So (run_formed z a)
unfolding run_formed branches_formed
plan_in z a h P =
    rw (ne_eqb a.state 0 (λ e. omega arith))
    (and_intro (le-leb _ _ P.state)
    (and_intro (jobs_in z a P.jobs)
    (and_intro (masks_in z a P.masks)
    (and_intro (mark_in z a P.mark)
    (and_intro (snapshot_in z a a.branch (P.snapshot 0))
    (snapshot_in z a a.second (P.snapshot 1)))))))

-- ---- a free run

pub free-formed : (z : Counts) → So (run_formed z free_run)
unfolding run_formed free_formed
free-formed z =
    and_intro (all-intro max_jobs (λ i. zero_job no_job) (λ i h. zero-job))
    (and_intro (no-branch z) (no-branch z))

-- A free run has no jobs, and nothing on either branch.
pub record Free (z : Counts) (a : Run) : Type 0 where
  pub jobs : a.jobs ≡ 0
  pub vacant : (n : ℕ) → Vacant z (branch_of n a)

pub free-out : (z : Counts) (a : Run) → So (free_formed z a) → Free z a
unfolding free_formed
free-out z a p =
    let none = eqb a.jobs 0 in
    let done = eqb a.done 0 in
    let jobs = all_below max_jobs (λ i. zero_job (a.job i)) in
    let first = zero_branch z a.branch in
    let mark = eqb a.mark 0 in
    let second = zero_branch z a.second in
    let rest = jobs && (first && (mark && second)) in
    let q = and_right done rest (and_right none (done && rest) p) in
    let q₁ = and_right jobs (first && (mark && second)) q in
    let q₂ = and_right mark second (and_right first (mark && second) q₁) in
    record {
      jobs = eqb-eq a.jobs 0 (and_left none (done && rest) p);
      vacant = on_both (Vacant z) a (vacant-out z a.branch (and_left first (mark && second) q₁))
          (vacant-out z a.second q₂);
    }

-- A run is free, or isn't.
pub free-or-plan {ℓ} : {X : Type ℓ} (z : Counts) (a : Run) → So (run_formed z a)
    → (So (free_formed z a) → X) → (Plan z a → X) → X
unfolding run_formed
free-or-plan z a F f g =
    test (eqb a.state 0)
    (λ y. f (rw y at F))
    (λ n. let used : 1 ≤ a.state = omega (arith, eqb-ne a.state 0 n) in
    g (plan-out z a used F))

-- A branch of a run, free or not.
pub run-branch : (z : Counts) (a : Run) → So (run_formed z a) → (n : ℕ)
    → Snapshot z a.jobs a.job (branch_of n a)
run-branch z a F n =
    free-or-plan z a F
    (λ p. vacant-snapshot a.jobs a.job ((free-out z a p).vacant n)) (λ P. P.snapshot n)

-- Its card.
pub run-place : (z : Counts) (a : Run) → So (run_formed z a) → (n : ℕ)
    → PlaceFormed z (branch_of n a).snapshot
run-place z a F n = (run-branch z a F n).place

-- What a branch has read is among the keys of its run's plan.
pub read-planned : (z : Counts) (a : Run) → So (run_formed z a) → (n k : ℕ) → k < z.keys
    → So (test_bit (branch_of n a).read k) → So (planned a.jobs a.job k)
read-planned z a F n k l p =
    let S = run-branch z a F n in
    S.carried k l (S.has k l p)

-- ---- states

pub state-low : (z : Counts) (a : Run) → So (run_formed z a) → a.state < 3
state-low z a p =
    test (eqb a.state 0) (λ t. omega (arith, eqb-eq a.state 0 t)) (λ t.
    let used = eqb-ne a.state 0 t in
    omega (arith, (plan-out z a (omega arith) p).state))
