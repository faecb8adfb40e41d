-- A step that is not refused, and the cause of one that is.
-- Accepted: what it has passed. accepted-used: its run isn't free. job_limit_lem: its jobs.
-- step-high, step-below, step-free: the cause by the run's range and job_cause.
-- step-planned, step_cached: where the reads of such a step are. stepSnapshot-..: the snapshot
-- after it. stepped_branch, stepped_run: its branch and run.
-- Assumes nothing.
use mathlib.Core.Path.{◌≡◌, refl, sym, ◌∙◌}
use mathlib.Core.Bool.{Bool, true, false, cond, not, So}
use mathlib.Core.Logic.{inl, inr}
use Prim.Native.Nat.{ℕ, ◌≤◌, ◌<◌}
use native.Mathlib.Omega.{arith}
use lib.Bits.{bit_or}
use lib.Dec.{eqb, leb}
use Rattle.words.specs.Tests.{Within}
use Rattle.words.proofs.Bools.{test, le-leb, gt-leb, leb-gt, eqb-eq, ne_eqb}
use Rattle.words.proofs.Tests.{any-intro}
use Rattle.masks.specs.Mask.{with_bit}
use Rattle.model.specs.Algebra.{causal_cut, overlapping_cut, lacking}
use Rattle.model.specs.Version.{held, versions}
use Rattle.model.specs.Sets.{unfetchable}
use Rattle.model.specs.Store.{Branch, Run, Store, planned, with_job_done}
use Rattle.model.specs.Allowance.{over}
use Rattle.model.specs.Outcome.{refuse, allowed, step_row, free_state}
use Rattle.model.specs.Step.{read_start, step_branch, step_site, step_reads, step_start, step_cache, step_plan, step_pull, step_snapshot, step_barred, job_limit, off_branch, not_ready, job_cause, step_cause}
use Rattle.model.proofs.Outcomes.{no-cause, no-lack, allowed-used}
use Rattle.model.proofs.Draws.{lacking-iff, fetched-held, pulled-out}
use Rattle.model.proofs.Pulls.{pulled-held, pulled-keeps, pulled-planned, pulled-overlap}

-- Every row of step is passed.
pub record Accepted (s : Store) (r j n : ℕ) : Type 0 where
  pub run_in : r < s.counts.runs
  pub open_run_lem : So (allowed step_row (s.run r).state)
  pub job_in_lem : j < (s.run r).jobs
  pub on_branch : off_branch (s.run r).mark n ≡ false
  pub ready : not_ready (s.run r).done ((s.run r).job j).upstream j ≡ false
  pub entitled : step_barred s r j n ≡ false
  pub fetchable : unfetchable (versions s.counts.writers) s.counts.keys s.master
      (step_start s r j n) ≡ false
  pub fits : over s.counts (s.site (step_site s r j n)) (step_cache s r j n) ≡ false

pub step-used : (n : ℕ) → So (allowed step_row n) → 1 ≤ n
unfolding allowed
step-used n p = allowed-used step_row n refl p

pub accepted-used : {s : Store} {r j n : ℕ} → Accepted s r j n → 1 ≤ (s.run r).state
accepted-used {s} {r} a = step-used (s.run r).state a.open_run_lem

-- In a run that isn't free its jobs are the limit.
pub job_limit_lem : (state jobs : ℕ) → So (allowed step_row state) → job_limit state jobs ≡ jobs
unfolding job_limit
job_limit_lem state jobs p =
    let l = step-used state p in rw (ne_eqb state free_state (λ e. absurd (omega arith)))

pub accepted : (s : Store) (r j n : ℕ) → step_cause s r j n ≡ 0 → Accepted s r j n
unfolding step_cause job_cause
accepted s r j n e =
    let x = s.run r in
    let limit = job_limit x.state x.jobs in
    let a = no-cause (leb s.counts.runs r) 3 _ (omega arith) e in
    let b = no-cause (leb limit j) 3 _ (omega arith) a.1 in
    let c = no-lack (allowed step_row (s.run r).state) 4 _ (omega arith) b.1 in
    let l = no-cause (off_branch x.mark n) 14 _ (omega arith) c.1 in
    let d = no-cause (not_ready x.done (x.job j).upstream j) 6 _ (omega arith) l.1 in
    let h = no-cause (step_barred s r j n) 13 _ (omega arith) d.1 in
    let f = no-cause _ 7 _ (omega arith) h.1 in
    let g = no-cause _ 12 0 (omega arith) f.1 in
    record {
      run_in = leb-gt s.counts.runs r a.0;
      open_run_lem = c.0;
      job_in_lem = rw (job_limit_lem x.state x.jobs c.0) at (leb-gt limit j b.0);
      on_branch = l.0;
      ready = d.0;
      entitled = h.0;
      fetchable = f.0;
      fits = g.0;
    }

-- ---- the cause row by row

-- The rows above others: the first of them that holds, or where none does the others.
rows : (a b c d : Bool) (rest : ℕ)
    → let n = refuse a 3 (refuse b 4 (refuse c 14 (refuse d 6 0))) in
    refuse a 3 (refuse b 4 (refuse c 14 (refuse d 6 rest))) ≡ cond (eqb n 0) rest n
unfolding refuse
rows true b c d rest = refl
rows false true c d rest = refl
rows false false true d rest = refl
rows false false false true rest = refl
rows false false false false rest = refl

module _ (s : Store) (r j n : ℕ) where
  pub step-high : s.counts.runs ≤ r → step_cause s r j n ≡ 3
  unfolding step_cause refuse
  step-high h = rw (le-leb _ _ h)

  pub step-below : r < s.counts.runs → let c = job_cause (s.run r) j n 0 in
      step_cause s r j n
      ≡ cond (eqb c 0) (refuse (step_barred s r j n) 13
      (refuse (unfetchable (versions s.counts.writers) s.counts.keys s.master
      (step_start s r j n)) 7
      (refuse (over s.counts (s.site (step_site s r j n)) (step_cache s r j n)) 12 0))) c
  unfolding step_cause job_cause refuse
  step-below h =
      let a = s.run r in
      rw (gt-leb s.counts.runs r h)
      (rows (leb (job_limit a.state a.jobs) j) (not (allowed step_row a.state))
      (off_branch a.mark n) (not_ready a.done (a.job j).upstream j) _)

  -- Where there is no cause at all.
  pub step-free : step_cause s r j n ≡ 0
      → (r < s.counts.runs) × (job_cause (s.run r) j n 0 ≡ 0)
  unfolding step_cause
  step-free e =
      let out = (no-cause (leb s.counts.runs r) 3 _ (omega arith) e).0 in
      let h = leb-gt s.counts.runs r out in
      (h, none (job_cause (s.run r) j n 0) _ (sym (step-below h) ∙ e))
    where
      none : (n m : ℕ) → cond (eqb n 0) m n ≡ 0 → n ≡ 0
      none n m f =
          test (eqb n 0) (λ y. eqb-eq n 0 y) (λ y.
          let g : n ≡ 0 = rw y at f in g)

-- ---- what the job reads

-- What a job reads is in the plan,
pub step-planned : (s : Store) (r j n k : ℕ) → j < (s.run r).jobs → So (step_reads s r j n k)
    → So (step_plan s r j n k)
unfolding step_reads step_plan planned
step-planned s r j n k l p = any-intro (s.run r).jobs _ j l p

-- and where the snapshot lacks it the cache holds it, after the fetch.
pub step_cached : (s : Store) (r j n k : ℕ) → Accepted s r j n → k < s.counts.keys
    → So (step_reads s r j n k) → held ((step_branch s r j n).snapshot k) ≡ false
    → So (held (step_cache s r j n k))
unfolding step_cache step_start read_start
step_cached s r j n k a l p f =
    let alg = versions s.counts.writers in
    let K = s.counts.keys in
    let snapshot = (step_branch s r j n).snapshot in
    let cache = (s.site (step_site s r j n)).cache in
    let gone = (lacking-iff alg K snapshot (step_reads s r j n) k).1 (p, f) in
    fetched-held alg K s.master cache (step_start s r j n) a.fetchable k l
    (test (held (cache k)) (λ y. inr y)
    (λ m. inl ((lacking-iff alg K cache (lacking alg K snapshot (step_reads s r j n)) k).1
    (gone, m))))

-- ---- the snapshot after it

module _ (s : Store) (r j n : ℕ) where
  -- Outside of C it is as it was.
  pub step_snapshot-out : (k : ℕ) → step_pull s r j n k ≡ false
      → step_snapshot s r j n k ≡ (step_branch s r j n).snapshot k
  unfolding step_snapshot step_pull
  step_snapshot-out =
      pulled-out (versions s.counts.writers) s.counts.keys (step_plan s r j n)
      (step_branch s r j n).snapshot (step_cache s r j n) (step_reads s r j n)

  -- It holds what it held, and all that the job reads,
  pub step_snapshot-keeps : (k : ℕ) → So (held ((step_branch s r j n).snapshot k))
      → So (held (step_snapshot s r j n k))
  unfolding step_snapshot
  step_snapshot-keeps =
      pulled-keeps s.counts.writers s.counts.keys (step_plan s r j n)
      (step_branch s r j n).snapshot (step_cache s r j n) (step_reads s r j n)

  module _ (a : Accepted s r j n) where
    pub step_snapshot-held : (k : ℕ) → k < s.counts.keys → So (step_reads s r j n k)
        → So (held (step_snapshot s r j n k))
    unfolding step_snapshot
    step_snapshot-held k l p =
        pulled-held s.counts.writers s.counts.keys (step_plan s r j n)
        (step_branch s r j n).snapshot (step_cache s r j n) (step_reads s r j n) k p
        (step_cached s r j n k a l p)

    -- only keys of the plan, if that was so,
    pub step_snapshot-planned :
        Within s.counts.keys (λ k. held ((step_branch s r j n).snapshot k)) (step_plan s r j n)
        → Within s.counts.keys (λ k. held (step_snapshot s r j n k)) (step_plan s r j n)
    unfolding step_snapshot
    step_snapshot-planned =
        pulled-planned s.counts.writers s.counts.keys (step_plan s r j n)
        (step_branch s r j n).snapshot (step_cache s r j n) (step_reads s r j n)
        (λ k _. step-planned s r j n k a.job_in_lem)

    -- and is still a cut for the plan.
    pub step_snapshot-overlaps :
        So (overlapping_cut (versions s.counts.writers) s.counts.keys (step_plan s r j n)
        (step_branch s r j n).snapshot)
        → So (causal_cut (versions s.counts.writers) s.counts.keys (step_cache s r j n))
        → So (overlapping_cut (versions s.counts.writers) s.counts.keys (step_plan s r j n)
        (step_snapshot s r j n))
    unfolding step_snapshot
    step_snapshot-overlaps o c =
        pulled-overlap s.counts.writers s.counts.keys (step_plan s r j n)
        (step_branch s r j n).snapshot (step_cache s r j n) (step_reads s r j n) o c
        (λ k _. step-planned s r j n k a.job_in_lem)

-- The branch after it, and the run.
abbrev pub stepped_branch : Store → ℕ → ℕ → ℕ → Branch
stepped_branch s r j n = record {
  read = bit_or (step_branch s r j n).read ((s.run r).job j).reads;
  snapshot = step_snapshot s r j n;
}

abbrev pub stepped_run : Store → ℕ → ℕ → ℕ → Run
stepped_run s r j n =
    with_job_done (s.run r) n (with_bit (s.run r).done j) (stepped_branch s r j n)
