-- Open keeps a store fine.
-- Listed, list-out: a list of jobs that is accepted. job_in_lem, job-out: its jobs.
-- Assumes nothing.
use mathlib.Core.Path.{◌≡◌, refl, sym}
use mathlib.Core.Bool.{So, ◌&&◌}
use mathlib.Core.List.{List}
use mathlib.Core.Logic.{inr}
use Prim.Native.Nat.{ℕ, ◌*◌, ◌≤◌, ◌<◌}
use native.Mathlib.Omega.{arith}
use lib.Dec.{eqb}
use lib.ListN.{length}
use lib.Pow.{pow_pos}
use Rattle.words.specs.Tests.{all_below}
use Rattle.words.proofs.Bools.{and_left, and_right, leb-gt, eqb-eq}
use Rattle.words.proofs.Tests.{all-at}
use Rattle.words.proofs.Lists.{upto_in, upto-out}
use Rattle.sizes.specs.declared.Counts.{Counts}
use Rattle.sizes.specs.Bounds.{between}
use Rattle.sizes.specs.Runs.{max_jobs, job_size}
use Rattle.sizes.proofs.Offsets.{between-out}
use Rattle.model.specs.Store.{Store, no_job, with_run}
use Rattle.model.specs.Form.{valid_job, run_formed}
use Rattle.model.specs.Outcome.{run_cause}
use Rattle.model.specs.Runs.{listed_job, listed_count, listed_jobs, list_valid, open_cause, opened_run, open_done, open_rule}
use Rattle.model.proofs.Outcomes.{no-cause, no-lack}
use Rattle.model.proofs.DoneReads.{done_reads-none}
use Rattle.layout.proofs.Runs.{FitRun}
use Rattle.layout.proofs.Fit.{fit-empty, fit-run}
use Rattle.model.proofs.Formed.{well-out}
use Rattle.model.proofs.FormedNext.{formed-run}
use Rattle.model.proofs.Plans.{zero-job, plan_in}
use Rattle.model.proofs.Branches.{on_both, Snapshot, none-vacant, vacant-snapshot}
use Rattle.layout.proofs.Follow.{Fine}
use Rattle.layout.proofs.Kept.{Kept, kept-done, kept-unless}

-- A list of jobs that is accepted.
pub record Listed (z : Counts) (l : List ℕ) : Type 0 where
  pub whole : length l ≡ listed_count l * job_size
  pub low : 1 ≤ listed_count l
  pub high : listed_count l ≤ max_jobs
  pub valid : (i : ℕ) → i < listed_count l → So (valid_job z i (listed_job l i))

pub list-out : (z : Counts) (l : List ℕ) → So (list_valid z l) → Listed z l
unfolding list_valid
list-out z l p =
    let n = listed_count l in
    let valid = all_below n (λ i. valid_job z i (listed_job l i)) in
    let whole = eqb (length l) (n * job_size) in
    let q = and_right whole (between max_jobs n && valid) p in
    let range = between-out max_jobs n (and_left (between max_jobs n) valid q) in
    record {
      whole = eqb-eq _ _ (and_left whole (between max_jobs n && valid) p);
      low = range.0;
      high = range.1;
      valid = all-at n (λ i. valid_job z i (listed_job l i)) (and_right (between max_jobs n) valid
          q);
    }

pub job_in_lem : (l : List ℕ) (i : ℕ) → i < listed_count l → listed_jobs l i ≡ listed_job l i
unfolding listed_jobs
job_in_lem l i h = upto_in (listed_count l) no_job (listed_job l) i h

pub job-out : (l : List ℕ) (i : ℕ) → listed_count l ≤ i → listed_jobs l i ≡ no_job
unfolding listed_jobs
job-out l i h = upto-out (listed_count l) no_job (listed_job l) i h

opened-fits : (z : Counts) (l : List ℕ) → Listed z l → FitRun z (opened_run l)
unfolding opened_run
opened-fits z l L = record {
  job = record {
    each = λ i h. record {};
    rest = λ i h. job-out l i (omega (arith, L.high));
  };
  snapshot = fit-empty z;
  second = fit-empty z;
}

opened-formed : (z : Counts) (l : List ℕ) → Listed z l → So (run_formed z (opened_run l))
unfolding opened_run
opened-formed z l L = plan_in z (opened_run l) (omega arith) (record {
  state = omega arith;
  jobs = record {
    low = L.low;
    high = L.high;
    valid = λ i h. rw (job_in_lem l i h) (L.valid i h);
    beyond = λ i _ h. rw (job-out l i h) zero-job;
  };
  masks = record {
    low = pow_pos (listed_count l);
    reads = sym (done_reads-none z.keys (listed_count l) (listed_jobs l));
  };
  mark = record { high = omega arith; single = inr (none-vacant z) };
  snapshot = on_both (Snapshot z (listed_count l) (listed_jobs l)) (opened_run l)
      (vacant-snapshot (listed_count l) (listed_jobs l) (none-vacant z))
      (vacant-snapshot (listed_count l) (listed_jobs l) (none-vacant z));
})

pub open_kept : (r : ℕ) (l : List ℕ) (s : Store) → Fine s → Kept s (open_rule r l s)
unfolding open_rule open_done open_cause run_cause with_run
open_kept r l s F =
    kept-unless s (open_cause s r l) (open_done s r l) F (λ e.
    let z = s.counts in
    let a = no-cause _ 3 _ (omega arith) e in
    let b = no-cause _ 4 _ (omega arith) a.1 in
    let L = list-out z l (no-lack (list_valid z l) 5 _ (omega arith) b.1).0 in
    kept-done s (with_run s r (opened_run l)) _ F
    (fit-run s F.fits r (opened_run l) (leb-gt _ _ a.0) (opened-fits z l L))
    (formed-run s (well-out s F.formed) r (opened_run l) (opened-formed z l L)) refl)
