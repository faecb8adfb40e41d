-- The laws of the jobs of a run.
-- FitJobs: nothing stands behind the last job. jobs-laws: their words are read back.
-- Assumes nothing.
use mathlib.Core.Path.{◌≡◌, refl, ap}
use mathlib.Core.List.{List, ◌∷◌}
use Prim.Native.Nat.{ℕ, ◌+◌}
use native.Mathlib.Omega.{arith}
use lib.ListN.{get_or, drop}
use Rattle.words.specs.Lists.{window}
use Rattle.sizes.specs.Runs.{max_jobs, job_size, upstream_offset, plan_size}
use Rattle.model.specs.Store.{Job, no_job}
use Rattle.layout.specs.Words.{job_words, jobs_words}
use Rattle.layout.specs.Reading.{read_job, read_jobs}
use Rattle.layout.proofs.Codec.{Laws, FitMany, many}

pub cons_same : (x y : ℕ) (a b : List ℕ) → x ∷ a ≡ y ∷ b → (x ≡ y) × (a ≡ b)
cons_same x y a b e = (ap (λ (l : List ℕ). get_or l 0 0) e, ap (drop 1) e)

-- Any job.
pub record AnyJob (x : Job) : Type 0 where

job-laws : Laws job_size job_words read_job AnyJob
unfolding job_words read_job window
job-laws = record {
  long = λ a. refl;
  round = λ l at.
      let e : at + 1 + 1 ≡ at + upstream_offset = omega arith in rw e;
  fits = λ l at. record {};
  same = λ a b _ _ e.
      let x = cons_same _ _ _ _ e in
      let y = cons_same _ _ _ _ x.1 in
      let w = cons_same _ _ _ _ y.1 in
      let p = x.0 in let q = y.0 in let r = w.0 in
      λ i. record { site = p i; reads = q i; upstream = r i };
}

abbrev pub FitJobs : (ℕ → Job) → Type 0
FitJobs = FitMany max_jobs no_job AnyJob

pub jobs-laws : Laws plan_size jobs_words read_jobs FitJobs
unfolding jobs_words read_jobs
jobs-laws = many max_jobs job-laws no_job
