-- The run that begins at an index, word by word.
-- job-words: a job. run-words: the run. ..-area: its snapshots. rest_in: the words
-- between them.
-- Assumes nothing.
use mathlib.Core.Path.{◌≡◌, refl}
use mathlib.Core.List.{List}
use Prim.Native.Nat.{ℕ, ◌+◌, ◌≤◌, ◌<◌}
use native.Mathlib.Omega.{arith}
use lib.ListN.{get_or}
use Rattle.sizes.specs.Bounds.{place_limit, run_front, run_size}
use Rattle.sizes.specs.Runs.{max_jobs, reads_offset, upstream_offset, jobs_offset, done_offset, read_offset, plan_offset, snapshot_offset, second_read_offset, second_offset, job_at_of}
use Rattle.sizes.specs.declared.Counts.{Counts}
use Rattle.layout.specs.Reading.{read_place, read_job, read_jobs, read_run}
use Rattle.layout.proofs.Readings.{job-at}
use Rattle.version.specs.Places.{Area}
use Rattle.form.specs.Parts.{job_of, RunArea}

-- Job i, of three words.
pub job-words : (l : List ℕ) (at i : ℕ) → i < max_jobs → let j = job_at_of at i in
    read_jobs l at i
    ≡ job_of (get_or l j 0) (get_or l (j + reads_offset) 0) (get_or l (j + upstream_offset) 0)
unfolding read_job job_at_of
job-words l at i h = job-at l at i h

pub run-words : (z : Counts) (l : List ℕ) (at : ℕ) → read_run z l at ≡ record {
  state = get_or l at 0;
  jobs = get_or l (at + jobs_offset) 0;
  done = get_or l (at + done_offset) 0;
  job = read_jobs l (at + plan_offset);
  branch = record {
    read = get_or l (at + read_offset) 0;
    snapshot = read_place z l (at + snapshot_offset);
  };
  mark = get_or l (at + run_front z) 0;
  second = record {
    read = get_or l (at + (run_front z + second_read_offset)) 0;
    snapshot = read_place z l (at + (run_front z + second_offset));
  };
}
unfolding read_run
run-words z l at = refl

-- ---- where its snapshots lie

module _ (len : ℕ) (z : Counts) (at : ℕ) (A : RunArea len z at) where
  pub first-area : Area len z (at + snapshot_offset)
  unfolding run_size
  first-area =
      record { ranged = A.ranged; low = omega (arith, A.low); fits = omega (arith, A.fits) }

  pub second-area : Area len z (at + (run_front z + second_offset))
  unfolding run_size
  second-area =
      record { ranged = A.ranged; low = omega (arith, A.low); fits = omega (arith, A.fits) }

  -- The mark and the second read mask stand before the second snapshot.
  pub rest_in : (front : ℕ) → front ≡ run_front z
      → (at + (front + second_offset) ≤ len) × (at + (front + second_offset) < place_limit)
  unfolding run_size
  rest_in front e = (omega (arith, A.fits), omega (arith, A.low))
