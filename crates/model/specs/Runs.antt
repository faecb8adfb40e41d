-- Open and drop: a run begins, and is freed.
-- Assumes nothing.
use Rattle.std.specs.Prelude.{Bool, not, ◌&&◌, List, [], ◌∷◌, ℕ, ◌+◌, ◌*◌, ◌/◌, eqb, get_or, length}
use Rattle.words.specs.Tests.{all_below}
use Rattle.words.specs.Lists.{upto}
use Rattle.sizes.specs.Bounds.{between}
use Rattle.sizes.specs.Runs.{max_jobs, job_size, reads_offset, upstream_offset}
use Rattle.sizes.specs.declared.Counts.{Counts}
use Rattle.model.specs.Store.{Job, Run, Store, no_job, no_branch, free_run, with_run}
use Rattle.model.specs.Form.{valid_job}
use Rattle.model.specs.Outcome.{Outcome, done, refuse, unless, open_row_of, drop_row, open_state, run_cause}

-- ---- open: "a list of jobs, three words each"

-- Job i of the list.
unfoldable pub listed_job : List ℕ → ℕ → Job
listed_job l i = record {
  site = get_or l (i * job_size) 0;
  reads = get_or l (i * job_size + reads_offset) 0;
  upstream = get_or l (i * job_size + upstream_offset) 0;
}

unfoldable pub listed_count : List ℕ → ℕ
listed_count l = length l / job_size

unfoldable pub listed_jobs : List ℕ → ℕ → Job
listed_jobs l = upto (listed_count l) no_job (listed_job l)

-- Not: "0 or over 8 jobs, list length not 3 per job, or a job not valid".
unfoldable pub list_valid : Counts → List ℕ → Bool
list_valid z l =
    eqb (length l) (listed_count l * job_size)
    && (between max_jobs (listed_count l)
    && all_below (listed_count l) (λ i. valid_job z i (listed_job l i)))

unfoldable pub open_cause : Store → ℕ → List ℕ → ℕ
open_cause s r l =
    run_cause s open_row_of r
    (refuse (not (list_valid s.counts l)) 5
    0)

unfoldable pub opened_run : List ℕ → Run
opened_run l = record {
  state = open_state;
  jobs = listed_count l;
  done = 0;
  job = listed_jobs l;
  branch = no_branch;
  mark = 0;
  second = no_branch;
}

-- "Answers the number of jobs."
unfoldable pub open_done : Store → ℕ → List ℕ → Outcome
open_done s r l = done (listed_count l ∷ []) (with_run s r (opened_run l))

unfoldable pub open_rule : ℕ → List ℕ → Store → Outcome
open_rule r l s = unless (open_cause s r l) (open_done s r l)

-- ---- drop: "frees it. Answers 0. .. a freed run is all zero"

unfoldable pub drop_cause : Store → ℕ → ℕ
drop_cause s r = run_cause s drop_row r 0

unfoldable pub drop_done : Store → ℕ → Outcome
drop_done s r = done (0 ∷ []) (with_run s r free_run)

unfoldable pub drop_rule : ℕ → Store → Outcome
drop_rule r s = unless (drop_cause s r) (drop_done s r)
