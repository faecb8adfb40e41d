-- What stands first in a run: where it lies, and as the functions that are lent it leave it.
-- status_at, put_status: read at an index, and stored there; the read mask by an index of its own.
-- freed: of a freed run. marked: a job is done, with its reads. spoiled: of a broken run.
-- Assumes nothing.
use Rattle.std.specs.Prelude.{List, ℕ, ◌+◌, get_or, set}
use Rattle.sizes.specs.Runs.{jobs_offset, done_offset}
use Rattle.model.specs.Outcome.{broken_state}
use Rattle.status.specs.declared.lent.RunStatus.{RunStatus}

-- "A run is state (0 free, 1 open, 2 broken), number of jobs, done mask, read mask"; CR 10: the
-- read mask is that of a branch.
unfoldable pub status_at : List ℕ → ℕ → ℕ → RunStatus
status_at l at read = record {
  state = get_or l at 0;
  jobs = get_or l (at + jobs_offset) 0;
  done = get_or l (at + done_offset) 0;
  read = get_or l read 0;
}

unfoldable pub put_status : List ℕ → ℕ → ℕ → RunStatus → List ℕ
put_status l at read s =
    set (set (set (set l at s.state) (at + jobs_offset) s.jobs) (at + done_offset) s.done)
    read s.read

-- "a freed run is all zero"
unfoldable pub freed : RunStatus → RunStatus
freed s = record { state = 0; jobs = 0; done = 0; read = 0 }

-- "R joins the read mask, the job is done"
unfoldable pub marked : RunStatus → ℕ → ℕ → RunStatus
marked s done read = record { state = s.state; jobs = s.jobs; done = done; read = read }

-- "its state becomes 2, nothing else changes"
unfoldable pub spoiled : RunStatus → RunStatus
spoiled s = record { state = broken_state; jobs = s.jobs; done = s.done; read = s.read }
