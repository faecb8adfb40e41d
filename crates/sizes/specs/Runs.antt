-- Where the parts of a run, and of a job, stand in it (document 01, "Size and layout").
-- max_jobs: the most jobs of a run; every_job: their mask. ..Offset: how many words behind the
-- beginning; second..: behind the mark. job_size, plan_size: words of a job, and of all.
-- job_at_of: where a job begins.
-- Assumes nothing.
use Rattle.std.specs.Prelude.{ℕ, ◌+◌, ◌*◌}

-- "jobs per run 1..8"
abbrev pub max_jobs : ℕ
max_jobs = 8

-- The mask of every job.
abbrev pub every_job : ℕ
every_job = 255

-- ---- "state .., number of jobs, done mask, read mask, 8 jobs .., then the card"

-- Of a job, whose site stands first.
abbrev pub reads_offset : ℕ
reads_offset = 1

abbrev pub upstream_offset : ℕ
upstream_offset = 2

abbrev pub job_size : ℕ
job_size = 3

-- Of a run, whose state stands first; its jobs are the plan.
abbrev pub jobs_offset : ℕ
jobs_offset = 1

abbrev pub done_offset : ℕ
done_offset = 2

abbrev pub read_offset : ℕ
read_offset = 3

abbrev pub plan_offset : ℕ
plan_offset = 4

abbrev pub plan_size : ℕ
plan_size = max_jobs * job_size

abbrev pub snapshot_offset : ℕ
snapshot_offset = plan_offset + plan_size

-- CR 10: "a mark .., a second read mask and a second card", behind the mark.
abbrev pub second_read_offset : ℕ
second_read_offset = 1

abbrev pub second_offset : ℕ
second_offset = 2

-- Job i of the jobs at an index.
unfoldable pub job_at_of : ℕ → ℕ → ℕ
job_at_of at i = at + i * job_size
