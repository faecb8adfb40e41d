-- The jobs of a run, for the contracts of what reads them.
-- UsedRun: a run that isn't free. planned_job: a job as the code has it.
-- Assumes nothing.
use Rattle.std.specs.Prelude.{List, ℕ, ◌≤◌, ◌<◌}
use Rattle.sizes.specs.declared.Counts.{Counts}
use Rattle.model.specs.Store.{Job}
use Rattle.layout.specs.Reading.{store_of}
use Rattle.form.specs.Parts.{FormWith}
use Rattle.trial.specs.declared.jobs.PlannedJob.{PlannedJob}

-- A buffer in form, and a run of it that isn't free.
pub record UsedRun (l : List ℕ) (z : Counts) (r : ℕ) : Type 0 where
  pub form : FormWith l z
  pub run : r < z.runs
  pub used : 1 ≤ ((store_of l).run r).state

abbrev pub planned_job : Job → PlannedJob
planned_job x = record { site = x.site; reads = x.reads; upstream = x.upstream }
