-- `walk_jobs`: the walk from job j on is what is left of the whole.
-- Assumes nothing.
use mathlib.Core.Path.{◌≡◌}
use lib.ListN.{length}
use Rattle.forecast.proofs.Walks.{Goes}
use Rattle.forecast.proofs.walk_jobs.Given as goal

abbrev pub invariant-loop-j : goal.invariant-loop-j
invariant-loop-j l =
    (length l.scratch ≡ length l.initial.scratch) × Goes l.run l.done l.jobs
    l.initial.scratch l.j l.scratch
