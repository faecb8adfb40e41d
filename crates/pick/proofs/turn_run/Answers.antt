-- `turn_run` goes on to the first run behind the last.
-- Assumes nothing.
use mathlib.Core.Path.{sym}
use Rattle.pick.proofs.Turning.{turn_near, turn-past}
use Rattle.pick.proofs.turn_run.Goals as goal

pub returns-then-next-runs : goal.returns-then-next-runs
returns-then-next-runs c = let a = c.args in sym (turn_near a.runs a.last a.i c.if-next-runs.true)

pub returns-else-next-runs : goal.returns-else-next-runs
returns-else-next-runs c = let a = c.args in sym (turn-past a.runs a.last a.i c.if-next-runs.false)
