-- `run_formed` tests a free run or any other.
-- Assumes nothing.
use borrow.Author.Tests.{eq-eqb, ne_eqb}
use Rattle.model.specs.Form.{run_formed}
use Rattle.layout.specs.Reading.{read_run}
use Rattle.form.proofs.run.run_formed.Goals as goal

pub returns-then-state-eq-FREE_STATE : goal.returns-then-state-eq-FREE_STATE
unfolding run_formed read_run
returns-then-state-eq-FREE_STATE c = rw (eq-eqb _ _ c.if-state-eq-FREE_STATE.true)
    c.free_formed.ensures

pub returns-else-state-eq-FREE_STATE : goal.returns-else-state-eq-FREE_STATE
unfolding run_formed read_run
returns-else-state-eq-FREE_STATE c = rw (
  ne_eqb _ _ c.if-state-eq-FREE_STATE.false,
  c.plan_formed.ensures,
)
