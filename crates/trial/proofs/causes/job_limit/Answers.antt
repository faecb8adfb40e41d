-- `job_limit` is 8 in a free run, and the number of jobs in another.
-- Assumes nothing.
use mathlib.Core.Path.{refl}
use Rattle.words.proofs.Bools.{eq-eqb, ne_eqb}
use Rattle.model.specs.Step.{job_limit}
use Rattle.trial.proofs.causes.job_limit.Goals as goal

pub returns-then-state-eq-FREE_STATE : goal.returns-then-state-eq-FREE_STATE
unfolding job_limit
returns-then-state-eq-FREE_STATE c = rw (eq-eqb c.args.state 0 c.if-state-eq-FREE_STATE.true)

pub returns-else-state-eq-FREE_STATE : goal.returns-else-state-eq-FREE_STATE
unfolding job_limit
returns-else-state-eq-FREE_STATE c =
    rw (ne_eqb c.args.state 0 c.if-state-eq-FREE_STATE.false) refl
