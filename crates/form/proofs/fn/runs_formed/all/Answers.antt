-- The test of run i in `runs_formed`.
-- Assumes nothing.
use mathlib.Core.Path.{◌∙◌}
use Rattle.form.proofs.Stores.{run-area}
use Rattle.form.proofs.fn.runs_formed.all.Goals as goal

pub run_formed-requires : goal.run_formed-requires
run_formed-requires c =
    rw c.run_at.ensures (run-area _ _ c.requires.0 c.args.i c.requires.1)

pub returns : goal.returns
returns c = c.run_formed.ensures ∙ rw c.run_at.ensures
