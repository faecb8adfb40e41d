-- `is_off_branch` compares the number and the mark.
-- Assumes nothing.
use mathlib.Core.Path.{refl}
use Rattle.model.specs.Step.{off_branch}
use Rattle.trial.proofs.causes.is_off_branch.Goals as goal

pub returns : goal.returns
unfolding off_branch
returns c = refl
