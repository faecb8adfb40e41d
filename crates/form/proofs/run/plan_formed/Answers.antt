-- `plan_formed` tests jobs, masks and branches, in this order.
-- Assumes nothing.
use mathlib.Core.Path.{sym, ◌∙◌}
use mathlib.Core.Bool.{So}
use native.Mathlib.Omega.{arith}
use Rattle.sizes.specs.Bounds.{run_size}
use Rattle.model.specs.Form.{jobs_formed, masks_formed}
use Rattle.model.proofs.Plans.{masks-out}
use Rattle.layout.specs.Reading.{read_run}
use Rattle.form.proofs.Masks.{read_low}
use Rattle.form.proofs.Runs.{first-area}
use Rattle.form.proofs.Snapshots.{branches-test}
use Rattle.form.proofs.run.plan_formed.Goals as goal
use Rattle.form.proofs.run.plan_formed.Goals.{Else-not-jobs_formed, Else-not-masks_formed}

jobs : (c : Else-not-jobs_formed)
    → let a = c.args in So (jobs_formed a.z (read_run a.z a.words.now a.at))
jobs c = sym c.jobs_formed.ensures ∙ c.if-not-jobs_formed.false

masks : (c : Else-not-masks_formed)
    → let a = c.args in So (masks_formed a.z (read_run a.z a.words.now a.at))
masks c = sym c.masks_formed.ensures ∙ c.if-not-masks_formed.false

pub returns-then-not-jobs_formed : goal.returns-then-not-jobs_formed
returns-then-not-jobs_formed c = rw (sym c.jobs_formed.ensures ∙ c.if-not-jobs_formed.true)

pub masks_formed-requires : goal.masks_formed-requires
masks_formed-requires c = record {
  run_area = c.requires;
  so = jobs (goal.at.masks_formed-requires c).Else-not-jobs_formed;
}

pub returns-then-not-masks_formed : goal.returns-then-not-masks_formed
returns-then-not-masks_formed c =
    let no = sym c.masks_formed.ensures ∙ c.if-not-masks_formed.true in
    rw (jobs (goal.at.returns-then-not-masks_formed c).Else-not-jobs_formed, no)

pub snapshot_formed-requires : goal.snapshot_formed-requires
unfolding read_run run_size
snapshot_formed-requires c =
    let a = c.args in
    let x = read_run a.z a.words.now a.at in
    let at = goal.at.snapshot_formed-requires c in
    let low = read_low a.z x (masks-out a.z x (masks at.Else-not-masks_formed)) 0 in record {
      run_area = (c.requires, first-area _ _ _ c.requires);
      so = jobs at.Else-not-jobs_formed;
      read_in_bounds = (omega arith, low);
    }

pub second_formed-requires : goal.second_formed-requires
second_formed-requires c =
    let at = goal.at.second_formed-requires c in record {
      run_area = c.requires;
      so = jobs at.Else-not-jobs_formed;
      so_2 = masks at.Else-not-masks_formed;
    }

pub returns : goal.returns
unfolding read_run
returns c =
    let a = c.args in
    let at = goal.at.returns c in
    rw (
      c.snapshot_formed.ensures,
      c.second_formed.ensures,
      jobs at.Else-not-jobs_formed,
      masks at.Else-not-masks_formed,
    )
    (branches-test a.z a.words.now a.at)
