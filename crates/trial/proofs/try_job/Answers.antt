-- `try_job` passes the branch's own snapshot on.
-- Assumes nothing.
use mathlib.Core.Path.{ap, ◌∙◌}
use native.Mathlib.Omega.{arith}
use Rattle.model.proofs.Steps.{step-high}
use Rattle.layout.specs.Reading.{store_of}
use Rattle.form.proofs.Known.{form-area, form-counts}
use Rattle.trial.specs.Trials.{tried_of}
use Rattle.trial.proofs.Cases.{tried-no}
use Rattle.trial.proofs.try_job.Goals as goal

pub returns-then-z-r : goal.returns-then-z-r
returns-then-z-r c =
    let s = c in
    let a = s.args in
    let high = step-high (store_of a.words.now) a.r a.j a.n
    (rw (form-counts a.words.now a.z s.requires) c.if-z-r.true) in
    tried-no _ a.r a.j a.n _ 3 high (λ e. absurd (omega arith))

pub snapshot_on-requires : goal.snapshot_on-requires
snapshot_on-requires c = record {
  ranged = (form-area _ _ c.requires).ranged;
  r_lt_runs = c.if-z-r.false;
}

pub try_at-requires : goal.try_at-requires
try_at-requires c =
    let e = c in record {
      form_with = (e.requires, e.if-z-r.false);
      snapshot_value = c.snapshot_on.ensures;
    }

pub returns : goal.returns
returns c =
    let p = c in
    let a = p.args in
    c.try_at.ensures
    ∙ ap (tried_of (store_of a.words.now) a.r a.j a.n) p.snapshot_on.ensures
