-- `step` is refused for the trial's cause, or acts by what it found.
-- Assumes nothing.
use Rattle.std.proofs.lemmas.Result.{err_from_is_err_and}
use Rattle.form.proofs.Known.{form-long}
use Rattle.trial.proofs.Cases.{refused_as, found_as}
use Rattle.step.proofs.Steps.{step-refused}
use Rattle.step.proofs.step.Goals as goal

pub counts-z-requires : goal.counts-z-requires
counts-z-requires c = form-long _ c.requires

pub act-requires : goal.act-requires
act-requires c =
    let a = c.args in
    let f = found_as _ a.run a.job a.line _ _ _ c.in_ok-visit.ensures in
    record {
      form = record { form = c.requires; counts = c.counts-z.ensures };
      free = f.0;
      visit = f.1;
      trial = f.2;
    }

pub returns-in_err-visit : goal.returns-in_err-visit
returns-in_err-visit c =
    let a = c.args in
    let p = err_from_is_err_and c.from_residual.result c.from_residual.ensures.1 in
    let f = refused_as _ a.run a.job a.line _ _ c.in_err-visit.ensures in
    let r = step-refused a.words.now a.run a.job a.line _ c.requires f.0 f.1 in
    rw (p.1, p.2) (record { answers = r.0; leaves = r.1 })
