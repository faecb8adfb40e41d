-- `explain` is refused for the trial's cause, or judges by what it found.
-- Assumes nothing.
-- What the trial found.
use mathlib.Core.Path.{◌∙◌}
use Rattle.form.proofs.Known.{form-long}
use Rattle.trial.specs.Trials.{Finds}
use Rattle.trial.proofs.Cases.{refused_as, found_as}
use Rattle.explain.specs.Answers.{explained_words, Listed}
use Rattle.explain.proofs.Found.{draws-found, words-found, words-refused}
use Rattle.std.proofs.lemmas.Result.{err_from_is_err_and}
use Rattle.explain.proofs.explain.Goals as goal
use Rattle.explain.proofs.explain.Goals.{In_ok-visit}

found : (c : In_ok-visit) → let a = c.args in
    Finds a.words.now c.counts-z.result a.run a.job a.line c.in_ok-visit.visit c.in_ok-visit.trial
found c =
    let a = c.args in
    let f = found_as _ a.run a.job a.line _ _ _ c.in_ok-visit.ensures in
    record {
      form = record { form = c.requires; counts = c.counts-z.ensures };
      free = f.0;
      visit = f.1;
      trial = f.2;
    }

pub counts-z-requires : goal.counts-z-requires
counts-z-requires c = form-long _ c.requires

pub judge-requires : goal.judge-requires
judge-requires c = draws-found _ _ _ _ _ _ _ (found (goal.at.judge-requires c).In_ok-visit)

pub returns-in_err-visit : goal.returns-in_err-visit
unfolding explained_words Listed
returns-in_err-visit c =
    let a = c.args in
    let p = err_from_is_err_and c.from_residual.result c.from_residual.ensures.1 in
    let f = refused_as _ a.run a.job a.line _ _ c.in_err-visit.ensures in
    rw (p.1, p.2)
    record {
      answers = words-refused a.words.now a.run a.job a.line _ c.requires f.0 f.1;
      listed = tt;
    }

pub returns : goal.returns
returns c =
    let f = found (goal.at.returns c).In_ok-visit in
    record {
      answers = c.judge.ensures.answers ∙ words-found _ _ _ _ _ _ _ f;
      listed = c.judge.ensures.listed;
    }
