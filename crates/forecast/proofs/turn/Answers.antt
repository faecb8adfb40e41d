-- `turn` passes a job that is done, or steps it.
-- Assumes nothing.
-- The step's answer, and what it leaves.
use mathlib.Core.Path.{sym, ap, ◌∙◌}
use Rattle.std.specs.Prelude.{Ok}
use Rattle.model.specs.Calls.Forecast.{undone_at}
use Rattle.forecast.specs.Answers.{stopped_at, ended_of}
use Rattle.forecast.proofs.Turns.{Walks, turn-passed, turn-stepped}
use Rattle.forecast.proofs.turn.Goals as goal
use Rattle.forecast.proofs.turn.Goals.{After-step-answer}

stepped : (c : After-step-answer) → let a = c.args in
    Walks a.run (undone_at a.done a.j) a.scratch.now
    (stopped_at a.j c.step-answer.result) c.step-answer.new.words
stepped c =
    let e = c in
    let s = e in
    turn-stepped _ _ _ _ s.requires.so (sym e.has.ensures ∙ e.if-has.false) _ _
    c.step-answer.ensures.answers c.step-answer.ensures.leaves

pub returns-then-has : goal.returns-then-has
unfolding ended_of
returns-then-has c =
    let r = turn-passed _ _ _ _ c.requires.so (sym c.has.ensures ∙ c.if-has.true) in
    record { answers = r.0; leaves = r.1 }

pub returns-in_default : goal.returns-in_default
returns-in_default c =
    let w = stepped (goal.at.returns-in_default c).After-step-answer in record {
      answers = c.stopped.ensures ∙ w.0;
      leaves = w.1;
    }

pub returns : goal.returns
unfolding stopped_at ended_of
returns c =
    let a = c.args in
    let k = c.in-Ok-Done in
    let e = rw k.is at k.field-0-is in
    let w = stepped (goal.at.returns c).After-step-answer in record {
      answers = sym (ap (stopped_at a.j) k.is ∙ ap (λ x. stopped_at a.j (Ok x)) e) ∙ w.0;
      leaves = w.1;
    }
