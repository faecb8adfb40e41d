-- `raise_cause` tests the last issue number, then the writer's count.
-- Assumes nothing.
-- What the test of the count says.
use mathlib.Core.Path.{◌≡◌, sym, ◌∙◌}
use Rattle.model.specs.Outcome.{refuse}
use Rattle.model.specs.Issue.{raise_cause}
use Rattle.layout.specs.Reading.{store_of}
use Rattle.issue.proofs.raise_cause.Goals as goal
use Rattle.issue.proofs.raise_cause.Goals.{After-is_full}

told : (c : After-is_full)
    → let a = c.args in
    raise_cause (store_of a.words.now) a.w ≡ refuse c.is_full.result 10 0
unfolding raise_cause refuse
told c =
    rw (
      ← c.numbers_of-old.ensures.issue,
      ← c.numbers_of-old.ensures.count,
      sym c.is_last.ensures ∙ c.if-is_last.false,
      ← c.is_full.ensures,
    )

pub returns-then-is_last : goal.returns-then-is_last
unfolding raise_cause refuse
returns-then-is_last c =
    rw (← c.numbers_of-old.ensures.issue, sym c.is_last.ensures ∙ c.if-is_last.true)

pub returns-then-is_full : goal.returns-then-is_full
unfolding refuse
returns-then-is_full c = rw (
  told (goal.at.returns-then-is_full c).After-is_full,
  c.if-is_full.true,
)

pub returns : goal.returns
unfolding refuse
returns c = rw (told (goal.at.returns c).After-is_full, c.if-is_full.false)
