-- `pick_turn` has the first turn at which a run waits.
-- Assumes nothing.
use Rattle.std.proofs.Common.{rules}
use Rattle.words.specs.Tests.{Items}
use Rattle.words.specs.Turns.{turn}
use Rattle.model.specs.Calls.Pick.{waiting}
use Rattle.layout.specs.Reading.{store_of}
use Rattle.words.proofs.Ranges.{find-range}
use Rattle.pick.proofs.Searches.{first-below}
use Rattle.pick.proofs.Known.{seek}
use Rattle.pick.proofs.pick_turn.Goals as goal

pub returns : goal.returns
returns c =
    let a = c.args in
    let p : Items = λ i. waiting ((store_of a.words.now).run (turn a.z.runs a.last i)) in
    rw (← seek _ _ c.requires.form_with _ c.requires.last_value)
    (first-below _ p _ (find-range _ p (λ i b q h. search rules) _ _ c.find.ensures.ran))
