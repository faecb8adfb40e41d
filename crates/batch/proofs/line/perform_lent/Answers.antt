-- `perform_lent` meets its contract: a forecast has the scratch, any other call is made as it is.
-- Assumes nothing.
use mathlib.Core.Path.{◌∙◌}
use Prim.Native.Nat.{◌≤◌}
use lib.ListN.{length}
use Rattle.answers.specs.Answers.{answer_room}
use Rattle.calls.specs.Performs.{Made}
use Rattle.batch.proofs.Scratch.{not-forecast, lent_none, scratch-none, lent-some, scratch-some}
use Rattle.batch.proofs.line.perform_lent.Goals as goal

pub returns-in-Forecast : goal.returns-in-Forecast
unfolding Made
returns-in-Forecast c =
    let f = c in
    let k = f in
    let a = k in
    let e = k.in-Forecast.is in
    let ok : answer_room ≤ length a.args.answer.now = a.requires.answer_room_in_bounds in record {
      performs = (
        rw (← lent-some _ _ e a.args.numbers.now (length a.args.scratch.now))
            (f.forecast-n.ensures.answers.does ok),
        a.requires.ready_value,
      );
      scratch_after = f.forecast-n.ensures.leaves
          ∙ scratch-some _ _ e a.args.numbers.now _ _ a.args.answer.now ok;
    }

pub returns-in_default : goal.returns-in_default
returns-in_default c =
    let h = not-forecast c.args.command c.in_default.not-Forecast c.args.numbers.now in
    record {
      performs = rw (lent_none _ h _) c.perform.ensures;
      scratch_after = scratch-none _ h _ _;
    }
