-- Unless a write failed the input is over, and its last line is answered too.
use Rattle.std.proofs.Common.{sym, ◌∙◌, arith}
use Rattle.script.proofs.Steps.{taken}
use Rattle.script.proofs.Serves.{served-last}
use Rattle.streams.proofs.Stops.{over-unless}
use Rattle.sheetdesk.specs.Runs.{Ran.ended}
use Rattle.sheetdesk.proofs.run.Goals as goal

pub returns : goal.returns
returns g c =
    let t = c.turns-kept in
    let l = c.last in
    let w = l.ensures.input_value.1 in
    let over = over-unless t.result.input t.result.output t.ensures.output_value
    (sym c.failed-failed.ensures ∙ c.if-failed.false) in
    rw l.ensures.input_value.0
    (ended over
    (served-last _ c.requires.store_value t.ensures.served l.ensures.out_after
    (w.all ∙ omega (arith, taken l.result.output.count l.new.out w.front))))
