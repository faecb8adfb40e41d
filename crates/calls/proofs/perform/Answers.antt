-- `perform` makes the command; an accepted new leaves a buffer in form.
-- Assumes nothing.
use Rattle.calls.specs.Performs.{MadeOf}
use Rattle.calls.proofs.Forms.{made-form}
use Rattle.calls.proofs.perform.Goals as goal

pub returns : goal.returns
unfolding MadeOf
returns c =
    let made = c.make-count.ensures in
    rw (c.is_new.ensures c.args.numbers.now)
    (made, rw (← c.requires.ready_value) at (made-form _ _ _ _ _ _ made))
