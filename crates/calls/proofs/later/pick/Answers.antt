-- `pick` makes the call where it is admitted, and turns it down elsewhere.
-- Assumes nothing.
use Rattle.pick.proofs.Picks.{few-picked}
use borrow.Author.Tests.{not-false}
use Rattle.calls.proofs.Forms.{exports, can-make-form, can-make-room, done_counted}
use Rattle.calls.proofs.later.pick.Goals as goal

pub returns : goal.returns
returns c =
    search (can-make-form, can-make-room, not-false, done_counted, few-picked)

pub returns-then-not-can_make : goal.returns-then-not-can_make
returns-then-not-can_make c = search exports

pub pick-requires : goal.pick-requires
pick-requires c = search exports

pub put_picked-n-requires : goal.put_picked-n-requires
put_picked-n-requires c = search exports

pub narrow-requires : goal.narrow-requires
narrow-requires c = search (exports, few-picked)
