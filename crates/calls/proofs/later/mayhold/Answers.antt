-- `mayhold` makes the call where it can be made, and turns it down elsewhere.
-- Assumes nothing.
use Rattle.calls.proofs.Forms.{exports}
use Rattle.calls.proofs.later.mayhold.Goals as goal

pub returns : goal.returns
returns c = search exports

pub returns-then-not-can_make : goal.returns-then-not-can_make
returns-then-not-can_make c = search exports

pub mayhold-requires : goal.mayhold-requires
mayhold-requires c = search exports

pub lay-requires : goal.lay-requires
lay-requires c = search exports
