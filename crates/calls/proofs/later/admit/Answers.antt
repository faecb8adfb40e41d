-- `admit` answers where it can be made, and is turned down elsewhere.
-- Assumes nothing.
use Rattle.calls.proofs.Forms.{exports}
use Rattle.calls.proofs.later.admit.Goals as goal

pub returns : goal.returns
returns c = search exports

pub returns-then-not-can_make : goal.returns-then-not-can_make
returns-then-not-can_make c = search exports

pub admit-r-requires : goal.admit-r-requires
admit-r-requires c = search exports

pub lay-requires : goal.lay-requires
lay-requires c = search exports
