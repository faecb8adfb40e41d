-- `explain` answers where it can be made, and is turned down elsewhere.
-- Assumes nothing.
use Rattle.explain.proofs.Found.{few_explained}
use borrow.Author.Tests.{not-false}
use Rattle.calls.proofs.Forms.{exports, can-make-form, can-make-room, asked_counted}
use Rattle.calls.proofs.later.explain.Goals as goal

pub returns : goal.returns
returns c =
    search (can-make-form, can-make-room, not-false, asked_counted, few_explained)

pub returns-then-not-can_make : goal.returns-then-not-can_make
returns-then-not-can_make c = search exports

pub explain-requires : goal.explain-requires
explain-requires c = search exports

pub put_explained-n-requires : goal.put_explained-n-requires
put_explained-n-requires c = search exports

pub narrow-requires : goal.narrow-requires
narrow-requires c = search (exports, few_explained)
