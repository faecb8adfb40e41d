-- `look` answers where it can be made, and is turned down elsewhere.
-- Assumes nothing.
use Rattle.look.proofs.Answers.{row_lies, few-shown}
use borrow.Author.Tests.{not-false}
use Rattle.calls.proofs.Forms.{exports, can-make-form, can-make-room, asked_counted}
use Rattle.calls.proofs.first.look.Goals as goal

pub returns : goal.returns
returns c =
    search (can-make-form, can-make-room, not-false, asked_counted, row_lies, few-shown)

pub returns-then-not-can_make : goal.returns-then-not-can_make
returns-then-not-can_make c = search exports

pub look-requires : goal.look-requires
look-requires c = search exports

pub put_looked-n-requires : goal.put_looked-n-requires
put_looked-n-requires c = search (exports, row_lies)

pub narrow-requires : goal.narrow-requires
narrow-requires c = search (exports, row_lies, few-shown)
