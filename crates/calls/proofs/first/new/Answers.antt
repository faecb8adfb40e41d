-- `new` makes the call on any buffer.
-- Assumes nothing.
use Rattle.calls.proofs.Forms.{exports}
use Rattle.calls.proofs.first.new.Goals as goal

pub returns : goal.returns
returns c = search exports

pub returns-then-out-lt-ANSWER : goal.returns-then-out-lt-ANSWER
returns-then-out-lt-ANSWER c = search exports
