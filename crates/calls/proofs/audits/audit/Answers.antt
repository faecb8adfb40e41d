-- `audit` answers where there is room, on whichever desk.
-- Assumes nothing.
use Rattle.calls.proofs.Forms.{export_short, audits-done}
use Rattle.calls.proofs.audits.audit.Goals as goal

pub returns-then-out-lt-ANSWER : goal.returns-then-out-lt-ANSWER
returns-then-out-lt-ANSWER c l = export_short _ l _ c.if-out-lt-ANSWER.true

pub returns : goal.returns
returns c l = search audits-done
