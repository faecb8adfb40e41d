-- The numbers of the refusals, in the document's table.
-- refusal_number: of each. cause_number: what was found against a call, 0 for nothing.
-- Assumes nothing.
use Rattle.std.specs.Prelude.{ℕ, Result, Ok, Err}
use Rattle.answers.specs.declared.refusal.Refusal.{Refusal}

-- "No."
abbrev pub refusal_number : Refusal → ℕ
refusal_number Refusal.NotInForm = 1
refusal_number Refusal.BadCount = 2
refusal_number Refusal.OutOfRange = 3
refusal_number Refusal.WrongState = 4
refusal_number Refusal.BadJobs = 5
refusal_number Refusal.WrongTurn = 6
refusal_number Refusal.NotOnMaster = 7
refusal_number Refusal.NotHeld = 8
refusal_number Refusal.IssuesSpent = 9
refusal_number Refusal.WriterSpent = 10
refusal_number Refusal.NotAdmitted = 11
refusal_number Refusal.OverAllowance = 12
refusal_number Refusal.NoRight = 13
refusal_number Refusal.WrongLine = 14
refusal_number Refusal.NotReadable = 15

-- Nothing against the call, or the number of what is.
abbrev pub cause_number : Result Unit Refusal → ℕ
cause_number (Ok _) = 0
cause_number (Err r) = refusal_number r
