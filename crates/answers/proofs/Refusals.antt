-- The number of a refusal isn't 0.
-- Assumes nothing.
use mathlib.Core.Logic.{◌≢◌}
use native.Mathlib.Omega.{arith}
use Rattle.answers.specs.declared.refusal.Refusal.{Refusal}
use Rattle.answers.specs.Refusals.{refusal_number}

pub refusal_some : (r : Refusal) → refusal_number r ≢ 0
refusal_some Refusal.NotInForm e = omega arith
refusal_some Refusal.BadCount e = omega arith
refusal_some Refusal.OutOfRange e = omega arith
refusal_some Refusal.WrongState e = omega arith
refusal_some Refusal.BadJobs e = omega arith
refusal_some Refusal.WrongTurn e = omega arith
refusal_some Refusal.NotOnMaster e = omega arith
refusal_some Refusal.NotHeld e = omega arith
refusal_some Refusal.IssuesSpent e = omega arith
refusal_some Refusal.WriterSpent e = omega arith
refusal_some Refusal.NotAdmitted e = omega arith
refusal_some Refusal.OverAllowance e = omega arith
refusal_some Refusal.NoRight e = omega arith
refusal_some Refusal.WrongLine e = omega arith
refusal_some Refusal.NotReadable e = omega arith
