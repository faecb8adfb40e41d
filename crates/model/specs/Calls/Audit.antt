-- Audit (CR 14): a call that needs no desk. It brings what its record is found to be.
-- Verdict; audit_reply: the call's answer.
-- Assumes nothing.
use Rattle.std.specs.Prelude.{[], ◌∷◌, ℕ}
use Rattle.model.specs.Outcome.{Reply}

pub data Verdict : Type 0 where
  unreadable : Verdict
  judged : ℕ → Verdict  -- 0 accepted, or an issue's number from 1

-- "It answers 0 if it accepts, otherwise the number, from 1, of the first issue whose reads are no
-- snapshot. An unreadable record is 15, tested first in this call."
unfoldable pub audit_reply : Verdict → Reply
audit_reply unreadable = record { cause = 15; word = 0; numbers = [] }
audit_reply (judged n) = record { cause = 0; word = 0; numbers = n ∷ [] }
