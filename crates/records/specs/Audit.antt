-- The call audit (CR 14): its answer on a record.
-- first_below_of, audit_number: the first issue that is no snapshot. verdict_of: what a record is
-- found to be. audit_of: the outcome. audit_call: the call. heard: an answer `ok n`.
-- Assumes nothing.
use Rattle.std.specs.Prelude.{cond, not, [], ◌∷◌, ℕ, zero, suc, eqb}
use Rattle.words.specs.Tests.{Items}
use Rattle.words.specs.Numbers.{when}
use Rattle.model.specs.Outcome.{Outcome, told, replied}
use Rattle.model.specs.Calls.Audit.{Verdict, unreadable, judged, audit_reply}
use Rattle.layout.specs.Calls.{Call, audit}
use Rattle.records.specs.Format.{Record, issues_in, readable}
use Rattle.records.specs.Snapshots.{is_snapshot}

-- The number, from 1, of the first below n that passes, 0 for none.
unfoldable pub first_below_of : ℕ → Items → ℕ
first_below_of zero p = 0
first_below_of (suc n) p =
    let m = first_below_of n p in cond (eqb m 0) (when (p n) (suc n)) m

-- "It answers 0 if it accepts, otherwise the number, from 1, of the first issue whose reads are no
-- snapshot."
unfoldable pub audit_number : Record → ℕ
audit_number b = first_below_of (issues_in b) (λ i. not (is_snapshot b i))

-- "An unreadable record is 15, tested first in this call."
unfoldable pub verdict_of : Record → Verdict
verdict_of b = cond (readable b) (judged (audit_number b)) unreadable

unfoldable pub audit_of : Record → Outcome
audit_of b = replied (audit_reply (verdict_of b))

-- The call on a record. Its outcome on any buffer is `audit_of` (proofs/Exact).
abbrev pub audit_call : Record → Call
audit_call b = audit (verdict_of b)

-- ok n
abbrev pub heard : ℕ → Outcome
heard n = told 0 (n ∷ [])
