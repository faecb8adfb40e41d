-- The calls on a buffer of words: outcome and buffer after it, for any buffer and any numbers.
-- Call, call_on, leaves; after: a list of calls.
-- Assumes nothing.
use Rattle.std.specs.Prelude.{Bool, true, false, cond, not, List, [], ◌∷◌, ℕ, eqb, leb, length}
use Rattle.sizes.specs.Bounds.{ranged, counts_of, total_of}
use Rattle.sizes.specs.declared.Counts.{Counts}
use Rattle.model.specs.Store.{Store, fresh}
use Rattle.model.specs.Outcome.{Outcome, refused, broken, done, told, refuse, unless, replied}
use Rattle.model.specs.Calls.Audit.{Verdict, audit_reply}
use Rattle.model.specs.Calls.{StoreCall, rule_of}
use Rattle.layout.specs.Reading.{store_of}
use Rattle.layout.specs.Buffer.{written, in_form}

pub data Call : Type 0 where
  new : ℕ → ℕ → ℕ → ℕ → Call  -- K, W, N, P
  audit : Verdict → Call  -- what its record is found to be (CR 14): it needs no desk
  on : StoreCall → Call  -- any other

-- "New tests 2 before 1."
unfoldable pub new_cause : List ℕ → Counts → ℕ
new_cause l z =
    refuse (not (ranged z)) 2
    (refuse (not (leb (total_of z) (length l))) 1
    0)

-- "writes a fresh desk .. Answers the total."
unfoldable pub new_on : List ℕ → Counts → Outcome
new_on l z = unless (new_cause l z) (done (total_of z ∷ []) (fresh z))

-- A rule on the store that a buffer holds: "Buffer too short, or (not for new) desk not in form"
-- is 1, before all else.
unfoldable pub on_store : List ℕ → (Store → Outcome) → Outcome
on_store l rule = cond (in_form l) (rule (store_of l)) (refused 1)

unfoldable pub call_on : Call → List ℕ → Outcome
call_on (new k w n p) l = new_on l (counts_of k w n p)
call_on (audit v) l = replied (audit_reply v)
call_on (on c) l = on_store l (rule_of c)

-- The buffer after it: a refusal leaves every word, and so does a call that only answers.
unfoldable pub leaves : Outcome → List ℕ → List ℕ
leaves (refused n) l = l
leaves (broken m s) l = written s l
leaves (done a s) l = written s l
leaves (told w a) l = l

-- The call is new, which alone makes a buffer in form of one that isn't.
unfoldable pub is_new : Call → Bool
is_new (new k w n p) = true
is_new (audit v) = false
is_new (on c) = false

-- Answered `ok`.
unfoldable pub is_ok_of : Outcome → Bool
is_ok_of (refused n) = false
is_ok_of (broken m s) = false
is_ok_of (done a s) = true
is_ok_of (told w a) = eqb w 0

-- The buffer after a list of calls: "each call gets the buffer as the last one left it".
unfoldable pub after : List Call → List ℕ → List ℕ
after [] l = l
after (c ∷ cs) l = after cs (leaves (call_on c l) l)

-- The outcomes, in order.
unfoldable pub outcomes : List Call → List ℕ → List Outcome
outcomes [] l = []
outcomes (c ∷ cs) l = call_on c l ∷ outcomes cs (leaves (call_on c l) l)
