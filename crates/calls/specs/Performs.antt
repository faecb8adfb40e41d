-- A call that is made: the words of its answer, the buffer after it, and whether that is in form.
-- Does, Exported: one call. scratch_after: what a forecast leaves of its scratch. Audits: an
-- audit.
-- TurnedDown: one that isn't made. asks_new, TellsNew: whether it is new. Made, Performs: what a
-- command asks for, which may be no call.
-- Assumes nothing.
use Rattle.std.specs.Prelude.{◌≡◌, Bool, false, cond, List, [], ◌∷◌, ℕ, ◌≤◌, ◌<◌, leb, length}
use Rattle.std.proofs.Math.Option.{Option, none, some}
use Rattle.answers.specs.Answers.{max_answer, answer_room, Lays}
use Rattle.model.specs.Outcome.{answer}
use Rattle.layout.specs.Buffer.{in_form}
use Rattle.layout.specs.Forecast.{foreseen}
use Rattle.layout.specs.Calls.{Call, call_on, leaves, is_new}
use Rattle.records.specs.Audit.{audit_call}
use Rattle.command.specs.declared.Command.{Command}
use Rattle.command.specs.Commands.{spelled}
use Rattle.calls.specs.declared.Performed.{Performed}

-- Call c on buffer l left m, and in place of the answer slice a there is b: its first n words are
-- the answer's, and every other word is as it was.
pub record Does (c : Call) (l m a b : List ℕ) (n : ℕ) : Type 0 where
  pub answers : Lays (answer (call_on c l)) a b n
  pub changes : m ≡ leaves (call_on c l) l
  pub few : n ≤ max_answer

-- The same for any answer slice: with one that is too short nothing is done, and 0 is answered.
pub record Exported (c : Call) (l m a b : List ℕ) (n : ℕ) : Type 0 where
  pub does : answer_room ≤ length a → Does c l m a b n
  pub short : length a < answer_room → (n ≡ 0) × (m ≡ l) × (b ≡ a)

-- The scratch m of a forecast of run r, after it: as it was, if the answer slice is too short.
unfoldable pub scratch_after : List ℕ → List ℕ → ℕ → List ℕ → List ℕ
scratch_after l m r a = cond (leb answer_room (length a)) (foreseen l m r) m

-- An audit of record b, on whichever desk: the desk stays.
abbrev pub Audits : List ℕ → List ℕ → List ℕ → ℕ → Type 0
Audits b a c n = (l : List ℕ) → Exported (audit_call b) l l a c n

-- Of a call that isn't made: the answer slice says `refused 1`, or is too short.
pub record TurnedDown (a b : List ℕ) (n : ℕ) : Type 0 where
  pub laid : answer_room ≤ length a → Lays (2 ∷ 1 ∷ []) a b n
  pub short : length a < answer_room → (n ≡ 0) × (b ≡ a)

-- What is asked for is new.
unfoldable pub asks_new : Option Call → Bool
asks_new none = false
asks_new (some c) = is_new c

-- b says whether command k asks for new, whatever its numbers.
abbrev pub TellsNew : Command → Bool → Type 0
TellsNew k b = (ws : List ℕ) → b ≡ asks_new (spelled k ws)

-- No call: nothing is changed, and there are no words.
unfoldable pub Made : Option Call → List ℕ → List ℕ → List ℕ → List ℕ → ℕ → Type 0
Made none l m a b n = (m ≡ l) × (b ≡ a) × (n ≡ 0)
Made (some c) l m a b n = Does c l m a b n

-- The call of a command, with the numbers that are lent beside it.
unfoldable pub MadeOf : Command → List ℕ → List ℕ → List ℕ → List ℕ → List ℕ → ℕ → Type 0
MadeOf k ws l m a b n = Made (spelled k ws) l m a b n

-- The same, and whether the buffer is in form, so that the next call need not test it.
abbrev pub Performs : Option Call → List ℕ → List ℕ → List ℕ → List ℕ → Performed → Type 0
Performs c l m a b p = Made c l m a b p.count × (p.ready ≡ in_form m)
