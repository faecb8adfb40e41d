-- What a call comes to, the refusal table as a chain of causes, and the table of states.
-- Outcome, answer; refuse, unless; Reply, replied: of calls that only answer; allowed: "Which
-- state a call needs"; run_cause: by both.
-- Assumes nothing.
use Rattle.std.specs.Prelude.{Bool, true, false, cond, not, List, [], ◌∷◌, ℕ, ◌+◌, ◌*◌, eqb, leb, get_or}
use Rattle.model.specs.Store.{Store}

pub data Outcome : Type 0 where
  refused : ℕ → Outcome  -- "turned down": the cause's number; every word stays
  broken : ℕ → Store → Outcome  -- of a step or join: the mask, and the next store
  done : List ℕ → Store → Outcome  -- ok: the answer's numbers, and the next store
  told : ℕ → List ℕ → Outcome  -- the answer's first word and numbers; every word stays

-- The answer in words, the first 0 ok, 1 broken, 2 refused or one that is told; then the numbers
-- that the text prints.
unfoldable pub answer : Outcome → List ℕ
answer (refused n) = 2 ∷ n ∷ []
answer (broken m s) = 1 ∷ m ∷ []
answer (done a s) = 0 ∷ a
answer (told w a) = w ∷ a

-- One row of the refusal table: the number n where the cause holds, otherwise the rows below it.
-- 0: no cause.
unfoldable pub refuse : Bool → ℕ → ℕ → ℕ
refuse true n rest = n
refuse false n rest = rest

-- Refused for a cause other than 0.
unfoldable pub unless : ℕ → Outcome → Outcome
unless n x = cond (eqb n 0) x (refused n)

-- What a call that only answers comes to: the cause of a refusal (0: none), else the answer's
-- first word and numbers.
pub record Reply : Type 0 where
  pub cause : ℕ
  pub word : ℕ
  pub numbers : List ℕ

unfoldable pub replied : Reply → Outcome
replied a = unless a.cause (told a.word a.numbers)

-- ---- states

abbrev pub free_state : ℕ
free_state = 0

abbrev pub open_state : ℕ
open_state = 1

abbrev pub broken_state : ℕ
broken_state = 2

-- The calls that ask for a state, in the order of the table's rows.
abbrev pub open_row_of : ℕ
open_row_of = 0

abbrev pub prepare_row : ℕ
prepare_row = 1

abbrev pub step_row : ℕ
step_row = 2

abbrev pub issue_row : ℕ
issue_row = 3

abbrev pub drop_row : ℕ
drop_row = 4

abbrev pub fork_row : ℕ
fork_row = 5

abbrev pub join_row : ℕ
join_row = 6

abbrev pub forecast_row : ℕ
forecast_row = 7

-- "Which state a call needs: open: free; prepare, step, issue: open; drop: open or broken."
-- CR 10: "An open run may fork once", "Joining, for an open run". CR 12: a forecast takes "an
-- open .. run".
-- A row for each call; free, open, broken.
abbrev pub state_table : List ℕ
state_table =
    1 ∷ 0 ∷ 0 ∷
    0 ∷ 1 ∷ 0 ∷
    0 ∷ 1 ∷ 0 ∷
    0 ∷ 1 ∷ 0 ∷
    0 ∷ 1 ∷ 1 ∷
    0 ∷ 1 ∷ 0 ∷
    0 ∷ 1 ∷ 0 ∷
    0 ∷ 1 ∷ 0 ∷ []

unfoldable pub allowed : ℕ → ℕ → Bool
allowed call state = eqb (get_or state_table (call * 3 + state) 0) 1

-- The rows of the refusal table that the calls on a run share, above the rows that are left:
-- "run .. out of range", "Run not in the state needed".
unfoldable pub run_cause : Store → ℕ → ℕ → ℕ → ℕ
run_cause s call r rest =
    refuse (leb s.counts.runs r) 3
    (refuse (not (allowed call (s.run r).state)) 4
    rest)
