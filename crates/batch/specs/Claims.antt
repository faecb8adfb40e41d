-- What a text of calls promises, in terms of calls that are made one by one.
-- calls_of, answers_to, scratch_to: the calls of lines, their answers and the scratch. HadRoom:
-- there
-- was room for each. Takes, TakesFront: which lines are taken, and what they come to. AsProgram,
-- AsLines: as the program's lines.
-- Assumes nothing.
use Rattle.std.specs.Prelude.{◌≡◌, ◌⊎◌, List, [], ◌∷◌, ◌++◌, ℕ, ◌+◌, ◌≤◌, ◌<◌, length, drop}
use Rattle.layout.specs.Calls.{Call, after}
use Rattle.command.specs.Commands.{scratch_room}
use Rattle.lines.specs.Grammar.{line_call}
use Rattle.print.specs.Print.{line_room}
use Rattle.script.specs.Script.{call_text, call_leaves, lines_of, outputs, buffer_after, with_call_of}
use Rattle.batch.specs.Lines.{whole_lines}
use Rattle.batch.specs.Lent.{forecast_of, lent_call, scratch_leaves}
use Rattle.batch.specs.Batch.{Batch, text_done}

-- The calls that lines ask for, a forecast with n words of scratch.
unfoldable pub calls_of : ℕ → List (List ℕ) → List Call
calls_of n [] = []
calls_of n (s ∷ ss) = with_call_of (lent_call n (line_call s)) (calls_of n ss)

-- Their answers, each on the buffer as the last one left it; `unread` for a line that is no call.
unfoldable pub answers_to : ℕ → List ℕ → List (List ℕ) → List ℕ
answers_to n l [] = []
answers_to n l (s ∷ ss) =
    let c = lent_call n (line_call s) in call_text c l ++ answers_to n (call_leaves c l) ss

-- The scratch m behind them: each forecast finds it as the last one left it.
unfoldable pub scratch_to : ℕ → List ℕ → List ℕ → List (List ℕ) → List ℕ
scratch_to n l m [] = m
scratch_to n l m (s ∷ ss) =
    scratch_to n (call_leaves (lent_call n (line_call s)) l)
    (scratch_leaves (forecast_of (line_call s)) l m) ss

-- Behind k bytes of answers, and those to the lines before it, each line has room.
unfoldable pub HadRoom : ℕ → ℕ → ℕ → List ℕ → List (List ℕ) → Type 0
HadRoom n room k l [] = Unit
HadRoom n room k l (s ∷ ss) =
    let c = lent_call n (line_call s) in
    (k + line_room ≤ room) × HadRoom n room (k + length (call_text c l)) (call_leaves c l) ss

-- The text t on buffer l and scratch m, with room for so many bytes of answers, came to p.
pub record Takes (l m t : List ℕ) (room : ℕ) (p : Batch) : Type 0 where
  -- The lines that were taken.
  pub lines : List (List ℕ)
  -- Buffer, answers and scratch are those of their calls, made one by one.
  pub made : p.buffer ≡ after (calls_of (length m) lines) l
  pub answered : p.answers ≡ answers_to (length m) l lines
  pub foreseen : p.scratch ≡ scratch_to (length m) l m lines
  pub lent : length p.scratch ≡ length m
  -- What wasn't taken, handed over again with whatever follows, has the lines that are left.
  pub within : p.taken ≤ length t
  pub rest : (more : List ℕ)
      → whole_lines (t ++ more) ≡ lines ++ whole_lines (drop p.taken t ++ more)
  -- As many as there is room for: each that was taken had room, and the next one has none.
  pub roomy : HadRoom (length m) room 0 l lines
  pub most : (whole_lines (drop p.taken t) ≡ []) ⊎ (room < length p.answers + line_room)

abbrev pub TakesFront : Type 0
TakesFront = (l m t : List ℕ) (room : ℕ) → Takes l m t room (text_done l m room t)

-- With as many words of scratch as the program lends, they are answered as the program does.
abbrev pub AsProgram : Type 0
AsProgram =
    (l : List ℕ) (ss : List (List ℕ))
    → (after (calls_of scratch_room ss) l ≡ buffer_after l ss)
    × (answers_to scratch_room l ss ≡ outputs l ss)

-- The whole lines of a text that ends with a line's end are the lines that the program has for it.
abbrev pub AsLines : Type 0
AsLines = (t : List ℕ) → whole_lines (t ++ (10 ∷ [])) ≡ lines_of (t ++ (10 ∷ []))
