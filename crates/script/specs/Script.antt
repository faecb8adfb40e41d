-- What the program prints for its input, and the buffer after it, line by line.
-- line_text, line_leaves: one line. lines_of: the lines of an input. outputs, buffer_after: all
-- lines, in order. program: what is printed for an input. calls_in: the calls that are made.
-- Assumes nothing.
use Rattle.std.specs.Prelude.{cond, List, [], ◌∷◌, ◌++◌, ℕ, eqb}
use Rattle.std.proofs.Math.Option.{Option, none, some}
use Rattle.model.specs.Outcome.{answer}
use Rattle.layout.specs.Calls.{Call, call_on, leaves}
use Rattle.lines.specs.Grammar.{line_call}
use Rattle.print.specs.Print.{answer_text, unread_text}

-- ---- one line, on a buffer

-- "`ok` and the answer's numbers, `broken m` or `refused n`", and `unread` for no call.
unfoldable pub call_text : Option Call → List ℕ → List ℕ
call_text none l = unread_text
call_text (some c) l = answer_text (answer (call_on c l))

-- A line that isn't a call changes nothing.
unfoldable pub call_leaves : Option Call → List ℕ → List ℕ
call_leaves none l = l
call_leaves (some c) l = leaves (call_on c l) l

-- The buffer l, the line s.
abbrev pub line_text : List ℕ → List ℕ → List ℕ
line_text l s = call_text (line_call s) l

abbrev pub line_leaves : List ℕ → List ℕ → List ℕ
line_leaves l s = call_leaves (line_call s) l

-- ---- the lines of an input

-- A byte in front of the first line. Where no line follows, the last line lacks its end.
unfoldable pub before : ℕ → List (List ℕ) → List (List ℕ)
before b [] = (b ∷ []) ∷ []
before b (s ∷ ss) = (b ∷ s) ∷ ss

-- "The line end isn't part of the line, and the last line may lack it." A line feed (10) ends a
-- line; what follows the last one is a line if it has a byte.
unfoldable pub lines_of : List ℕ → List (List ℕ)
lines_of [] = []
lines_of (b ∷ bs) = cond (eqb b 10) ([] ∷ lines_of bs) (before b (lines_of bs))

-- ---- all lines: "One line out for each"

-- Each line on the buffer as the last one left it.
unfoldable pub outputs : List ℕ → List (List ℕ) → List ℕ
outputs l [] = []
outputs l (s ∷ ss) = line_text l s ++ outputs (line_leaves l s) ss

unfoldable pub buffer_after : List ℕ → List (List ℕ) → List ℕ
buffer_after l [] = l
buffer_after l (s ∷ ss) = buffer_after (line_leaves l s) ss

-- The output for an input, from the buffer l on.
abbrev pub program : List ℕ → List ℕ → List ℕ
program l input = outputs l (lines_of input)

-- ---- the calls of lines

unfoldable pub with_call_of : Option Call → List Call → List Call
with_call_of none cs = cs
with_call_of (some c) cs = c ∷ cs

unfoldable pub calls_in : List (List ℕ) → List Call
calls_in [] = []
calls_in (s ∷ ss) = with_call_of (line_call s) (calls_in ss)
