-- How much the program's buffers hold, in bytes and words.
-- store_room, over_line, read_room, out_room, max_input. Lent: buffers that suffice. A line's
-- bytes, an answer's words and its line have their limits in crates lines, answers and print.
-- Assumes nothing.
use Rattle.std.specs.Prelude.{List, ℕ, ◌+◌, ◌*◌, ◌≤◌, length}
use Rattle.answers.specs.Answers.{answer_room}
use Rattle.lines.specs.Grammar.{max_line}
use Rattle.print.specs.Print.{line_room}

-- "The program lends 16,384 words."
abbrev pub store_room : ℕ
store_room = 16384

-- The length that stands for a line that is too long. A line has fewer numbers than that.
abbrev pub over_line : ℕ
over_line = max_line + 1

-- The bytes of one read, each of which may end a line, and those of the answers to it.
abbrev pub read_room : ℕ
read_room = 1024

abbrev pub out_room : ℕ
out_room = line_room * read_room

-- The bytes after which the program reads no more: its counts of bytes stay below 2 ^ 64. No run
-- comes to it.
abbrev pub max_input : ℕ
max_input = 36028797018963968

-- The buffers for the line under way, its numbers and its answer.
pub record Lent (line numbers answer : List ℕ) : Type 0 where
  pub line-room : max_line ≤ length line
  pub numbers-room : over_line ≤ length numbers
  pub answer-room : answer_room ≤ length answer
