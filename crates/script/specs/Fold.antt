-- The program as a fold over the bytes of its input, so that it may be read in chunks.
-- Part: the line under way. Progress: what is kept from one byte to the next. byte_step: one byte.
-- fed: a chunk. finished: the end of the input. part_in_of, progress, words_text: as the code
-- keeps it.
-- fresh: before any byte. calls_fed: the calls of a chunk.
-- Assumes nothing.
use Rattle.std.specs.Prelude.{cond, List, [], ◌∷◌, ◌++◌, ℕ, eqb, leb, ltb, length, take}
use Rattle.std.proofs.Math.Option.{Option, none}
use Rattle.layout.specs.Calls.{Call}
use Rattle.lines.specs.Grammar.{max_line, line_call}
use Rattle.print.specs.Print.{answer_text, unread_text}
use Rattle.script.specs.Script.{call_text, call_leaves, with_call_of}

-- A line of more than 400 bytes isn't kept: it gives `unread` whatever it holds.
pub data Part : Type 0 where
  bytes : List ℕ → Part
  too_long : Part

-- The buffer, the line under way, and the text that is to be printed.
pub record Progress : Type 0 where
  pub buffer : List ℕ
  pub part : Part
  pub text : List ℕ

-- Before any byte.
abbrev pub fresh : List ℕ → Progress
fresh l = record { buffer = l; part = bytes []; text = [] }

-- The call of a line that ends here.
unfoldable pub part_call : Part → Option Call
part_call (bytes s) = line_call s
part_call too_long = none

unfoldable pub longer : Part → ℕ → Part
longer (bytes s) b = cond (ltb (length s) max_line) (bytes (s ++ (b ∷ []))) too_long
longer too_long b = too_long

unfoldable pub ended : Progress → Progress
ended p = record {
  buffer = call_leaves (part_call p.part) p.buffer;
  part = bytes [];
  text = p.text ++ call_text (part_call p.part) p.buffer;
}

unfoldable pub kept : Progress → ℕ → Progress
kept p b = record { buffer = p.buffer; part = longer p.part b; text = p.text }

-- A line feed (10) ends the line and isn't part of it.
unfoldable pub byte_step : Progress → ℕ → Progress
byte_step p b = cond (eqb b 10) (ended p) (kept p b)

unfoldable pub fed : Progress → List ℕ → Progress
fed p [] = p
fed p (b ∷ bs) = fed (byte_step p b) bs

-- The end of the input: a last line that lacks its end.
unfoldable pub finished_part : Part → Progress → Progress
finished_part (bytes []) p = p
finished_part (bytes (b ∷ s)) p = ended p
finished_part too_long p = ended p

abbrev pub finished : Progress → Progress
finished p = finished_part p.part p

-- ---- as the code keeps it: a line buffer and the length of the line under way, over 400 for any
-- that is too long

unfoldable pub part_in_of : List ℕ → ℕ → Part
part_in_of line n = cond (leb n max_line) (bytes (take n line)) too_long

abbrev pub progress : List ℕ → List ℕ → ℕ → List ℕ → Progress
progress l line n text = record { buffer = l; part = part_in_of line n; text = text }

-- A line in words: those of an answer, none for `unread`.
unfoldable pub words_text : List ℕ → List ℕ
words_text [] = unread_text
words_text (t ∷ ns) = answer_text (t ∷ ns)

-- ---- the calls of the lines that end in a chunk

unfoldable pub calls_fed : Part → List ℕ → List Call
calls_fed p [] = []
calls_fed p (b ∷ bs) =
    cond (eqb b 10) (with_call_of (part_call p) (calls_fed (bytes []) bs)) (calls_fed (longer p b)
    bs)
