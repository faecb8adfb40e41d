-- A text of calls on a lent buffer: what its whole lines leave, answer and take.
-- Batch, point: what there is at a point of it. line_done: one line. lines_done: as many as
-- there is room for. text_done: a text. LeavesText, DoesText: what lent slices become.
-- Assumes nothing.
use Rattle.std.specs.Prelude.{◌≡◌, cond, List, [], ◌∷◌, ◌++◌, ℕ, ◌+◌, ◌≤◌, ◌<◌, leb, length}
use Rattle.std.proofs.Math.Option.{Option}
use Rattle.answers.specs.Answers.{over}
use Rattle.layout.specs.Calls.{Call}
use Rattle.lines.specs.Grammar.{line_call}
use Rattle.print.specs.Print.{line_room}
use Rattle.script.specs.Script.{call_text, call_leaves}
use Rattle.batch.specs.Lines.{whole_lines}
use Rattle.batch.specs.Lent.{forecast_of, lent_call, scratch_leaves}

-- The buffer, the scratch, the answers put, and how many bytes of the text were taken.
pub record Batch : Type 0 where
  pub buffer : List ℕ
  pub scratch : List ℕ
  pub answers : List ℕ
  pub taken : ℕ

abbrev pub point : List ℕ → List ℕ → List ℕ → ℕ → Batch
point l m answers n = record { buffer = l; scratch = m; answers = answers; taken = n }

-- Before any line.
abbrev pub started : List ℕ → List ℕ → Batch
started l m = point l m [] 0

-- The call that a line asks for, with the scratch that is lent.
abbrev pub asks : Batch → List ℕ → Option Call
asks p s = lent_call (length p.scratch) (line_call s)

-- A line s is taken with its end, and answered as the program does, a forecast on the scratch
-- that is lent.
unfoldable pub line_done : Batch → List ℕ → Batch
line_done p s = record {
  buffer = call_leaves (asks p s) p.buffer;
  scratch = scratch_leaves (forecast_of (line_call s)) p.buffer p.scratch;
  answers = p.answers ++ call_text (asks p s) p.buffer;
  taken = p.taken + (length s + 1);
}

-- "As many whole lines as `out` has room for": a line is taken if behind the answers so far there
-- are line_room bytes, which no answer exceeds. A call is made before its answer's length is
-- known.
unfoldable pub lines_done : ℕ → Batch → List (List ℕ) → Batch
lines_done room p [] = p
lines_done room p (s ∷ ss) =
    cond (leb (length p.answers + line_room) room) (lines_done room (line_done p s) ss) p

-- The text t on buffer l, with the scratch m and room for so many bytes of answers.
abbrev pub text_done : List ℕ → List ℕ → ℕ → List ℕ → Batch
text_done l m room t = lines_done room (started l m) (whole_lines t)

-- The buffer l, the scratch m, the slice out and the counts ks became those with a stroke, as p
-- says: every byte of out behind the answers, and every count behind the two, is as it was.
pub record LeavesText (p : Batch) (l' m' out out' ks ks' : List ℕ) (n : ℕ) : Type 0 where
  pub leaves : l' ≡ p.buffer
  pub foresees : m' ≡ p.scratch
  pub fits : length p.answers ≤ length out
  pub puts : out' ≡ over p.answers out
  pub counts : ks' ≡ over (p.taken ∷ length p.answers ∷ []) ks
  pub laid : n ≡ 2

-- The same for any slice of counts: with one that is too short nothing is done, and 0 is answered.
pub record DoesText (t l l' m m' out out' ks ks' : List ℕ) (n : ℕ) : Type 0 where
  pub does : 2 ≤ length ks → LeavesText (text_done l m (length out) t) l' m' out out' ks ks' n
  pub short : length ks < 2 → (n ≡ 0) × (l' ≡ l) × (m' ≡ m) × (out' ≡ out) × (ks' ≡ ks)
