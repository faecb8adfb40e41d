-- The program's lines: "One call a line".
-- max_line: how long one is. forms: each command's word, the counts of numbers that may stand
-- after it, and its call. line_call: the call of a line, none for `unread`.
-- Assumes nothing.
use Rattle.std.specs.Prelude.{Bool, false, cond, ◌&&◌, List, [], ◌∷◌, ℕ, zero, suc, leb, length, get_or, drop}
use Rattle.std.proofs.Math.Option.{Option, none, some}
use Prim.Native.String.{String}
use Rattle.text.specs.Bytes.{bytes_of, same_bytes}
use Rattle.text.specs.Fields.{fields_of, numbers_of}
use Rattle.model.specs.Calls.{open_run, fetch, evict, prepare, step, issue, drop_run, allow, pick, mayhold, maysave, fork, join, ask, look, explain, stale, admit, forecast}
use Rattle.command.specs.Commands.{scratch_room}
use Rattle.layout.specs.Calls.{Call, new, on}
use Rattle.records.specs.Audit.{audit_call}

-- "one over 400 bytes" is unread.
abbrev pub max_line : ℕ
max_line = 400

-- ---- the forms of a line

-- A word, the least and the most numbers that may stand after it, and the call that they ask for.
pub record Form : Type 0 where
  pub word : List ℕ
  pub least : ℕ
  pub most : ℕ
  pub call : List ℕ → Call

abbrev form : String → ℕ → ℕ → (List ℕ → Call) → Form
form w m n c = record { word = bytes_of w; least = m; most = n; call = c }

-- Number i, and 0 where it is left out.
abbrev at : List ℕ → ℕ → ℕ
at ns i = get_or ns i 0

-- "`new K W N P`, `open r o m u ..`, `fetch o k`, `evict o k`, `prepare r`, `step r j`,
-- `issue r w S`, `drop r`, `look p i k`". "After `open r` any count of numbers may stand, none
-- included": no line has room for as many as it may have bytes. Then document 02's calls:
-- 2 "a new call explains a job of an open run", `explain r j`; 4 "a new call answers it",
-- `stale o`; 6 "a new call admits a desk", `admit`; 7 "A call sets it", `allow o n`;
-- 8 "A dispatcher picks", `pick`; 9 "a call sets each", `mayhold o m`, `maysave w m`;
-- 10 "step and explaining gain a line, 0 or 1, 0 if left out", `step r j l`, `explain r j l`, "An
-- open run may fork once", `fork r`, "Joining, for an open run", `join r`; 12 "a forecast takes a
-- desk, an open unforked run", `forecast r`, with the program's scratch; 14 "Checking what older
-- clients issued", `audit w ..`, the record's words, none included.
abbrev pub forms : List Form
forms =
    form "new" 4 4 (λ ns. new (at ns 0) (at ns 1) (at ns 2) (at ns 3)) ∷
    form "open" 1 max_line (λ ns. on (open_run (at ns 0) (drop 1 ns))) ∷
    form "fetch" 2 2 (λ ns. on (fetch (at ns 0) (at ns 1))) ∷
    form "evict" 2 2 (λ ns. on (evict (at ns 0) (at ns 1))) ∷
    form "prepare" 1 1 (λ ns. on (prepare (at ns 0))) ∷
    form "step" 2 3 (λ ns. on (step (at ns 0) (at ns 1) (at ns 2))) ∷
    form "issue" 3 3 (λ ns. on (issue (at ns 0) (at ns 1) (at ns 2))) ∷
    form "drop" 1 1 (λ ns. on (drop_run (at ns 0))) ∷
    form "look" 3 3 (λ ns. on (ask (look (at ns 0) (at ns 1) (at ns 2)))) ∷
    form "explain" 2 3 (λ ns. on (ask (explain (at ns 0) (at ns 1) (at ns 2)))) ∷
    form "stale" 1 1 (λ ns. on (ask (stale (at ns 0)))) ∷
    form "admit" 0 0 (λ ns. on (ask admit)) ∷
    form "allow" 2 2 (λ ns. on (allow (at ns 0) (at ns 1))) ∷
    form "pick" 0 0 (λ ns. on pick) ∷
    form "mayhold" 2 2 (λ ns. on (mayhold (at ns 0) (at ns 1))) ∷
    form "maysave" 2 2 (λ ns. on (maysave (at ns 0) (at ns 1))) ∷
    form "fork" 1 1 (λ ns. on (fork (at ns 0))) ∷
    form "join" 1 1 (λ ns. on (join (at ns 0))) ∷
    form "forecast" 1 1 (λ ns. on (ask (forecast scratch_room (at ns 0)))) ∷
    form "audit" 0 max_line audit_call ∷ []

-- The form of a word.
unfoldable pub form_of : List Form → List ℕ → Option Form
form_of [] w = none
form_of (f ∷ fs) w = cond (same_bytes w f.word) (some f) (form_of fs w)

-- The form with a command's number.
unfoldable pub form_at : List Form → ℕ → Option Form
form_at [] i = none
form_at (f ∷ fs) zero = some f
form_at (f ∷ fs) (suc i) = form_at fs i

-- Whether n numbers may stand after the word.
unfoldable pub takes : Option Form → ℕ → Bool
takes none n = false
takes (some f) n = leb f.least n && leb n f.most

unfoldable pub calling : Option Form → List ℕ → Option Call
calling none ns = none
calling (some f) ns = some (f.call ns)

-- ---- a line

-- A form with its numbers, if all are numbers.
unfoldable pub asked : Option Form → Option (List ℕ) → Option Call
asked f none = none
asked f (some ns) = cond (takes f (length ns)) (calling f ns) none

-- The first field is the command's word, and the others are its numbers.
unfoldable pub fields_call : List (List ℕ) → Option Call
fields_call [] = none
fields_call (w ∷ fs) = asked (form_of forms w) (numbers_of fs)

-- "A line that is none of these forms, one over 400 bytes, or a number over 4,294,967,295, gives
-- `unread`."
unfoldable pub line_call : List ℕ → Option Call
line_call l = cond (leb (length l) max_line) (fields_call (fields_of l)) none
