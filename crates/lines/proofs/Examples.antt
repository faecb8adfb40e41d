-- Lines and the calls that they ask for, computed.
-- case_lines: case A's lines, and the calls that it lacks. read-lines: others that are read.
-- unread-lines, unread-calls, bare-words: what isn't. branch-lines: steps and explains with and
-- without a line, fork, join. long-lines: 400 bytes and 401.
-- Assumes nothing.
use mathlib.Core.Path.{◌≡◌, refl}
use mathlib.Core.List.{[], ◌∷◌, ◌++◌}
use mathlib.Core.Option.{none, some}
use lib.ListN.{replicate}
use Rattle.text.specs.Bytes.{bytes_of, same_bytes}
use Rattle.text.specs.Fields.{in_first_of, fields_of, digits_only, value_from, is_empty, number_of, number_before, numbers_of}
use Rattle.model.specs.Calls.{open_run, fetch, evict, prepare, step, issue, drop_run, pick, mayhold, maysave, fork, join, ask, look, explain, admit}
use Rattle.layout.specs.Calls.{new, on}
use Rattle.lines.specs.Grammar.{form_of, takes, calling, asked, fields_call, line_call}

-- Case A's lines, each once, a prepare and a drop.
pub case_lines :
    (line_call (bytes_of "new 2 2 2 1") ≡ some (new 2 2 2 1))
    × (line_call (bytes_of "open 0 0 0 0") ≡ some (on (open_run 0 (0 ∷ 0 ∷ 0 ∷ []))))
    × (line_call (bytes_of "step 0 0") ≡ some (on (step 0 0 0)))
    × (line_call (bytes_of "issue 0 0 3") ≡ some (on (issue 0 0 3)))
    × (line_call (bytes_of "fetch 0 0") ≡ some (on (fetch 0 0)))
    × (line_call (bytes_of "open 0 0 1 0") ≡ some (on (open_run 0 (0 ∷ 1 ∷ 0 ∷ []))))
    × (line_call (bytes_of "issue 0 1 2") ≡ some (on (issue 0 1 2)))
    × (line_call (bytes_of "open 0 0 1 0 1 2 1")
    ≡ some (on (open_run 0 (0 ∷ 1 ∷ 0 ∷ 1 ∷ 2 ∷ 1 ∷ []))))
    × (line_call (bytes_of "step 0 1") ≡ some (on (step 0 1 0)))
    × (line_call (bytes_of "look 2 0 1") ≡ some (on (ask (look 2 0 1))))
    × (line_call (bytes_of "fetch 1 1") ≡ some (on (fetch 1 1)))
    × (line_call (bytes_of "evict 0 1") ≡ some (on (evict 0 1)))
    × (line_call (bytes_of "prepare 0") ≡ some (on (prepare 0)))
    × (line_call (bytes_of "drop 0") ≡ some (on (drop_run 0)))
unfolding line_call fields_call fields_of in_first_of asked form_of same_bytes takes calling
    numbers_of
    number_before number_of is_empty digits_only value_from
case_lines = (
  refl,
  refl,
  refl,
  refl,
  refl,
  refl,
  refl,
  refl,
  refl,
  refl,
  refl,
  refl,
  refl,
  refl,
)

-- Zeros in front, the largest number, an open with any count of numbers, an admit with none; the
-- full mask of 32 sheets.
pub read-lines :
    (line_call (bytes_of "fetch 000 00") ≡ some (on (fetch 0 0)))
    × (line_call (bytes_of "fetch 0 4294967295") ≡ some (on (fetch 0 4294967295)))
    × (line_call (bytes_of "fetch 0 0004294967295") ≡ some (on (fetch 0 4294967295)))
    × (line_call (bytes_of "open 0") ≡ some (on (open_run 0 [])))
    × (line_call (bytes_of "open 1 7") ≡ some (on (open_run 1 (7 ∷ []))))
    × (line_call (bytes_of "admit") ≡ some (on (ask admit)))
    × (line_call (bytes_of "mayhold 0 4294967295") ≡ some (on (mayhold 0 4294967295)))
    × (line_call (bytes_of "maysave 1 6") ≡ some (on (maysave 1 6)))
unfolding line_call fields_call fields_of in_first_of asked form_of same_bytes takes calling
    numbers_of
    number_before number_of is_empty digits_only value_from
read-lines = (refl, refl, refl, refl, refl, refl, refl, refl)

-- An empty line, spaces too many, a number too large, and what is no number.
pub unread-lines :
    (line_call (bytes_of "") ≡ none)
    × (line_call (bytes_of "fetch 0 0 ") ≡ none)
    × (line_call (bytes_of "fetch 0  0") ≡ none)
    × (line_call (bytes_of " fetch 0 0") ≡ none)
    × (line_call (bytes_of "fetch 0 4294967296") ≡ none)
    × (line_call (bytes_of "fetch 0 0\r") ≡ none)
    × (line_call (bytes_of "fetch 0 -1") ≡ none)
    × (line_call (bytes_of "fetch 0 0x1") ≡ none)
    × (line_call (bytes_of "mayhold 0 4294967296") ≡ none)
unfolding line_call fields_call fields_of in_first_of asked form_of same_bytes takes calling
    numbers_of
    number_before number_of is_empty digits_only value_from
unread-lines = (refl, refl, refl, refl, refl, refl, refl, refl, refl)

-- Wrong counts, and words that are no commands.
pub unread-calls :
    (line_call (bytes_of "fetch 0") ≡ none)
    × (line_call (bytes_of "fetch 0 0 0") ≡ none)
    × (line_call (bytes_of "open") ≡ none)
    × (line_call (bytes_of "open ") ≡ none)
    × (line_call (bytes_of "fetches 0 0") ≡ none)
    × (line_call (bytes_of "Fetch 0 0") ≡ none)
    × (line_call (bytes_of "drop\t0") ≡ none)
    × (line_call (bytes_of "7") ≡ none)
    × (line_call (bytes_of "admit 0") ≡ none)
    × (line_call (bytes_of "admit ") ≡ none)
    × (line_call (bytes_of "mayhold 0") ≡ none)
    × (line_call (bytes_of "maysave 0 1 2") ≡ none)
unfolding line_call fields_call fields_of in_first_of asked form_of same_bytes takes calling
    numbers_of
    number_before number_of is_empty digits_only value_from
unread-calls = (refl, refl, refl, refl, refl, refl, refl, refl, refl, refl, refl, refl)

-- A word alone reaches the table: each of document 01's commands needs a number, pick takes none.
pub bare-words :
    (line_call (bytes_of "new") ≡ none)
    × (line_call (bytes_of "open") ≡ none)
    × (line_call (bytes_of "fetch") ≡ none)
    × (line_call (bytes_of "evict") ≡ none)
    × (line_call (bytes_of "prepare") ≡ none)
    × (line_call (bytes_of "step") ≡ none)
    × (line_call (bytes_of "issue") ≡ none)
    × (line_call (bytes_of "drop") ≡ none)
    × (line_call (bytes_of "look") ≡ none)
    × (line_call (bytes_of "pick") ≡ some (on pick))
    × (line_call (bytes_of "pick 0") ≡ none)
unfolding line_call fields_call fields_of in_first_of asked form_of same_bytes takes calling
    numbers_of
    number_before number_of is_empty digits_only value_from
bare-words = (refl, refl, refl, refl, refl, refl, refl, refl, refl, refl, refl)

-- "a line, 0 or 1, 0 if left out"; any number is read, and none more.
pub branch-lines :
    (line_call (bytes_of "step 0 1 1") ≡ some (on (step 0 1 1)))
    × (line_call (bytes_of "step 0 1 0") ≡ some (on (step 0 1 0)))
    × (line_call (bytes_of "step 0 1 7") ≡ some (on (step 0 1 7)))
    × (line_call (bytes_of "explain 0 1 1") ≡ some (on (ask (explain 0 1 1))))
    × (line_call (bytes_of "explain 0 1") ≡ some (on (ask (explain 0 1 0))))
    × (line_call (bytes_of "fork 0") ≡ some (on (fork 0)))
    × (line_call (bytes_of "join 2") ≡ some (on (join 2)))
    × (line_call (bytes_of "step 0") ≡ none)
    × (line_call (bytes_of "step 0 0 0 0") ≡ none)
    × (line_call (bytes_of "explain 0 0 0 0") ≡ none)
    × (line_call (bytes_of "fork") ≡ none)
    × (line_call (bytes_of "fork 0 1") ≡ none)
    × (line_call (bytes_of "join 0 1") ≡ none)
unfolding line_call fields_call fields_of in_first_of asked form_of same_bytes takes calling
    numbers_of
    number_before number_of is_empty digits_only value_from
branch-lines = (
  refl,
  refl,
  refl,
  refl,
  refl,
  refl,
  refl,
  refl,
  refl,
  refl,
  refl,
  refl,
  refl,
)

-- `drop ` and zeros: 400 bytes are read, 401 are not.
pub long-lines :
    (line_call (bytes_of "drop " ++ replicate 395 48) ≡ some (on (drop_run 0)))
    × (line_call (bytes_of "drop " ++ replicate 396 48) ≡ none)
unfolding line_call fields_call fields_of in_first_of asked form_of same_bytes takes calling
    numbers_of
    number_before number_of is_empty digits_only value_from
long-lines = (refl, refl)
