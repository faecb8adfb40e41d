-- A script's line.
-- call_text: a call as it is typed. answers_of: the answers. history_line: the line, without its
-- end.
-- listing_text: all lines; lines_from: some of them.
-- Assumes nothing.
use Rattle.std.specs.Prelude.{List, [], ◌∷◌, ◌++◌, map, ℕ, ◌+◌, get_or, replicate}
use Rattle.text.specs.Bytes.{bytes_of}
use Rattle.model.specs.Calls.{StoreCall}
use Rattle.model.specs.Outcome.{answer}
use Rattle.layout.specs.Calls.{new, on, after, outcomes}
use Rattle.print.specs.Print.{numbers_text, answer_body}
use Rattle.listing.specs.Scripts.{each, rows}
use Rattle.listing.specs.Calls.{kind_of, arguments_of, listing}

-- The words of the kinds, in their order.
abbrev pub kind_words : List (List ℕ)
kind_words =
    bytes_of "fetch" ∷ bytes_of "evict" ∷ bytes_of "open" ∷ bytes_of "step" ∷ bytes_of "issue" ∷
    bytes_of "drop" ∷ []

unfoldable pub kind_word : ℕ → List ℕ
kind_word t = get_or kind_words t []

-- A call's word and its numbers, single spaces.
unfoldable pub call_text : StoreCall → List ℕ
call_text c = kind_word (kind_of c) ++ numbers_text (arguments_of c)

-- Texts after the first, "joined by `; `".
unfoldable pub joined_on : List (List ℕ) → List ℕ
joined_on [] = []
joined_on (t ∷ ts) = bytes_of "; " ++ t ++ joined_on ts

unfoldable pub joined : List (List ℕ) → List ℕ
joined [] = []
joined (t ∷ ts) = t ++ joined_on ts

-- "after `new 2 2 2 1`", in a buffer l.
unfoldable pub desk_in : List ℕ → List ℕ
desk_in l = after (new 2 2 2 1 ∷ []) l

-- The answers to the calls of a script in words, each on the desk as the last one left it.
unfoldable pub answers_in : List ℕ → List StoreCall → List (List ℕ)
answers_in l cs = map answer (outcomes (map on cs) (desk_in l))

-- A buffer of so many words has room for the desk (proofs/Desks).
abbrev pub desk_room : ℕ
desk_room = 256

-- In zeros: in any buffer with room they are the same (proofs/Desks).
unfoldable pub answers_of : List StoreCall → List (List ℕ)
answers_of cs = answers_in (replicate desk_room 0) cs

-- "calls joined by `; `, then `: `, then the answers joined alike".
unfoldable pub history_line : List StoreCall → List ℕ
history_line cs = joined (map call_text cs) ++ bytes_of ": " ++ joined (map answer_body
    (answers_of cs))

-- "on a line of its own": a line feed (10) ends it.
abbrev pub whole_line : List StoreCall → List ℕ
whole_line cs = history_line cs ++ (10 ∷ [])

-- What the program writes.
unfoldable pub listing_text : List ℕ
listing_text = each whole_line listing

-- n lines of it from line i on, the first line 0.
unfoldable pub lines_from : ℕ → ℕ → List ℕ
lines_from i n = rows n (λ j. whole_line (get_or listing (i + j) []))
