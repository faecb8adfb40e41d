-- The listing as the code goes through it: calls by their numbers, and how much the buffers hold.
-- call_at: a call by its number (proofs/Digits: it is that of the list). Tells: a call as the code
-- has it. line_count, longest, .. Room, Lent: counts, and buffers that suffice.
-- Assumes nothing.
use Rattle.std.specs.Prelude.{◌≡◌, cond, List, ℕ, ◌+◌, ◌-◌, ◌/◌, ◌%◌, ◌≤◌, ◌<◌, eqb, ltb, length, take}
use Rattle.std.proofs.Math.Option.{some}
use Rattle.answers.specs.Answers.{answer_room}
use Rattle.model.specs.Calls.{StoreCall, open_run, fetch, evict, step, issue, drop_run}
use Rattle.layout.specs.Calls.{on}
use Rattle.print.specs.Print.{body_room}
use Rattle.command.specs.Commands.{spelled, numbers_end}
use Rattle.listing.specs.Calls.{one_job, call_words}
use Rattle.listing.specs.Lines.{desk_room}
use Rattle.lister.specs.declared.small.Small.{Small}

-- ---- calls

-- Call i of the 26, from 0, by its number alone; from 25 on, drop.
unfoldable pub call_at : ℕ → StoreCall
call_at i =
    cond (ltb i 4) (fetch (i / 2) (i % 2))
    (cond (ltb i 8) (evict ((i - 4) / 2) ((i - 4) % 2))
    (cond (ltb i 16) (open_run 0 (one_job ((i - 8) / 4) ((i - 8) % 4)))
    (cond (eqb i 16) (step 0 0 0)
    (cond (ltb i 25) (issue 0 ((i - 17) / 4) ((i - 17) % 4))
    (drop_run 0)))))

-- s tells call c: its words are the first of l, and its command asks for it with these.
pub record Tells (c : StoreCall) (s : Small) (l : List ℕ) : Type 0 where
  pub some_words : 0 < s.count
  pub few_words : s.count ≤ 5
  pub words_are : take s.count l ≡ call_words c
  pub asks : spelled s.command l ≡ some (on c)
  pub ends : numbers_end s.command ≤ 5

-- ---- counts

-- The lines of the listing (`listing/proofs/Counts`: length-listing).
abbrev pub line_count : ℕ
line_count = 18278

-- The calls of the longest scripts.
abbrev pub longest : ℕ
longest = 3

-- ---- room, in words

-- A call's words: its kind, and four numbers at most.
abbrev pub words_room : ℕ
words_room = 5

pub record Lent (store words answer : List ℕ) : Type 0 where
  pub store-room : desk_room ≤ length store
  pub words-room : words_room ≤ length words
  pub answer-room : answer_room ≤ length answer

-- ---- room, in bytes

-- A call's text: a word of 8 bytes, and four numbers of 10 digits, each after a space.
abbrev pub call_room : ℕ
call_room = 64

-- The same, and an answer's, with what joins it to the one before.
abbrev pub next_room : ℕ
next_room = call_room + 2

abbrev pub reply_room : ℕ
reply_room = body_room + 2

-- A line: three calls, three answers, what stands between them, the line's end.
abbrev pub history_room : ℕ
history_room = 1536
