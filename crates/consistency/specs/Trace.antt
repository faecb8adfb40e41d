-- A list of calls followed: the buffer, the book beside it, and what the finished jobs of each
-- run have read.
-- ReadSet; on_lines: on other lines; Among: one of a list of them. Trace; start, admitted: how a
-- list begins; advance, follow.
-- Assumes nothing.
use Rattle.std.specs.Prelude.{cond, List, [], ◌∷◌, map, ℕ, eqb, ltb}
use Rattle.words.specs.Tests.{Items, only}
use Rattle.words.specs.Lists.{put_at}
use Rattle.masks.specs.Mask.{test_bit}
use Rattle.sizes.specs.declared.Counts.{Counts}
use Rattle.model.specs.Algebra.{Place}
use Rattle.model.specs.Version.{Version}
use Rattle.model.specs.Store.{Branch, forked_mark, branch_of, Store}
use Rattle.layout.specs.Reading.{store_of}
use Rattle.layout.specs.Calls.{Call, new, audit, on, call_on, leaves, is_ok_of, new_on}
use Rattle.history.specs.Listing.{BookCopy}
use Rattle.history.specs.Book.{book_branch, Book, fresh_book, book_step}
use Rattle.history.specs.Admission.{admitted_place, admitted_book}
use Rattle.consistency.specs.Roles.{prepares, finishes, forks, joins, Role, opening, working, freeing, elsewhere, role_of}

-- "A job whose step is answered ok is finished and has read its sheets, as that step left them on
-- the card."
pub record ReadSet : Type 0 where
  pub keys : Items
  pub version : Place Version
  pub copy : Place BookCopy
  -- CR 10: the lines on which it stands.
  pub on : Items

-- The same on other lines; both lines.
abbrev pub on_lines : Items → ReadSet → ReadSet
on_lines lines x = record {
  keys = x.keys;
  version = x.version;
  copy = x.copy;
  on = lines;
}

abbrev pub both_lines : Items
both_lines n = ltb n 2

-- One of those that a run's jobs have read.
pub data Among (x : ReadSet) : List ReadSet → Type 0 where
  first : {xs : List ReadSet} → Among x (x ∷ xs)
  later : {y : ReadSet} {xs : List ReadSet} → Among x xs → Among x (y ∷ xs)

-- finished r: what the finished jobs of run r have read, since it was opened.
pub record Trace : Type 0 where
  pub buffer : List ℕ
  pub book : Book
  pub finished : ℕ → List ReadSet

-- "The list starts on what an accepted new left."
unfoldable pub start : Counts → List ℕ → Trace
start z l = record { buffer = leaves (new_on l z) l; book = fresh_book z; finished = λ r. [] }

-- What branch n of a run of an admitted store has read counts as read by one finished job (CR 6).
abbrev pub admitted_read : ℕ → Branch → ReadSet
admitted_read n a = record {
  keys = test_bit a.read;
  version = a.snapshot;
  copy = admitted_place a.snapshot;
  on = only n;
}

unfoldable pub admitted_reads : Store → ℕ → List ReadSet
admitted_reads s r =
    let a = s.run r in
    let second = cond (eqb a.mark forked_mark) (admitted_read 1 a.second ∷ []) [] in
    cond (ltb r s.counts.runs) (admitted_read 0 a.branch ∷ second) []

-- A list that starts on a buffer that was admitted.
unfoldable pub admitted : List ℕ → Trace
admitted l =
    let s = store_of l in
    record { buffer = l; book = admitted_book s; finished = admitted_reads s }

-- Run r's snapshot on branch n, for the keys that its job j reads.
unfoldable pub read_now : ℕ → ℕ → ℕ → Store → Book → ReadSet
read_now r j n s b = record {
  keys = test_bit ((b.run r).job j).reads;
  version = (branch_of n (s.run r)).snapshot;
  copy = (book_branch n (b.run r)).snapshot;
  on = only n;
}

-- A call answered ok, on what has been read: s and b are the store and the book after it.
-- "A run lasts from its open until it is freed." CR 10: what was done before the fork stands on
-- both lines; "Two jobs on different lines share a snapshot once their lines are joined".
unfoldable pub finish_by : Role → Store → Book → (ℕ → List ReadSet) → ℕ → List ReadSet
finish_by (opening r) s b f = put_at f r []
finish_by (working r prepares) s b f = f
finish_by (working r (finishes j n)) s b f = put_at f r (read_now r j n s b ∷ f r)
finish_by (working r forks) s b f = put_at f r (map (on_lines both_lines) (f r))
finish_by (working r joins) s b f = put_at f r (map (on_lines (only 0)) (f r))
finish_by (freeing r) s b f = put_at f r []
finish_by elsewhere s b f = f

unfoldable pub finish : Call → Store → Book → (ℕ → List ReadSet) → ℕ → List ReadSet
finish (new k w n p) s b f = λ r. []
finish (audit v) s b f = f
finish (on c) s b f = finish_by (role_of c) s b f

-- One call. The book gets the call, and whether it was answered ok.
unfoldable pub advance : Call → Trace → Trace
advance c t =
    let out = call_on c t.buffer in
    let l = leaves out t.buffer in
    let b = book_step c (is_ok_of out) t.book in
    record {
      buffer = l;
      book = b;
      finished = cond (is_ok_of out) (finish c (store_of l) b t.finished) t.finished;
    }

unfoldable pub follow : List Call → Trace → Trace
follow [] t = t
follow (c ∷ cs) t = follow cs (advance c t)
