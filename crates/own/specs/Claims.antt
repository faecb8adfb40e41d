-- The records of the histories that the desk made from new (CR 14), for every list of calls.
-- record_at: the record at a point. OwnAccepted: the checker accepts it. OwnHeader: its counts.
-- goes_on_of: no new is accepted. WrittenDown: an issue as a client can write it down.
-- OwnWritten: so it stands in the record from then on.
-- Assumes nothing.
use Rattle.std.specs.Prelude.{◌≡◌, Bool, true, not, ◌&&◌, List, [], ◌∷◌, ◌++◌, ◌≢◌, ℕ, ◌<◌, length}
use Rattle.std.proofs.Math.Bool.{So}
use Rattle.masks.specs.Mask.{test_bit}
use Rattle.sizes.specs.declared.Counts.{Counts}
use Rattle.model.specs.Store.{Store}
use Rattle.model.specs.Calls.{issue}
use Rattle.layout.specs.Reading.{store_of}
use Rattle.layout.specs.Calls.{Call, on, call_on, new_on, leaves, is_new, is_ok_of}
use Rattle.consistency.specs.Trace.{Trace, start, advance, follow}
use Rattle.records.specs.Format.{Record, keys_in, writers_in, issues_in, writer_at, mask_at, key_of, clock_of, ReadOf}
use Rattle.records.specs.Audit.{audit_of, heard}
use Rattle.records.specs.Own.{record_of_at, FitsHeader, Words32}

-- The record of the book's history, with K and W as they are at that point: a new among the calls
-- sets them, and the history, anew.
unfoldable pub record_at : Trace → Record
record_at t =
    record_of_at t.book.counts.keys t.book.counts.writers t.book.history

-- "it accepts the record, if it fits the header, of any history our own desk made from new"; it
-- is one of 32-bit words then, and "the buffer may go on past it".
abbrev pub OwnAccepted : Type 0
OwnAccepted =
    (l : List ℕ) (z : Counts) → So (is_ok_of (new_on l z))
    → (cs : List Call) → let b = record_at (follow cs (start z l)) in
    FitsHeader b
    → Words32 b × (audit_of b ≡ heard 0) × ((past : List ℕ) → audit_of (b ++ past) ≡ heard 0)

-- Its header has the desk's counts, and there are as many issues as were entered since new.
abbrev pub OwnHeader : Type 0
OwnHeader =
    (l : List ℕ) (z : Counts) → So (is_ok_of (new_on l z))
    → (cs : List Call) → let t = follow cs (start z l) in
    let s = store_of t.buffer in
    let b = record_at t in
    (keys_in b ≡ s.counts.keys) × (writers_in b ≡ s.counts.writers)
    × (issues_in b ≡ length t.book.history)

-- ---- what a client can write down

-- No new is accepted in the list.
unfoldable pub goes_on_of : List Call → List ℕ → Bool
goes_on_of [] l = true
goes_on_of (c ∷ cs) l =
    let out = call_on c l in not (is_new c && is_ok_of out) && goes_on_of cs (leaves out l)

-- Issue i of record b is that of the sheets S by writer w from run r, on the desk s as it was
-- before it: a read for each sheet that the run had read, and no other, with the own row of the
-- version on the card. A run that issues isn't forked: its card is that of line 0.
pub record WrittenDown (s : Store) (r w S : ℕ) (b : Record) (i : ℕ) : Type 0 where
  pub keys : keys_in b ≡ s.counts.keys
  pub writers : writers_in b ≡ s.counts.writers
  pub here : i < issues_in b
  pub writer : writer_at b i ≡ w
  pub mask : mask_at b i ≡ S
  pub every : (k : ℕ) → k < s.counts.keys → So (test_bit (s.run r).branch.read k)
      → (x : ℕ) × ReadOf b i x × (key_of b x ≡ k)
  pub only : (x : ℕ) → ReadOf b i x
      → (key_of b x < s.counts.keys) × So (test_bit (s.run r).branch.read (key_of b x))
  pub rising : (x y : ℕ) → ReadOf b i x → ReadOf b i y → x < y → key_of b x < key_of b y
  pub row : (x u : ℕ) → ReadOf b i x → u < s.counts.writers
      → clock_of b x u ≡ ((s.run r).branch.snapshot (key_of b x)).past (key_of b x) u

-- Each issue that is entered, in the record at any later point: it is counted from 0, after those
-- entered before it.
abbrev pub OwnWritten : Type 0
OwnWritten =
    (l : List ℕ) (z : Counts) → So (is_ok_of (new_on l z))
    → (before : List Call) (r w S : ℕ) → let t = follow before (start z l) in
    let next = advance (on (issue r w S)) t in
    So (is_ok_of (call_on (on (issue r w S)) t.buffer)) → S ≢ 0
    → (later : List Call) → So (goes_on_of later next.buffer)
    → WrittenDown (store_of t.buffer) r w S (record_at (follow later next))
    (length t.book.history)
