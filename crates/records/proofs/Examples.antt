-- CR 14's examples, computed.
-- audited: the answers, in the order of the request. before-new: on no desk. written-down: case
-- A's record.
-- Assumes nothing.
use mathlib.Core.Path.{◌≡◌, refl}
use mathlib.Core.Bool.{false, ◌&&◌}
use mathlib.Core.List.{List, [], ◌∷◌, ◌++◌, map}
use Prim.Native.Nat.{ℕ}
use lib.Dec.{eqb}
use Rattle.words.specs.Tests.{any_below, all_below}
use Rattle.words.specs.Numbers.{count_below, largest, when}
use Rattle.masks.specs.Mask.{test_bit, with_bit, with_if, mask_below}
use Rattle.model.specs.Outcome.{refused, refuse, unless, replied}
use Rattle.model.specs.Calls.Audit.{audit_reply}
use Rattle.model.specs.Version.{zero_past}
use Rattle.model.specs.Calls.{fetch}
use Rattle.layout.specs.Buffer.{shaped, in_form}
use Rattle.layout.specs.Calls.{on, on_store, call_on, leaves, outcomes}
use Rattle.history.specs.History.{History, writer_of, leads, in_past}
use Rattle.history.specs.Copies.{reaches, meets_copy, held_copy, last_in, by_writer}
use Rattle.records.specs.Format.{Record, keys_in, writers_in, issues_in, reads_in_of, issues_from, reads_from, total_in, writer_at, mask_at, first_at, number_at, read_at_of, key_of, clock_of, all_reads, any_read, reads_before, is_by, issues_before, rank, layout_ok, issue_ok, read_ok, readable}
use Rattle.records.specs.Snapshots.{included, issue_of, history_of, is_snapshot}
use Rattle.records.specs.Own.{own_row, had_read, number_of, reads_up_to, row_words, read_words, keys_words, issues_words, reads_words, head_words, record_of_at}
use Rattle.records.specs.Audit.{first_below_of, audit_number, verdict_of, audit_of, audit_call, heard}

abbrev header : ℕ → ℕ → ℕ → ℕ → ℕ → ℕ → ℕ → List ℕ
header K W I Q a q t = K ∷ W ∷ I ∷ Q ∷ a ∷ q ∷ t ∷ []

abbrev issued : ℕ → ℕ → ℕ → ℕ → List ℕ
issued w S f n = w ∷ S ∷ f ∷ n ∷ []

-- 1: case A's record, whose first issue's first read is f.
abbrev case_a : ℕ → Record
case_a f = header 2 2 2 1 7 15 18 ++ issued 0 3 f 0 ++ issued 1 2 0 1 ++ 0 ∷ 1 ∷ 0 ∷ []

abbrev empty : Record
empty = header 1 1 0 0 7 7 7

-- 2: one sheet, two writers. The last read has count c of writer 0.
abbrev missed : ℕ → Record
missed c =
    header 1 2 3 2 7 19 25 ++ issued 0 1 0 0 ++ issued 1 1 0 1 ++ issued 0 1 1 1
    ++ 0 ∷ 1 ∷ 0 ∷ 0 ∷ c ∷ 1 ∷ []

-- 3: of one issue.
abbrev together : ℕ → Record
together c =
    header 2 1 3 2 7 19 23 ++ issued 0 1 0 0 ++ issued 0 3 0 0 ++ issued 0 1 0 2
    ++ 0 ∷ c ∷ 1 ∷ 2 ∷ []

abbrev alone : ℕ → Record
alone c =
    header 2 1 3 1 7 19 21 ++ issued 0 1 0 0 ++ issued 0 3 0 0 ++ issued 0 1 0 1 ++ 1 ∷ c ∷ []

-- 4: its writer's older save, and its own issue.
abbrev older : Record
older =
    header 1 1 3 1 7 19 21 ++ issued 0 1 0 0 ++ issued 0 1 0 0 ++ issued 0 1 0 1 ++ 0 ∷ 1 ∷ []

abbrev itself : Record
itself = header 1 1 1 1 7 11 13 ++ issued 0 1 0 1 ++ 0 ∷ 1 ∷ []

-- 5: a chain of two that weren't read.
abbrev chained : ℕ → Record
chained c =
    header 3 3 5 4 7 27 43 ++ issued 0 1 0 0 ++ issued 0 1 0 0 ++ issued 1 2 0 1
    ++ issued 2 4 1 1 ++ issued 0 1 2 2 ++ 0 ∷ 2 ∷ 0 ∷ 0 ∷ 1 ∷ 0 ∷ 1 ∷ 0 ∷ 2 ∷ 0 ∷ 0 ∷ 1
    ∷ 0 ∷ c ∷ 0 ∷ 0 ∷ []

-- 6: one sheet read twice; no sum wraps.
abbrev twice : ℕ → Record
twice c =
    header 1 1 3 2 7 19 23 ++ issued 0 1 0 0 ++ issued 0 1 0 0 ++ issued 0 1 0 2
    ++ 0 ∷ 1 ∷ 0 ∷ c ∷ []

abbrev wrapped : Record
wrapped = header 1 1 1 2147483648 7 11 11 ++ issued 0 1 0 0

-- 7: a fault of form in a later issue, whose mask is m.
abbrev later : ℕ → Record
later m =
    header 2 1 4 2 7 23 27 ++ issued 0 1 0 0 ++ issued 0 3 0 0 ++ issued 0 1 0 2
    ++ issued 0 m 2 0 ++ 0 ∷ 1 ∷ 1 ∷ 2 ∷ []

pub audited :
    map audit_of
    (case_a 0 ∷ case_a 1 ∷ empty ∷ (empty ++ 99 ∷ 99 ∷ []) ∷ [] ∷ missed 0 ∷ missed 1
    ∷ together 1 ∷ together 2 ∷ alone 2 ∷ alone 1 ∷ older ∷ itself ∷ chained 1 ∷ chained 2
    ∷ twice 1 ∷ twice 2 ∷ wrapped ∷ later 0 ∷ later 1 ∷ [])
    ≡ heard 0 ∷ refused 15 ∷ heard 0 ∷ heard 0 ∷ refused 15 ∷ heard 3 ∷ heard 0
    ∷ heard 3 ∷ heard 0 ∷ heard 0 ∷ refused 15 ∷ heard 0 ∷ refused 15 ∷ heard 5 ∷ heard 0
    ∷ heard 0 ∷ heard 3 ∷ refused 15 ∷ refused 15 ∷ heard 3 ∷ []
unfolding any_below all_below count_below when test_bit refuse unless replied writer_of leads
    in_past
    reaches meets_copy keys_in writers_in issues_in reads_in_of issues_from reads_from total_in
    writer_at
    mask_at first_at number_at read_at_of key_of clock_of all_reads any_read reads_before is_by
    issues_before rank layout_ok issue_ok read_ok readable included issue_of history_of is_snapshot
    first_below_of audit_number verdict_of audit_reply audit_of
audited = refl

-- Example 1, before any new: a buffer of no words.
pub before-new :
    outcomes (audit_call [] ∷ audit_call empty ∷ on (fetch 0 0) ∷ []) []
    ≡ refused 15 ∷ heard 0 ∷ refused 1 ∷ []
unfolding outcomes call_on leaves on_store in_form shaped audit_of verdict_of audit_reply replied
    unless
    readable layout_ok keys_in writers_in issues_in reads_in_of issues_from reads_from total_in
    read_at_of
    reads_before all_below audit_number first_below_of
before-new = refl

-- ---- the record of a history

-- Case A's history: writer 0 saved both sheets; writer 1 had read sheet 0 and saved sheet 1.
abbrev case_a_history : History
case_a_history =
    record { writer = 1; keys = test_bit 2; read = λ d j. eqb d 0 && eqb j 0; rows = zero_past }
    ∷ record { writer = 0; keys = test_bit 3; read = λ d j. false; rows = zero_past } ∷ []

pub written-down : record_of_at 2 2 case_a_history ≡ case_a 0
unfolding any_below count_below largest when test_bit with_bit with_if mask_below writer_of
    held_copy
    last_in by_writer own_row had_read number_of reads_up_to row_words read_words keys_words
    issues_words
    reads_words head_words record_of_at
written-down = refl
