-- What the claims give (CR 14): each is taken here as it is stated.
-- desk-answers: a desk asked for its own record. case_answers, anew-answers, lines-answers: the
-- examples. fresh-none: before any issue. once-each, none_read: the reads of an issue. case_card:
-- what stood on the card.
-- Assumes nothing.
use mathlib.Core.Path.{◌≡◌, refl, sym, ap, ◌∙◌}
use mathlib.Core.Bool.{So, false≢true}
use mathlib.Core.Logic.{inl, inr}
use mathlib.Core.List.{List, [], ◌∷◌, ◌++◌}
use Prim.Native.Nat.{ℕ, ◌<◌}
use native.Mathlib.Omega.{arith}
use Rattle.words.proofs.Tests.{below_or_not}
use Rattle.masks.specs.Mask.{test_bit}
use Rattle.masks.proofs.Bits.{test-none}
use Rattle.sizes.specs.Bounds.{counts_of}
use Rattle.sizes.specs.declared.Counts.{Counts}
use Rattle.model.specs.Store.{Store}
use Rattle.layout.specs.Reading.{store_of}
use Rattle.layout.specs.Calls.{Call, call_on, new_on, is_ok_of}
use Rattle.history.specs.Book.{fresh_book}
use Rattle.consistency.specs.Trace.{start, follow}
use Rattle.records.specs.Format.{Record, writers_in, issues_in, total_in, first_at, number_at, read_at_of, key_of, clock_of, ReadOf}
use Rattle.records.specs.Audit.{audit_of, audit_call, heard}
use Rattle.records.specs.Own.{FitsHeader, Words32}
use Rattle.records.proofs.Exact.{audit_anywhere}
use Rattle.own.specs.Claims.{record_at, OwnAccepted, OwnHeader, WrittenDown, OwnWritten}
use Rattle.own.proofs.Examples.{case_words, case_new, case_before, case_issue, case_record, case_later, later_record, anew-new, anew-calls, anew_record, lines-words, lines_new, lines-calls, lines_record, computed}

-- ---- accepted

-- A desk asked for its own record after any calls, whatever it holds, answers 0; and the record is
-- one that it can be lent.
pub desk-answers : OwnAccepted → (l : List ℕ) (z : Counts) → So (is_ok_of (new_on l z))
    → (cs : List Call) → let t = follow cs (start z l) in
    FitsHeader (record_at t)
    → Words32 (record_at t) × (call_on (audit_call (record_at t)) t.buffer ≡ heard 0)
desk-answers C l z ok cs f =
    let t = follow cs (start z l) in
    let r = C l z ok cs f in
    (r.0, audit_anywhere (record_at t) t.buffer ∙ r.1)

-- Case A's record, with two words behind it.
pub case_answers : OwnAccepted → audit_of (case_record ++ 99 ∷ 99 ∷ []) ≡ heard 0
unfolding total_in record_at
case_answers C =
    let b = record_at (follow (case_before ++ (case_issue ∷ [])) case_new) in
    let f : FitsHeader b = rw computed.case_a (omega arith) in
    let r : audit_of (b ++ 99 ∷ 99 ∷ []) ≡ heard 0 =
    (C case_words (counts_of 2 2 2 1) computed.case_begun (case_before ++ (case_issue ∷ [])) f).2
    (99 ∷ 99 ∷ []) in
    rw computed.case_a at r

-- After a second new it is the record of that desk.
pub anew-answers : OwnAccepted → audit_of anew_record ≡ heard 0
unfolding total_in record_at
anew-answers C =
    let b = record_at (follow anew-calls anew-new) in
    let f : FitsHeader b = rw computed.anew (omega arith) in
    let r : audit_of b ≡ heard 0 =
    (C case_words (counts_of 1 1 1 1) computed.anew-begun anew-calls f).1 in
    rw computed.anew at r

-- Of a run with two lines.
pub lines-answers : OwnAccepted → audit_of lines_record ≡ heard 0
unfolding total_in record_at
lines-answers C =
    let b = record_at (follow lines-calls lines_new) in
    let f : FitsHeader b = rw computed.lines (omega arith) in
    let r : audit_of b ≡ heard 0 =
    (C lines-words (counts_of 2 1 1 1) computed.lines-begun lines-calls f).1 in
    rw computed.lines at r

-- A desk that has just begun has the record of no issue.
pub fresh-none : OwnHeader → (l : List ℕ) (z : Counts) → So (is_ok_of (new_on l z))
    → issues_in (record_at (start z l)) ≡ 0
unfolding follow start fresh_book
fresh-none C l z ok = (C l z ok []).2

-- ---- written down

-- No sheet stands twice among the reads of an issue.
pub once-each : {s : Store} {r w S : ℕ} {b : Record} {i : ℕ} → WrittenDown s r w S b i
    → (x y : ℕ) → ReadOf b i x → ReadOf b i y → key_of b x ≡ key_of b y → x ≡ y
once-each D x y m n e =
    elim (below_or_not x y) [
      | inl l ↦ absurd (omega (arith, D.rising x y m n l))
      | inr l ↦
          elim (below_or_not y x) [
            | inl k ↦ absurd (omega (arith, D.rising y x n m k))
            | inr k ↦ omega arith
          ]
    ]

-- A run that had read nothing leaves no read.
pub none_read : {s : Store} {r w S : ℕ} {b : Record} {i : ℕ} → WrittenDown s r w S b i
    → (s.run r).branch.read ≡ 0 → (x : ℕ) → ReadOf b i x → ⊥
none_read {b = b} D e x m =
    let p = (D.only x m).1 in
    false≢true (sym (test-none (key_of b x)) ∙ ap (λ (n : ℕ). test_bit n (key_of b x)) (sym e) ∙ p)

-- Case A: what writer 1 had read, in the record after one issue more.
case_written : OwnWritten
    → WrittenDown (store_of (follow case_before case_new).buffer) 0 1 2 later_record 1
case_written C =
    let D = C case_words (counts_of 2 2 2 1) computed.case_begun case_before 0 1 2
    computed.case_accepted (λ e. omega arith) case_later computed.case_goes in
    rw (computed.case_second, computed.later) at D

-- So its card had sheet 0 with one issue of writer 0 and none of its own, and nothing else was
-- read.
pub case_card : OwnWritten
    → let a = ((store_of (follow case_before case_new).buffer).run 0).branch in
    ((a.snapshot 0).past 0 0 ≡ 1) × ((a.snapshot 0).past 0 1 ≡ 0)
    × ((k : ℕ) → k < 2 → So (test_bit a.read k) → k ≡ 0)
unfolding key_of clock_of read_at_of issues_in writers_in number_at first_at
case_card C = (
  sym (D.row 0 0 (0, omega arith, refl) (omega (arith, ap (λ (z : Counts). z.writers) e))),
  sym (D.row 0 1 (0, omega arith, refl) (omega (arith, ap (λ (z : Counts). z.writers) e))),
  λ k l p.
      let x = D.every k (omega (arith, ap (λ (z : Counts). z.keys) e)) p in
      let first : x.0 ≡ 0 = omega (arith, x.1.1, x.1.2) in
      sym (rw first at x.2),
)
  where
    D : WrittenDown (store_of (follow case_before case_new).buffer) 0 1 2 later_record 1
    D = case_written C

    e : (store_of (follow case_before case_new).buffer).counts ≡ counts_of 2 2 2 1
    e = computed.case_counts
