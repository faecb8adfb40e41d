-- The test of a record in three parts: its layout, its issues and their reads.
-- readable-..: by parts. header_of, issues-of: what is known after each.
-- Assumes nothing.
use mathlib.Core.Path.{◌≡◌, sym, ap}
use mathlib.Core.Bool.{Bool, false, ◌&&◌, So}
use mathlib.Core.List.{[], ◌∷◌}
use Prim.Native.Nat.{ℕ, ◌^◌, ◌<◌}
use lib.Dec.{eqb}
use Rattle.words.specs.Tests.{all_below}
use Rattle.words.proofs.Bools.{and_left, and_right, and_assoc, eqb-eq}
use Rattle.words.proofs.Tests.{all-at}
use Rattle.model.specs.Outcome.{answer, unless, replied}
use Rattle.model.specs.Calls.Audit.{audit_reply}
use Rattle.records.specs.Audit.{audit_number, verdict_of, audit_of}
use Rattle.records.specs.Format.{Record, writers_in, issues_in, reads_in_of, all_reads, reads_before, layout_ok, issue_ok, read_ok, readable}
use Rattle.records.proofs.Reading.{layout_is, issue-is, readable-is}
use Rattle.audit.specs.Parts.{HeaderOf, IssuesOf, ReadableOf}

-- The issues' test, and that of their reads.
abbrev pub issues_ok : Record → ℕ → Bool
issues_ok b n = all_below n (issue_ok b) && eqb (reads_before b n) (reads_in_of b)

abbrev pub reads_ok : Record → ℕ → Bool
reads_ok b n = all_below n (λ i. all_reads b i (read_ok b i))

readable-parts : (b : Record)
    → readable b ≡ layout_ok b && (issues_ok b (issues_in b) && reads_ok b (issues_in b))
unfolding readable
readable-parts b =
    let n = issues_in b in
    ap (λ (x : Bool). layout_ok b && x)
    (sym (and_assoc (all_below n (issue_ok b)) (eqb (reads_before b n) (reads_in_of b)) (reads_ok
    b n)))

pub readable-unlaid : (b : Record) → layout_ok b ≡ false → false ≡ readable b
readable-unlaid b e = rw (readable-parts b, e)

pub readable_unissued : (b : Record) (n : ℕ) → n ≡ issues_in b → So (layout_ok b)
    → issues_ok b n ≡ false → false ≡ readable b
readable_unissued b n h p e =
    let f : issues_ok b (issues_in b) ≡ false = rw (← h) e in rw (readable-parts b, p, f)

pub readable-read : (b : Record) (n : ℕ) → n ≡ issues_in b → So (layout_ok b) → So (issues_ok b n)
    → reads_ok b n ≡ readable b
readable-read b n h p e =
    let f : So (issues_ok b (issues_in b)) = rw (← h) e in
    rw (readable-parts b, p, f) (ap (reads_ok b) h)

-- ---- what is known

pub header_of : (b : Record) (w n : ℕ) → w ≡ writers_in b → n ≡ issues_in b → n < 2 ^ 32
    → So (layout_ok b) → HeaderOf b w n
header_of b w n e f few p = record {
  layout = (layout_is b).0 p;
  writers = e;
  issues = f;
  few = few;
}

pub issues-of : (b : Record) (w n : ℕ) → HeaderOf b w n → So (issues_ok b n) → IssuesOf b w n
issues-of b w n H p =
    let every = eqb (reads_before b n) (reads_in_of b) in
    record {
      header = H;
      issue = λ i l.
          (issue-is b i).0
          (all-at n (issue_ok b) (and_left (all_below n (issue_ok b)) every p) i l);
      every =
          eqb-eq (reads_before b n) (reads_in_of b) (and_right (all_below n (issue_ok b)) every p);
    }

pub readable_of : (b : Record) (w n : ℕ) → w ≡ writers_in b → n ≡ issues_in b → n < 2 ^ 32
    → So (readable b) → ReadableOf b w n
readable_of b w n e f few p =
    let R = (readable-is b).0 p in
    record {
      header = record { layout = R.layout; writers = e; issues = f; few = few };
      readable = R;
    }

-- ---- the call's answer

pub answer-unread : (b : Record) → readable b ≡ false → 2 ∷ 15 ∷ [] ≡ answer (audit_of b)
unfolding audit_of verdict_of audit_reply replied unless answer
answer-unread b e = rw e

pub answer-judged : (b : Record) (n : ℕ) → So (readable b) → n ≡ audit_number b
    → 0 ∷ n ∷ [] ≡ answer (audit_of b)
unfolding audit_of verdict_of audit_reply replied unless answer
answer-judged b n e f = rw (e, f)
