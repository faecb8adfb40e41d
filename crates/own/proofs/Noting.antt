-- A list from new: at each point each issue of the book's history had read a snapshot (CR 14).
-- issue-passed: what an accepted issue asked. Noted: such a point, with demand 3's invariant.
-- entered-shots: kept by each call. start-, advance-, follow-noted.
-- Assumes nothing.
use mathlib.Core.Path.{◌≡◌, refl, ap, ◌∙◌}
use mathlib.Core.Bool.{So, false≢true}
use mathlib.Core.List.{List, [], ◌∷◌}
use Prim.Native.Nat.{ℕ, ◌<◌, ◌^◌}
use native.Mathlib.Omega.{arith}
use native.Mathlib.Decide.{ℕ_discrete}
use Rattle.words.proofs.Bools.{test, leb-gt}
use Rattle.sizes.specs.declared.Counts.{Counts}
use Rattle.model.specs.Store.{planned}
use Rattle.model.specs.Outcome.{Outcome, unless, run_cause}
use Rattle.model.specs.Issue.{issue_cause, issue_done, issue_rule}
use Rattle.model.specs.Calls.{StoreCall, issue, rule_of}
use Rattle.model.proofs.Outcomes.{no-cause, unless-refused}
use Rattle.layout.specs.Calls.{Call, new, audit, on, call_on, new_on, is_ok_of}
use Rattle.layout.proofs.Follow.{fine_rule}
use Rattle.history.specs.Listing.{no_base}
use Rattle.history.specs.Book.{Book, fresh_book, entry, book_ok, book_step}
use Rattle.history.proofs.Bases.{step-base}
use Rattle.consistency.specs.Trace.{Trace, start, advance, follow}
use Rattle.consistency.proofs.Closing.{ClosedIn}
use Rattle.consistency.proofs.Following.{by-counts}
use Rattle.consistency.proofs.Points.{At, start-at, advance-at}
use Rattle.records.proofs.Notions.{OwnReads}
use Rattle.records.proofs.Recorded.{Snapshots, Snapshots.none, Snapshots.more}
use Rattle.own.proofs.Entering.{Enters, Enters.nothing, Enters.one, rule_enters}
use Rattle.own.proofs.Issued.{entry-owns}

-- ---- an accepted issue

ok-cause : (n : ℕ) (x : Outcome) → So (is_ok_of (unless n x)) → n ≡ 0
unfolding is_ok_of
ok-cause n x p =
    elim (ℕ_discrete n 0) [
      | yes e ↦ e
      | no e ↦ absurd (false≢true (rw (unless-refused n x e) at p))
    ]

-- Run, writer and mask are in range.
pub issue-passed : (t : Trace) (A : At t) (r w S : ℕ)
    → So (is_ok_of (call_on (on (issue r w S)) t.buffer))
    → let z = A.store.counts in (r < z.runs) × (w < z.writers) × (S < 2 ^ z.keys)
unfolding rule_of issue_rule issue_cause run_cause
issue-passed t A r w S p =
    let s = A.store in
    let rule : call_on (on (issue r w S)) t.buffer ≡ unless (issue_cause s r w S) _ =
    ap (call_on (on (issue r w S))) A.holds ∙ fine_rule (issue r w S) s A.base A.fine in
    let e = ok-cause (issue_cause s r w S) (issue_done s r w S) (rw rule at p) in
    let x = no-cause _ 3 _ (omega arith) e in
    let y = no-cause _ 3 _ (omega arith) x.1 in
    let z = no-cause _ 3 _ (omega arith) y.1 in
    (leb-gt _ _ z.0, leb-gt _ _ x.0, leb-gt _ _ y.0)

-- ---- one call

pub record Noted (t : Trace) : Type 0 where
  pub at : At t
  pub base : t.book.base ≡ no_base
  pub shots : Snapshots t.book.counts.keys t.book.history

-- What the run of an accepted issue had read.
pub issue-owns : (t : Trace) → Noted t → (r w S : ℕ)
    → So (is_ok_of (call_on (on (issue r w S)) t.buffer))
    → OwnReads t.book.counts.keys t.book.history (entry r w S t.book)
issue-owns t N r w S p =
    let b = t.book in
    let a = b.run r in
    let plan = planned a.jobs a.job in
    let W = N.at.store.counts.writers in
    let F = N.at.inv.follows in
    let l = (issue-passed t N.at r w S p).0 in
    entry-owns W plan r w S b N.base
    (by-counts F (λ z. ClosedIn z.keys W b.history b.base plan a.branch.snapshot)
    ((F.run r l).line 0).closed)

entered-shots : {c : StoreCall} {b g : Book} → Enters c b g
    → Snapshots b.counts.keys b.history
    → ((r w S : ℕ) → c ≡ issue r w S
    → OwnReads b.counts.keys b.history (entry r w S b))
    → Snapshots g.counts.keys g.history
entered-shots (nothing z e) s f = rw (z, e) s
entered-shots (one {r = r} {w = w} {S = S} q z e) s f = rw (z, e) (more (f r w S q) s)

ok-shots : (c : Call) (t : Trace) → Noted t → So (is_ok_of (call_on c t.buffer))
    → let b = book_ok c t.book in Snapshots b.counts.keys b.history
unfolding book_ok fresh_book
ok-shots (new k w n p) t N ok = none
ok-shots (audit v) t N ok = N.shots
ok-shots (on c) t N ok =
    entered-shots (rule_enters c t.book) N.shots
    (λ r w S e. issue-owns t N r w S (rw e at ok))

pub advance-noted : (c : Call) (t : Trace) → Noted t → Noted (advance c t)
unfolding advance book_step
advance-noted c t N = record {
  at = advance-at c t N.at;
  base = step-base c (is_ok_of (call_on c t.buffer)) t.book N.base;
  shots =
      test (is_ok_of (call_on c t.buffer)) (λ y. rw y (ok-shots c t N y))
      (λ n. rw n N.shots);
}

-- ---- lists

pub start-noted : (z : Counts) (l : List ℕ) → So (is_ok_of (new_on l z)) → Noted (start z l)
unfolding start fresh_book
start-noted z l ok = record { at = start-at z l ok; base = refl; shots = none }

pub follow-noted : (cs : List Call) (t : Trace) → Noted t → Noted (follow cs t)
unfolding follow
follow-noted [] t N = N
follow-noted (c ∷ cs) t N = follow-noted cs (advance c t) (advance-noted c t N)
