-- Both claims of specs/Claims, proved: the record of any history from new is accepted, and says of
-- each issue what a client can write down (CR 14).
-- own-accepted, own-written.
-- Assumes nothing.
use mathlib.Core.Path.{◌≡◌, refl, sym, ap, ◌∙◌}
use mathlib.Core.Bool.{So}
use mathlib.Core.List.{List, [], ◌∷◌, ◌++◌, append-nil}
use mathlib.Core.Logic.{◌≢◌}
use Prim.Native.Nat.{ℕ, ◌<◌}
use native.Mathlib.Omega.{arith}
use lib.ListN.{length}
use Rattle.words.proofs.Bools.{ne_eqb}
use Rattle.sizes.specs.Bounds.{Ranged}
use Rattle.sizes.specs.declared.Counts.{Counts}
use Rattle.model.specs.Store.{Store}
use Rattle.model.specs.Calls.{issue}
use Rattle.layout.specs.Reading.{store_of}
use Rattle.layout.specs.Calls.{on, call_on, is_ok_of}
use Rattle.layout.proofs.Whole.{store-back}
use Rattle.history.specs.History.{Issue, History}
use Rattle.history.specs.Book.{entry, book_issue, book_issued, book_rule, book_ok, book_step}
use Rattle.history.proofs.Notions.{Sound}
use Rattle.consistency.specs.Trace.{Trace, start, advance, follow}
use Rattle.consistency.proofs.Following.{by-counts}
use Rattle.records.specs.Audit.{audit_of, heard}
use Rattle.records.specs.Own.{record_of_at, FitsHeader, Words32}
use Rattle.records.proofs.Lying.{Grown, Grown.same, Grown.more, Lies, lies-written, record_lies}
use Rattle.records.proofs.Recorded.{own_record}
use Rattle.records.proofs.Sized.{record_words}
use Rattle.own.specs.Claims.{record_at, OwnAccepted, OwnHeader, OwnWritten}
use Rattle.own.proofs.Noting.{Noted, issue-passed, start-noted, follow-noted}
use Rattle.own.proofs.Growing.{follow-goes}
use Rattle.own.proofs.Card.{card-written}

-- ---- accepted

module _ (t : Trace) (N : Noted t) where
  ranged : Ranged t.book.counts
  ranged = by-counts N.at.inv.follows Ranged N.at.fine.counts

  sound : Sound t.book.counts.keys t.book.counts.writers t.book.history
  sound =
      let F = N.at.inv.follows in
      by-counts F (λ z. Sound z.keys z.writers t.book.history) F.sound

  noted-accepted : (c : List ℕ) → audit_of (record_at t ++ c) ≡ heard 0
  unfolding record_at
  noted-accepted c =
      own_record t.book.counts.keys t.book.counts.writers t.book.history c
      ranged.keys-low ranged.keys-high ranged.writers-low ranged.writers-high sound
      N.shots

  noted-words : FitsHeader (record_at t) → Words32 (record_at t)
  unfolding record_at
  noted-words f =
      record_words t.book.counts.keys t.book.counts.writers ranged.keys-high
      ranged.writers-high t.book.history sound f

pub own-accepted : OwnAccepted
unfolding record_at
own-accepted l z ok cs f =
    let t = follow cs (start z l) in
    let N = follow-noted cs (start z l) (start-noted z l ok) in (
      noted-words t N f,
      ap audit_of (sym (append-nil (record_at t))) ∙ noted-accepted t N [],
      noted-accepted t N,
    )

-- ---- written down

-- An accepted issue is entered.
issue-entered : (t : Trace) (r w S : ℕ) → So (is_ok_of (call_on (on (issue r w S)) t.buffer))
    → S ≢ 0 → let b = (advance (on (issue r w S)) t).book in
    (b.counts ≡ t.book.counts) × (b.history ≡ entry r w S t.book ∷ t.book.history)
unfolding advance book_step book_ok book_rule book_issued book_issue
issue-entered t r w S p n = rw (p, ne_eqb S 0 n) (refl, refl)

record_at_lem : (t : Trace) → Lies (record_at t) t.book.counts.keys t.book.counts.writers
    t.book.history
unfolding record_at
record_at_lem t =
    let K = t.book.counts.keys in
    let W = t.book.counts.writers in
    let h = t.book.history in
    rw (append-nil (record_of_at K W h)) at (record_lies K W h [])

grown-from : {h g l : History} → h ≡ g → Grown h l → Grown g l
grown-from e x = rw e at x

grown-long : {e : Issue} {h l : History} → Grown (e ∷ h) l → length h < length l
grown-long same = omega arith
grown-long (more g) = omega (arith, grown-long g)

pub own-header : OwnHeader
own-header l z ok cs =
    let t = follow cs (start z l) in
    let A = (follow-noted cs (start z l) (start-noted z l ok)).at in
    let L = record_at_lem t in
    let counts : t.book.counts ≡ (store_of t.buffer).counts =
    sym A.inv.follows.counts
    ∙ ap (λ (s : Store). s.counts)
    (sym (ap store_of A.holds ∙ store-back A.store A.base A.fine.fits)) in (
      L.keys ∙ ap (λ (x : Counts). x.keys) counts,
      L.writers ∙ ap (λ (x : Counts). x.writers) counts,
      L.issues,
    )

pub own-written : OwnWritten
own-written l z ok before r w S p n later q =
    let t = follow before (start z l) in
    let next = advance (on (issue r w S)) t in
    let u = follow later next in
    let N = follow-noted before (start z l) (start-noted z l ok) in
    let A = N.at in
    let s = A.store in
    let F = A.inv.follows in
    let e = issue-entered t r w S p n in
    let G = follow-goes later next q in
    let counts : u.book.counts ≡ s.counts = G.counts ∙ e.0 ∙ sym F.counts in
    let L = record_at_lem u in
    let g : Grown (entry r w S t.book ∷ t.book.history) u.book.history =
    grown-from e.1 G.history in
    let back : store_of t.buffer ≡ s =
    ap store_of A.holds ∙ store-back s A.base A.fine.fits in
    let passed = issue-passed t A r w S p in
    rw back
    (card-written s t.book F A.fine N.base r w S passed.0 passed.2 (record_at u)
    (L.keys ∙ ap (λ (x : Counts). x.keys) counts)
    (L.writers ∙ ap (λ (x : Counts). x.writers) counts)
    (rw L.issues (grown-long g)) (lies-written L (entry r w S t.book) t.book.history g))
