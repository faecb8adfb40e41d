-- What a run had read when it issued is a snapshot by the history below the issue, from the card's
-- cut alone, and nothing of it was admitted on a desk from new (CR 14).
-- cut-owns: of a cut. entry-owns: of the book's entry.
-- Assumes nothing.
use mathlib.Core.Path.{◌≡◌, refl, ap, ◌∙◌, fun_ext}
use mathlib.Core.Bool.{So, ◌&&◌}
use mathlib.Core.Logic.{inl}
use Prim.Native.Nat.{ℕ}
use native.Mathlib.Omega.{arith}
use Rattle.words.specs.Tests.{Items}
use Rattle.words.proofs.Bools.{◌∙˙◌, and_intro, and_left, and_right}
use Rattle.model.specs.Algebra.{Place}
use Rattle.model.specs.Version.{zero_past}
use Rattle.history.specs.History.{Issue, History}
use Rattle.history.specs.Listing.{Base, no_base, BookCopy, read_copy}
use Rattle.history.specs.Book.{Book, entry}
use Rattle.history.proofs.Reached.{copy-held, copy_meets, reaches-mono}
use Rattle.history.proofs.Carrying.{read-least}
use Rattle.consistency.proofs.Closing.{ClosedIn}
use Rattle.records.proofs.Notions.{OwnReads}

pub cut-owns : (K W : ℕ) (h : History) (B : Base) (plan : Items) (p : Place BookCopy)
    (read : Items) (e : Issue) → ((k i : ℕ) → e.read k i ≡ read k && (p k).later i)
    → e.rows ≡ zero_past → ClosedIn K W h B plan p → OwnReads K h e
cut-owns K W h B plan p read e f z C = record {
  good = λ d l. record {
    writes = λ i q. (C.good d l).good.writes i (has d i q);
    behind = λ i j q r.
        f d j ∙ and_intro (was d i q) ((C.good d l).good.behind i j (has d i q) r);
  };
  meets = λ d c ld lc hd hc.
      let a = (copy-held K h (e.read d)).0 hd in
      let i = a.0 in
      (copy_meets K h d (e.read d) (e.read c)).1 (λ j l y.
      f d j ∙ and_intro (was d i a.2)
      (C.closed c d (inl j) lc ld (C.within d (inl i) ld (has d i a.2))
      (reaches-mono K h (e.read c) (p c).later (λ t _ q. has c t q) d j y)));
  rows = z;
}
  where
    has : (k i : ℕ) → So (e.read k i) → So ((p k).later i)
    has k i q = and_right (read k) ((p k).later i) (f k i ∙˙ q)

    was : (k i : ℕ) → So (e.read k i) → So (read k)
    was k i q = and_left (read k) ((p k).later i) (f k i ∙˙ q)

-- Nothing was admitted: what was read lists nothing.
none-listed : (K W : ℕ) (h : History) (B : Base) (plan : Items) (p : Place BookCopy)
    (read : Items) → B ≡ no_base → ClosedIn K W h B plan p → (read_copy K read p).rows ≡ zero_past
none-listed K W h B plan p read e C =
    fun_ext (λ d. fun_ext (λ u.
    omega (
      arith,
      read-least K read p d u (B.saves d u) (λ k l _. (C.good k l).listed.low d u),
      ap (λ (x : Base). x.saves d u) e,
    )))

pub entry-owns : (W : ℕ) (plan : Items) (r w S : ℕ) (b : Book) → b.base ≡ no_base
    → ClosedIn b.counts.keys W b.history b.base plan (b.run r).branch.snapshot
    → OwnReads b.counts.keys b.history (entry r w S b)
unfolding entry
entry-owns W plan r w S b e C =
    let a = (b.run r).branch in
    let K = b.counts.keys in
    cut-owns K W b.history b.base plan a.snapshot a.read (entry r w S b)
    (λ k i. refl)
    (none-listed K W b.history b.base plan a.snapshot a.read e C) C
