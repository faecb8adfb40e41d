-- Copies with lists (CR 6) where nothing was admitted: all is as without a base.
-- Plain: such a copy; lists-plain, listed_plain, plain-listed: by its list. ..-plain: counted,
-- held, needs, meets, merge.
-- Assumes nothing.
use mathlib.Core.Path.{◌≡◌, refl, ap, fun_ext}
use mathlib.Core.Bool.{Bool, true, false, not, ◌&&◌, So}
use Prim.Native.Nat.{ℕ, ◌≤◌}
use native.Mathlib.Omega.{arith}
use lib.Dec.{eqb, leb}
use lib.ListN.{length}
use Rattle.words.specs.Tests.{any_below}
use Rattle.words.proofs.Bools.{or-false-right}
use Rattle.words.proofs.Tests.{any-no}
use Rattle.clock.specs.Clock.{Clock, dominates, present, join}
use Rattle.clock.proofs.Order.{covers-standing}
use Rattle.model.specs.Version.{zero_past}
use Rattle.history.specs.History.{History}
use Rattle.history.specs.Copies.{reaches, held_copy, needs_copy, meets_copy, counted}
use Rattle.history.specs.Listing.{Base, no_base, BookCopy, held_book, merge_book, needs_book, meets_book, counted_copy}
use Rattle.history.proofs.Shifts.{shift-plain}
use Rattle.history.proofs.Grown.{count-path}
use Rattle.history.proofs.Listed.{Listed}

-- ---- with nothing admitted all is as it was

-- A copy of nothing admitted.
pub record Plain (c : BookCopy) : Type 0 where
  pub rows : c.rows ≡ zero_past
  pub number : c.number ≡ 0

zero-absent : (W : ℕ) → present W (λ w. 0) ≡ false
unfolding present
zero-absent W = any-no W (λ w. leb 1 0) (λ w l. refl)

zero-dominated : (W : ℕ) (p : Clock) → So (dominates W p (λ w. 0))
zero-dominated W p = (covers-standing W p (λ w. 0)).1 (λ w l. omega arith)

-- Where nothing was admitted, a copy lists nothing,
pub lists-plain : (B : Base) (c : BookCopy) → B ≡ no_base
    → ((d u : ℕ) → c.rows d u ≤ B.saves d u) → c.number ≤ B.last → Plain c
lists-plain B c e low number = record {
  rows = fun_ext (λ d. fun_ext (λ u.
      omega (arith, low d u, ap (λ (x : Base). x.saves d u) e)));
  number = omega (arith, number, ap (λ (x : Base). x.last) e);
}

pub listed_plain : (B : Base) (W k : ℕ) (c : BookCopy) → B ≡ no_base → Listed B W k c → Plain c
listed_plain B W k c e p = lists-plain B c e p.low p.number

-- and one that lists nothing can be a copy.
pub plain-listed : (B : Base) (W k : ℕ) (c : BookCopy) → B ≡ no_base → c.number ≡ 0
    → ((d u : ℕ) → c.rows d u ≤ B.saves d u) → Listed B W k c
plain-listed B W k c e n low = record {
  low = low;
  full = λ _ _. fun_ext (λ u. omega (arith, low k u, ap (λ (x : Base). x.saves k u) e));
  blank = λ _ _. fun_ext (λ d. fun_ext (λ u.
      omega (arith, low d u, ap (λ (x : Base). x.saves d u) e)));
  own = λ l. absurd (omega arith);
  number = omega arith;
}

module _ (K : ℕ) (h : History) where
  -- Document 01's sentence.
  pub counted-plain : (B : Base) (c : BookCopy) → B ≡ no_base → Plain c
      → counted_copy K h B c ≡ counted K h c.later
  unfolding counted_copy
  counted-plain B c e p =
      let n = counted K h c.later in
      count-path
      (rw (ap (λ (x : Base). x.last) e) (omega (arith, p.number, shift-plain n.issue)))
      (fun_ext (λ d. fun_ext (λ w.
      rw (ap (λ (x : Base). x.count w) e)
      (omega (arith, ap (λ (r : ℕ → Clock). r d w) p.rows, shift-plain (n.past d w))))))

  pub held_plain : (c : BookCopy) → Plain c → held_book K h c ≡ held_copy K h c.later
  unfolding held_book
  held_plain c p = rw p.number

  pub needs-plain : (W k : ℕ) (c : BookCopy) → Plain c
      → (d : ℕ) → needs_book K W h k c d ≡ needs_copy K h k c.later d
  unfolding needs_book needs_copy
  needs-plain W k c p d =
      let later = any_below (length h) (reaches K h c.later d) in
      ap (λ (b : Bool). not (eqb d k) && b)
      (rw (p.rows, zero-absent W) (or-false-right later))

  -- The other copy may have a list.
  pub meets-plain : (W d : ℕ) (b c : BookCopy) → Plain c
      → meets_book K W h d b c ≡ meets_copy K h d b.later c.later
  unfolding meets_book
  meets-plain W d b c p =
      rw (p.rows, zero-dominated W (b.rows d))
      (and_true_right (meets_copy K h d b.later c.later))
    where
      and_true_right : (a : Bool) → a && true ≡ a
      and_true_right true = refl
      and_true_right false = refl

  pub merge-plain : (a b : BookCopy) → Plain a → Plain b → Plain (merge_book K h a b)
  unfolding merge_book join
  merge-plain a b p q = record {
    rows = rw (p.rows, q.rows) (fun_ext (λ d. fun_ext (λ w. omega arith)));
    number = omega (arith, p.number, q.number);
  }
