-- Copies with lists, counted (CR 6): merged, joined one after the other, and after one more issue.
-- merge-counted: the merge; unheld-past, book-none: not held. book-fold: rows joined. book-grow:
-- one issue more.
-- Assumes nothing.
use mathlib.Core.Path.{◌≡◌, refl, sym, ap, ap₂, ◌∙◌, fun_ext}
use mathlib.Core.Bool.{Bool, true, false, cond, ◌&&◌}
use mathlib.Core.List.{◌∷◌}
use Prim.Native.Nat.{ℕ, zero, suc, max}
use native.Mathlib.Omega.{arith}
use Rattle.words.specs.Tests.{Items, any_below, none}
use Rattle.words.specs.Numbers.{largest, when, fold_below}
use Rattle.words.proofs.Bools.{test, clash}
use Rattle.clock.specs.Clock.{Clock, join}
use Rattle.clock.proofs.Order.{join-assoc}
use Rattle.model.specs.Version.{Version, zero_past, unheld, held, merge}
use Rattle.model.proofs.Merges.{merge-issue, merge-past}
use Rattle.history.specs.History.{History, Issue}
use Rattle.history.specs.Copies.{Copy, CountedAs, reaches, held_copy, union, counted}
use Rattle.history.specs.Listing.{Base, BookCopy, plain_copy_of, merge_book, shift, counted_copy, read_copy}
use Rattle.history.proofs.Notions.{PastLaws, Good}
use Rattle.history.proofs.Tally.{tally, tally-none}
use Rattle.history.proofs.Reached.{reaches-unheld, copy-held}
use Rattle.history.proofs.Counted.{counted_none, counted-rows, counted-issues}
use Rattle.history.proofs.Shifts.{shift_none, shift-max}
use Rattle.history.proofs.Grown.{Below, counted-grow}
use Rattle.history.proofs.Listed.{BlankList, book-unheld}
use Rattle.history.proofs.Listing.{held_same, row-at}

module _ (K : ℕ) (h : History) where
  module _ (B : Base) where
    -- ---- merge

    -- What is not held counts as nothing.
    pub unheld-past : (k : ℕ) (v : Version) (c : BookCopy) → CountedAs v (counted_copy K h B c)
        → Good K h k c.later → BlankList c → held v ≡ false → v.past ≡ zero_past
    unheld-past k v c e g blank n =
        fun_ext (λ d. fun_ext (λ w.
        let z = book-unheld K h k c g (sym (held_same K h B v c e) ∙ n) in
        let row = ap (λ (p : ℕ → Clock). p d w) (blank z.0 z.1) in
        let s = reaches K h c.later d in
        let none-later = copy-unheld c.later z.1 in
        let zero = ap (λ (p : Clock). p w)
        (tally-none K h s (λ j _. reaches-unheld K h c.later none-later d j)) in
        omega (arith, row-at K h B v c e d w, row, shift_none (B.count w) (tally K h s w) zero)))
      where
        copy-unheld : (a : Copy) → ((i : ℕ) → a i ≡ false) → held_copy K h a ≡ false
        copy-unheld a f =
            test (held_copy K h a)
            (λ p. let r = (copy-held K h a).0 p in clash r.2 (f r.0))
            (λ n. n)

    merge-row : (a b : BookCopy) (d : ℕ) → (counted_copy K h B (merge_book K h a b)).past d
        ≡ join ((counted_copy K h B a).past d) ((counted_copy K h B b).past d)
    unfolding counted_copy merge_book join
    merge-row a b d = fun_ext same
      where
        same : (w : ℕ) → max (max (a.rows d w) (b.rows d w))
            (shift (B.count w) ((counted K h (union K h a.later b.later)).past d w))
            ≡ max (max (a.rows d w) (shift (B.count w) ((counted K h a.later).past d w)))
            (max (b.rows d w) (shift (B.count w) ((counted K h b.later).past d w)))
        same w =
            let p = (counted K h a.later).past d w in
            let q = (counted K h b.later).past d w in
            let e = ap (λ (x : Clock). x w) (counted-rows K h a.later b.later d) in
            rw e (omega (arith, shift-max (B.count w) p q))

    merge-last : (a b : BookCopy) → (counted_copy K h B (merge_book K h a b)).issue
        ≡ max (counted_copy K h B a).issue (counted_copy K h B b).issue
    unfolding counted_copy merge_book
    merge-last a b =
        let p = (counted K h a.later).issue in
        let q = (counted K h b.later).issue in
        rw (counted-issues K h a.later b.later) (omega (arith, shift-max B.last p q))

    -- The merge of two versions is the merge of their copies counted.
    pub merge-counted : (W k : ℕ) (v w : Version) (a b : BookCopy)
        → CountedAs v (counted_copy K h B a) → CountedAs w (counted_copy K h B b)
        → Good K h k a.later → Good K h k b.later → BlankList a → BlankList b
        → CountedAs (merge W k v w) (counted_copy K h B (merge_book K h a b))
    merge-counted W k v w a b e f ga gb la lb = record {
      issue = merge-issue W k v w ∙ ap₂ max e.issue f.issue ∙ sym (merge-last a b);
      past = fun_ext (λ d.
          merge-past W k v w (unheld-past k v a e ga la) (unheld-past k w b f gb lb) d
          ∙ ap₂ (λ (p q : ℕ → Clock). join (p d) (q d)) e.past f.past
          ∙ sym (merge-row a b d));
    }

    pub book-none : CountedAs unheld (counted_copy K h B (plain_copy_of none))
    unfolding counted_copy
    book-none =
        let z = counted_none K h in
        record {
          issue = omega (arith, shift_none B.last (counted K h none).issue (sym z.issue));
          past = fun_ext (λ d. fun_ext (λ w. omega (
            arith,
            shift_none (B.count w) ((counted K h none).past d w)
                (sym (ap (λ (p : ℕ → Clock). p d w) z.past)),
          )));
        }

    join-none : (d : ℕ) (x : Clock) → join x ((counted_copy K h B (plain_copy_of none)).past d) ≡ x
    unfolding join
    join-none d x =
        fun_ext (λ w. omega (arith, ap (λ (p : ℕ → Clock). p d w) book-none.past))

    -- A row with those of some copies joined in, one after the other: all of them counted.
    pub book-fold : (n : ℕ) (R : Items) (c : ℕ → BookCopy) (d : ℕ) (x : Clock)
        → fold_below n (λ k a. cond (R k) (join a ((counted_copy K h B (c k)).past d)) a) x
        ≡ join x ((counted_copy K h B (read_copy n R c)).past d)
    unfolding fold_below read_copy any_below largest merge_book union join when counted_copy
    book-fold zero R c d x = sym (join-none d x)
    book-fold (suc n) R c d x =
        let low = read_copy n R c in
        rw (book-fold n R c d x)
        (last (R n) (join x ((counted_copy K h B low).past d))
        ∙ join-assoc x ((counted_copy K h B low).past d) ((counted_copy K h B (one (R n))).past d)
        ∙ ap (join x) (sym (merge-row low (one (R n)) d)))
      where
        -- The last copy, if it is one of them.
        one : Bool → BookCopy
        one b = record {
          later = λ i. b && (c n).later i;
          rows = λ d u. when b ((c n).rows d u);
          number = 0;
        }

        last : (b : Bool) (p : Clock) → cond b (join p ((counted_copy K h B (c n)).past d)) p
            ≡ join p ((counted_copy K h B (one b)).past d)
        last true p = refl
        last false p = sym (join-none d p)

-- An issue more changes no count of the copies of before.
pub book-grow : (K : ℕ) (e : Issue) (h : History) (B : Base) → PastLaws K h
    → (c : BookCopy) → Below h c.later → counted_copy K (e ∷ h) B c ≡ counted_copy K h B c
unfolding counted_copy
book-grow K e h B laws c below = rw (counted-grow K e h laws c.later below)
