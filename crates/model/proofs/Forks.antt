-- Fork and join that are not refused, and the branches of a run that has changed.
-- Forkable, Joinable: what they have passed. join-still: a join that doesn't break moves nothing.
-- done-branch: branch m after a job on branch n; done-reads: what both have read.
-- Assumes nothing.
use mathlib.Core.Path.{◌≡◌, refl, sym, ap, ◌∙◌}
use mathlib.Core.Bool.{Bool, true, false, not, So, ◌&&◌, ◌||◌}
use mathlib.Core.Logic.{◌⊎◌, inl, inr}
use Prim.Native.Nat.{ℕ, ◌<◌}
use native.Mathlib.Omega.{arith}
use lib.Bits.{bit_or}
use lib.Dec.{eqb, leb}
use Rattle.words.specs.Tests.{any_below}
use Rattle.words.proofs.Bools.{test, or-none, leb-gt, eqb-eq, eq-eqb, eqb-ne}
use Rattle.words.proofs.Tests.{any_none}
use Rattle.masks.specs.Mask.{test_bit}
use Rattle.masks.proofs.Bits.{test-or, test-none, mask-ext}
use Rattle.masks.proofs.Sets.{mask-no}
use Rattle.model.specs.Algebra.{Place}
use Rattle.model.specs.Version.{Version}
use Rattle.model.specs.Store.{Branch, Run, forked_mark, branch_of, Store, with_job_done}
use Rattle.model.specs.Outcome.{allowed, fork_row, join_row, run_cause}
use Rattle.model.specs.Stays.{moved_keys, moved_set}
use Rattle.model.specs.Step.{off_branch}
use Rattle.model.specs.Calls.Fork.{fork_cause, join_cause, join_moved}
use Rattle.model.proofs.Outcomes.{no-cause, no-lack}
use Rattle.model.proofs.Plans.{read_both}

pub record Forkable (s : Store) (r : ℕ) : Type 0 where
  pub run_in : r < s.counts.runs
  pub open_run_lem : So (allowed fork_row (s.run r).state)
  pub single : (s.run r).mark ≡ 0

pub forkable : (s : Store) (r : ℕ) → fork_cause s r ≡ 0 → Forkable s r
unfolding fork_cause run_cause
forkable s r e =
    let a = no-cause (leb s.counts.runs r) 3 _ (omega arith) e in
    let b = no-lack (allowed fork_row (s.run r).state) 4 _ (omega arith) a.1 in
    let c = no-lack (eqb (s.run r).mark 0) 14 0 (omega arith) b.1 in
    record {
      run_in = leb-gt s.counts.runs r a.0;
      open_run_lem = b.0;
      single = eqb-eq _ _ c.0;
    }

pub record Joinable (s : Store) (r : ℕ) : Type 0 where
  pub run_in : r < s.counts.runs
  pub open_run_lem : So (allowed join_row (s.run r).state)
  pub forked : (s.run r).mark ≡ forked_mark

pub joinable : (s : Store) (r : ℕ) → join_cause s r ≡ 0 → Joinable s r
unfolding join_cause run_cause
joinable s r e =
    let a = no-cause (leb s.counts.runs r) 3 _ (omega arith) e in
    let b = no-lack (allowed join_row (s.run r).state) 4 _ (omega arith) a.1 in
    let c = no-lack (eqb (s.run r).mark forked_mark) 14 0 (omega arith) b.1 in
    record {
      run_in = leb-gt s.counts.runs r a.0;
      open_run_lem = b.0;
      forked = eqb-eq _ _ c.0;
    }

-- Where a join doesn't break, no key that was read has moved.
pub join-still : (s : Store) (r : ℕ) → any_below s.counts.keys (join_moved s r) ≡ false
    → moved_set s.counts (s.run r).branch (s.run r).second ≡ 0
unfolding join_moved moved_set
join-still s r e =
    mask-no s.counts.keys (moved_keys s.counts (s.run r).branch (s.run r).second)
    (any_none s.counts.keys _ e)

-- ---- branches

-- A step that isn't refused is on line 0 or 1.
pub on-either : (mark n : ℕ) → off_branch mark n ≡ false → (n ≡ 0) ⊎ (n ≡ 1)
unfolding off_branch
on-either mark n e =
    let low = leb-gt 2 n (or-none (leb 2 n) (eqb n 1 && not (eqb mark forked_mark)) e).0 in
    test (eqb n 0) (λ y. inl (eqb-eq n 0 y)) (λ y. inr (omega (arith, eqb-ne n 0 y, low)))

-- One on line 1 is of a forked run.
pub on-second : (mark n : ℕ) → off_branch mark n ≡ false → eqb n 0 ≡ false → mark ≡ forked_mark
unfolding off_branch
on-second mark n e f =
    let o = or-none (leb 2 n) (eqb n 1 && not (eqb mark forked_mark)) e in
    let one : n ≡ 1 = omega (arith, eqb-ne n 0 f, leb-gt 2 n o.0) in
    eqb-eq mark forked_mark (not-false (rw (eq-eqb n 1 one) at o.1))
  where
    not-false : {b : Bool} → not b ≡ false → So b
    not-false {b = true} p = refl
    not-false {b = false} p = sym p

-- Branch m after a job on branch n: that branch is b, the other as it was.
pub done-branch {ℓ} : (P : Branch → Type ℓ) (a : Run) (n done : ℕ) (b : Branch) (m : ℕ)
    → (eqb m 0 ≡ eqb n 0 → P b) → (eqb m 0 ≡ not (eqb n 0) → P (branch_of m a))
    → P (branch_of m (with_job_done a n done b))
unfolding with_job_done
done-branch P a n done b m f g =
    test (eqb m 0)
    (λ p. test (eqb n 0) (λ q. rw (p, q) (f (p ∙ sym q)))
    (λ q. let h = g (p ∙ sym (ap not q)) in rw (p, q) (rw p at h)))
    (λ p. test (eqb n 0) (λ q. let h = g (p ∙ sym (ap not q)) in rw (p, q) (rw p at h))
    (λ q. rw (p, q) (f (p ∙ sym q))))

-- ---- read masks

-- A law of bits is one of masks.
or-into : (a b c : ℕ) → bit_or (bit_or a c) b ≡ bit_or (bit_or a b) c
or-into a b c =
    mask-ext _ _ (λ j. test-or (bit_or a c) b j ∙ ap (λ x. x || test_bit b j) (test-or a c j)
    ∙ bits (test_bit a j) (test_bit b j) (test_bit c j)
    ∙ sym (test-or (bit_or a b) c j ∙ ap (λ x. x || test_bit c j) (test-or a b j)))
  where
    bits : (x y z : Bool) → (x || z) || y ≡ (x || y) || z
    bits true y z = refl
    bits false true true = refl
    bits false true false = refl
    bits false false true = refl
    bits false false false = refl

or-behind : (a b c : ℕ) → bit_or a (bit_or b c) ≡ bit_or (bit_or a b) c
or-behind a b c =
    mask-ext _ _ (λ j. test-or a (bit_or b c) j ∙ ap (λ x. test_bit a j || x) (test-or b c j)
    ∙ bits (test_bit a j) (test_bit b j) (test_bit c j)
    ∙ sym (test-or (bit_or a b) c j ∙ ap (λ x. x || test_bit c j) (test-or a b j)))
  where
    bits : (x y z : Bool) → x || (y || z) ≡ (x || y) || z
    bits true y z = refl
    bits false y z = refl

pub or-zero : (a : ℕ) → bit_or a 0 ≡ a
or-zero a = mask-ext _ _ (λ j. test-or a 0 j ∙ rw (test-none j) (bits (test_bit a j)))
  where
    bits : (x : Bool) → x || false ≡ x
    bits true = refl
    bits false = refl

pub or_same : (a : ℕ) → bit_or a a ≡ a
or_same a = mask-ext _ _ (λ j. test-or a a j ∙ bits (test_bit a j))
  where
    bits : (x : Bool) → x || x ≡ x
    bits true = refl
    bits false = refl

-- After a job on branch n both branches together have read its reads too.
pub done-reads : (a : Run) (n done reads : ℕ) (p : Place Version)
    → read_both (with_job_done a n done (record {
      read = bit_or (branch_of n a).read reads;
      snapshot = p;
    })) ≡ bit_or (read_both a) reads
unfolding with_job_done
done-reads a n done reads p =
    test (eqb n 0) (λ y. rw y (or-into a.branch.read a.second.read reads))
    (λ y. rw y (or-behind a.branch.read a.second.read reads))
