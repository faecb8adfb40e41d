-- Laws of the form of a run's branches ("lines"): a read mask and a card each.
-- on_both, each-out, each_in: what holds of both holds of branch n. Snapshot: the form of one.
-- Vacant: one of zeros; none-vacant, no-branch, vacant-snapshot. Marked: the second is one unless
-- the run is forked.
-- Assumes nothing.
use mathlib.Core.Path.{◌≡◌, refl, ap}
use mathlib.Core.Bool.{Bool, false, not, So, ◌&&◌, ◌||◌}
use mathlib.Core.Logic.{◌⊎◌, inl, inr}
use Prim.Native.Nat.{ℕ, ◌≤◌, ◌<◌}
use lib.Dec.{eqb, leb}
use Rattle.words.specs.Tests.{all_below}
use Rattle.words.proofs.Bools.{test, clash, ◌∙˙◌, and_intro, and_left, and_right, or_left, or_right, or_cases, not_elim, not-intro, leb-le, le-leb, eqb-eq, eq-eqb}
use Rattle.words.proofs.Tests.{all-intro, all-at}
use Rattle.masks.specs.Mask.{test_bit}
use Rattle.masks.proofs.Bits.{test-none}
use Rattle.sizes.specs.declared.Counts.{Counts}
use Rattle.model.specs.Algebra.{implies}
use Rattle.model.specs.Version.{held}
use Rattle.model.specs.Store.{Job, Branch, Run, forked_mark, joined_mark, branch_of, no_branch, planned}
use Rattle.model.specs.Form.{zero_version, version_formed, place_formed, zero_branch, mark_formed, snapshot_formed}
use Rattle.model.specs.Calls.Admit.{each_branch}
use Rattle.model.proofs.Cuts.{implies_in, implies-out}
use Rattle.model.proofs.FormedPlaces.{PlaceFormed, place_out, place_in, zero-version}

pub on_both {ℓ} : (P : Branch → Type ℓ) (a : Run) → P a.branch → P a.second → (n : ℕ)
    → P (branch_of n a)
on_both P a p q n = test (eqb n 0) (λ y. rw y p) (λ y. rw y q)

-- A test of both.
pub each-out : (a : Run) (p : Branch → Bool) → So (each_branch a p) → (n : ℕ)
    → So (p (branch_of n a))
unfolding each_branch
each-out a p h =
    on_both (λ b. So (p b)) a (and_left (p a.branch) (p a.second) h)
    (and_right (p a.branch) (p a.second) h)

pub each_in : (a : Run) (p : Branch → Bool) → ((n : ℕ) → So (p (branch_of n a)))
    → So (each_branch a p)
unfolding each_branch
each_in a p f = and_intro (f 0) (f 1)

-- ---- one branch

-- A snapshot that carries planned keys, and all that are read.
pub record Snapshot (z : Counts) (n : ℕ) (job : ℕ → Job) (b : Branch) : Type 0 where
  pub place : PlaceFormed z b.snapshot
  pub carried : (k : ℕ) → k < z.keys → So (held (b.snapshot k)) → So (planned n job k)
  pub has : (k : ℕ) → k < z.keys → So (test_bit b.read k) → So (held (b.snapshot k))

-- What is asked of key k.
abbrev key_test : Run → Branch → ℕ → Bool
key_test a b k =
    implies (held (b.snapshot k)) (planned a.jobs a.job k)
    && implies (test_bit b.read k) (held (b.snapshot k))

pub snapshot-out : (z : Counts) (a : Run) (b : Branch) → So (snapshot_formed z a b)
    → Snapshot z a.jobs a.job b
unfolding snapshot_formed
snapshot-out z a b p =
    let f = place_formed z b.snapshot in
    let each = all-at z.keys (key_test a b)
    (and_right f (all_below z.keys (key_test a b)) p) in
    let plan : ℕ → Bool = planned a.jobs a.job in
    record {
      place = place_out z b.snapshot (and_left f (all_below z.keys (key_test a b)) p);
      carried = λ k h. implies-out (held (b.snapshot k)) (plan k) (and_left
          (implies (held (b.snapshot k)) (plan k))
          (implies (test_bit b.read k) (held (b.snapshot k))) (each k h));
      has = λ k h. implies-out (test_bit b.read k) (held (b.snapshot k))
          (and_right (implies (held (b.snapshot k)) (plan k))
          (implies (test_bit b.read k) (held (b.snapshot k))) (each k h));
    }

pub snapshot_in : (z : Counts) (a : Run) (b : Branch) → Snapshot z a.jobs a.job b
    → So (snapshot_formed z a b)
unfolding snapshot_formed
snapshot_in z a b S =
    and_intro (place_in z b.snapshot S.place)
    (all-intro z.keys (key_test a b) (λ k h. and_intro
    (implies_in (held (b.snapshot k)) (planned a.jobs a.job k) (S.carried k h))
    (implies_in (test_bit b.read k) (held (b.snapshot k)) (S.has k h))))

-- ---- a branch of zeros

pub record Vacant (z : Counts) (b : Branch) : Type 0 where
  pub read : b.read ≡ 0
  pub none : (k : ℕ) → k < z.keys → held (b.snapshot k) ≡ false
  pub zeros : (k : ℕ) → k < z.keys → So (zero_version z (b.snapshot k))

pub vacant-out : (z : Counts) (b : Branch) → So (zero_branch z b) → Vacant z b
unfolding zero_branch
vacant-out z b p =
    let read = eqb b.read 0 in
    let out : ℕ → Bool = λ k. not (held (b.snapshot k)) in
    let zeros : ℕ → Bool = λ k. zero_version z (b.snapshot k) in
    let place = all_below z.keys (λ k. out k && zeros k) in
    let each = all-at z.keys (λ k. out k && zeros k) (and_right read place p) in
    record {
      read = eqb-eq b.read 0 (and_left read place p);
      none = λ k l. not_elim (and_left (out k) (zeros k) (each k l));
      zeros = λ k l. and_right (out k) (zeros k) (each k l);
    }

pub vacant_in : (z : Counts) (b : Branch) → Vacant z b → So (zero_branch z b)
unfolding zero_branch
vacant_in z b B =
    and_intro (eq-eqb _ _ B.read)
    (all-intro z.keys (λ k. not (held (b.snapshot k)) && zero_version z (b.snapshot k))
    (λ k l. and_intro (not-intro (B.none k l)) (B.zeros k l)))

pub none-vacant : (z : Counts) → Vacant z no_branch
unfolding held
none-vacant z = record {
  read = refl;
  none = λ k l. refl;
  zeros = λ k l. zero-version z;
}

pub no-branch : (z : Counts) → So (zero_branch z no_branch)
no-branch z = vacant_in z no_branch (none-vacant z)

-- It is in form.
pub vacant-snapshot : {z : Counts} {b : Branch} (n : ℕ) (job : ℕ → Job) → Vacant z b
    → Snapshot z n job b
unfolding version_formed
vacant-snapshot n job B = record {
  place = λ k l. rw (B.none k l) (B.zeros k l);
  carried = λ k l h. clash h (B.none k l);
  has = λ k l p. clash (ap (λ (m : ℕ). test_bit m k) B.read ∙˙ p) (test-none k);
}

-- ---- the mark

-- "these two zero unless the mark is 1"
pub record Marked (z : Counts) (a : Run) : Type 0 where
  pub high : a.mark ≤ joined_mark
  pub single : (a.mark ≡ forked_mark) ⊎ Vacant z a.second

pub mark-out : (z : Counts) (a : Run) → So (mark_formed z a) → Marked z a
unfolding mark_formed
mark-out z a p =
    let h = leb a.mark joined_mark in
    let f = eqb a.mark forked_mark in
    let b = zero_branch z a.second in
    record {
      high = leb-le _ _ (and_left h (f || b) p);
      single = elim (or_cases f b (and_right h (f || b) p)) [
        | inl y ↦ inl (eqb-eq _ _ y)
        | inr y ↦ inr (vacant-out z a.second y)
      ];
    }

pub mark_in : (z : Counts) (a : Run) → Marked z a → So (mark_formed z a)
unfolding mark_formed
mark_in z a M =
    and_intro (le-leb _ _ M.high) (elim M.single [
      | inl e ↦ or_left (zero_branch z a.second) (eq-eqb _ _ e)
      | inr B ↦ or_right (eqb a.mark forked_mark) (vacant_in z a.second B)
    ])
