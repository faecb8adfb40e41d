-- Loops over the keys that change a writer.
-- taken-fold: a writer after all turns of `takes`.
-- rows-fold, rows-count: past and count after all turns of `row_set`.
-- Assumes nothing.
use mathlib.Core.Path.{◌≡◌, refl, ap, ◌∙◌}
use mathlib.Core.Bool.{Bool, true, false, cond, ◌&&◌}
use Prim.Native.Nat.{ℕ, zero, suc, ◌≤◌, ◌<◌}
use native.Mathlib.Nat.{not-suc-le-zero}
use native.Mathlib.Omega.{arith}
use lib.Dec.{eqb}
use Rattle.words.specs.Numbers.{fold_below}
use Rattle.words.specs.Lists.{put_at}
use Rattle.words.proofs.Tests.{below-cases}
use Rattle.words.proofs.Lists.{put_at_same, put_at_other}
use Rattle.masks.specs.Mask.{test_bit}
use Rattle.clock.specs.Clock.{Clock}
use Rattle.model.specs.Algebra.{Place}
use Rattle.model.specs.Version.{Version, join_pasts}
use Rattle.model.specs.Store.{Writer}
use Rattle.model.specs.Issue.{taken_in, rows_set}
use Rattle.issue.specs.Saves.{with_past, takes, row_set}

-- ---- a writer

-- Turns that change the past alone.
past-fold : (n : ℕ) (g : ℕ → (ℕ → Clock) → ℕ → Clock) (x : Writer)
    → fold_below n (λ k x. with_past x (g k x.past)) x
    ≡ with_past x (fold_below n g x.past)
unfolding fold_below
past-fold zero g x = refl
past-fold (suc n) g x = ap (λ (y : Writer). with_past y (g n y.past)) (past-fold n g x)

module _ (read : ℕ) (p : Place Version) where
  taking : ℕ → (ℕ → Clock) → ℕ → Clock
  taking k q = cond (test_bit read k) (join_pasts q (p k).past) q

  taken-rows : (n : ℕ) (past : ℕ → Clock) → fold_below n taking past ≡ taken_in n read p past
  unfolding fold_below taking taken_in
  taken-rows zero past = refl
  taken-rows (suc n) past =
      ap (taking n) (taken-rows n past) ∙ one (test_bit read n) (taken_in n read p past)
    where
      one : (b : Bool) (q : ℕ → Clock)
          → cond b (join_pasts q (p n).past) q
          ≡ (λ d. cond b (join_pasts q (p n).past d) (q d))
      one true q = refl
      one false q = refl

  pub taken-fold : (n : ℕ) (x : Writer)
      → fold_below n (takes read p) x ≡ with_past x (taken_in n read p x.past)
  unfolding taking
  taken-fold n x = past-fold n taking x ∙ ap (with_past x) (taken-rows n x.past)

module _ (S w c : ℕ) where
  setting : ℕ → (ℕ → Clock) → ℕ → Clock
  setting k q = cond (test_bit S k) (put_at q k (put_at (q k) w c)) q

  rows-high : (n : ℕ) (past : ℕ → Clock) (d : ℕ) → n ≤ d → fold_below n setting past d ≡ past d
  unfolding fold_below setting
  rows-high zero past d h = refl
  rows-high (suc n) past d h = go (test_bit S n) (rows-high n past d (omega arith))
    where
      q : ℕ → Clock
      q = fold_below n setting past

      go : (b : Bool) → q d ≡ past d → cond b (put_at q n (put_at (q n) w c)) q d ≡ past d
      go true e = put_at_other q n (put_at (q n) w c) d (λ i. omega arith) ∙ e
      go false e = e

  rows-low : (n : ℕ) (past : ℕ → Clock) (d : ℕ) → d < n
      → fold_below n setting past d ≡ cond (test_bit S d) (put_at (past d) w c) (past d)
  unfolding fold_below setting
  rows-low zero past d h = absurd (not-suc-le-zero h)
  rows-low (suc n) past d h =
      below-cases d n h (λ e. rw e (last (test_bit S n) (rows-high n past n (omega arith))))
      (λ i. low (test_bit S n) i (rows-low n past d i))
    where
      q : ℕ → Clock
      q = fold_below n setting past

      low : (b : Bool) → d < n → q d ≡ cond (test_bit S d) (put_at (past d) w c) (past d)
          → cond b (put_at q n (put_at (q n) w c)) q d
          ≡ cond (test_bit S d) (put_at (past d) w c) (past d)
      low true i e = put_at_other q n (put_at (q n) w c) d (λ j. omega arith) ∙ e
      low false i e = e

      last : (b : Bool) → q n ≡ past n
          → cond b (put_at q n (put_at (q n) w c)) q n ≡ cond b (put_at (past n) w c) (past n)
      last true e = put_at_same q n (put_at (q n) w c) ∙ ap (λ (r : Clock). put_at r w c) e
      last false e = e

  -- The rows below n, as the paper's sentence has them.
  pub rows-fold : (n : ℕ) (x : Writer) (d u : ℕ) → d < n
      → (fold_below n (row_set S w c) x).past d u ≡ rows_set S w c x.past d u
  unfolding put_at setting rows_set
  rows-fold n x d u h =
      ap (λ (y : Writer). y.past d u) (past-fold n setting x)
      ∙ ap (λ (r : Clock). r u) (rows-low n x.past d h) ∙ one (test_bit S d)
    where
      one : (b : Bool)
          → cond b (put_at (x.past d) w c) (x.past d) u ≡ cond (b && eqb u w) c (x.past d u)
      one true = refl
      one false = refl

  pub rows-count : (n : ℕ) (x : Writer) → (fold_below n (row_set S w c) x).count ≡ x.count
  unfolding setting
  rows-count n x = ap (λ (y : Writer). y.count) (past-fold n setting x)
