-- Laws of following a path from layer to layer, over rows of masks.
-- Going: what is left of a path. going-..: a turn.
-- Assumes nothing.
use mathlib.Core.Path.{◌≡◌, ap, ◌∙◌}
use mathlib.Core.Bool.{◌&&◌, So}
use mathlib.Core.List.{List}
use Prim.Native.Nat.{ℕ, zero, suc, ◌+◌, ◌-◌, ◌≤◌, ◌<◌}
use native.Mathlib.Omega.{arith}
use native.Mathlib.Nat.{zero-add}
use lib.Bits.{bit_and}
use lib.ListN.{get_or}
use Rattle.words.specs.Tests.{any_below}
use Rattle.words.proofs.Bools.{and_right}
use Rattle.masks.specs.Mask.{test_bit}
use Rattle.masks.proofs.Bits.{test-and}
use Rattle.masks.proofs.Sets.{test-mask}
use Rattle.paths.specs.Path.{lowest, near, meets, nearest, path_by}
use Rattle.paths.specs.Rows.{leads_by, layer, LayersOf}
use Rattle.paths.proofs.Lowest.{lowest-same}
use Rattle.paths.proofs.Paths.{nearest-meets}

module _ (rows : List ℕ) (n goal : ℕ) where
  -- Of the path p the first i items are known; the k + 1 that are left begin in a mask.
  pub record Going (p : List ℕ) (i k from : ℕ) : Type 0 where
    pub some : So (any_below n (meets n (leads_by rows) (test_bit goal) k (test_bit from)))
    pub rest : (j : ℕ) → get_or p (i + j) 0
        ≡ get_or (path_by n (leads_by rows) (test_bit goal) k (test_bit from)) j 0

  -- The next item: the lowest of the mask and its layer.
  pub going_item : (k from : ℕ)
      → lowest n (test_bit (bit_and from (layer rows n goal k)))
      ≡ nearest n (leads_by rows) (test_bit goal) k (test_bit from)
  unfolding nearest layer
  going_item k from = lowest-same n _ _ (λ i l. test-and from _ i
      ∙ ap (λ b. test_bit from i && b) (test-mask n (near n (leads_by rows) (test_bit goal) k) i
      l))

  pub going_low : (p : List ℕ) (i k from : ℕ) → Going p i k from
      → nearest n (leads_by rows) (test_bit goal) k (test_bit from) < n
  going_low p i k from g =
      (nearest-meets n (leads_by rows) (test_bit goal) k (test_bit from) g.some).0

  pub going_first : (p : List ℕ) (i k from : ℕ) → Going p i k from
      → get_or p i 0 ≡ nearest n (leads_by rows) (test_bit goal) k (test_bit from)
  unfolding path_by
  going_first p i zero from g = ap (λ (j : ℕ). get_or p j 0) (omega arith) ∙ g.rest 0
  going_first p i (suc k) from g = ap (λ (j : ℕ). get_or p j 0) (omega arith) ∙ g.rest 0

  pub going_next : (p : List ℕ) (i k from : ℕ) → Going p i (suc k) from
      → let t = nearest n (leads_by rows) (test_bit goal) (suc k) (test_bit from) in
      Going p (i + 1) k (get_or rows t 0)
  unfolding path_by near leads_by
  going_next p i k from g =
      let t = nearest n (leads_by rows) (test_bit goal) (suc k) (test_bit from) in
      let r = nearest-meets n (leads_by rows) (test_bit goal) (suc k) (test_bit from) g.some in
      record {
        some = and_right (test_bit from t) (near n (leads_by rows) (test_bit goal) (suc k) t) r.1;
        rest = λ j. ap (λ (x : ℕ). get_or p x 0) (omega arith) ∙ g.rest (suc j);
      }

  -- ---- a turn of the loop, at item i of a path of m edges

  pub going_start : (m start : ℕ)
      → So (any_below n (meets n (leads_by rows) (test_bit goal) m (test_bit start)))
      → Going (path_by n (leads_by rows) (test_bit goal) m (test_bit start)) 0 (m - 0) start
  going_start m start h =
      let e : m - 0 ≡ m = omega arith in
      let p = path_by n (leads_by rows) (test_bit goal) m (test_bit start) in
      rw e (record { some = h; rest = λ j. ap (λ (x : ℕ). get_or p x 0) (zero-add j) })

  pub going_on : (p : List ℕ) (m i from item : ℕ) → Going p i (m - i) from
      → item ≡ nearest n (leads_by rows) (test_bit goal) (m - i) (test_bit from) → i + 1 ≤ m
      → Going p (i + 1) (m - (i + 1)) (get_or rows item 0)
  going_on p m i from item g q h =
      let k = m - (i + 1) in
      let e : m - i ≡ suc k = omega arith in
      rw (rw e at q) (going_next p i k from (rw e at g))

-- The item that is found is the next one.
pub going_found : (rows : List ℕ) (n : ℕ) (masks : List ℕ) (m i from item : ℕ)
    → LayersOf rows n masks → m < n
    → item ≡ lowest n (test_bit (bit_and from (get_or masks (m - i) 0)))
    → item ≡ nearest n (leads_by rows) (test_bit (get_or masks 0 0)) (m - i) (test_bit from)
going_found rows n masks m i from item L h e =
    e ∙ ap (λ (x : ℕ). lowest n (test_bit (bit_and from x))) (L.at (m - i) (omega arith))
    ∙ going_item rows n (get_or masks 0 0) (m - i) from
