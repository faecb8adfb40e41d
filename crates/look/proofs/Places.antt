-- The places that a look names, in a buffer.
-- limit-..: how many there are. place_in: what is read there. place-area: where it lies.
-- row-window: the counts of a row.
-- Assumes nothing.
use mathlib.Core.Path.{◌≡◌, ap, ◌∙◌}
use mathlib.Core.Bool.{false, So}
use mathlib.Core.List.{List}
use Prim.Native.Nat.{ℕ, ◌+◌, ◌*◌, ◌≤◌, ◌<◌}
use native.Mathlib.Omega.{arith}
use lib.Dec.{eqb}
use Rattle.words.specs.Lists.{window}
use Rattle.words.proofs.Bools.{test}
use Rattle.words.proofs.Lists.{upto_in}
use Rattle.sizes.specs.declared.Counts.{Counts}
use Rattle.sizes.specs.Bounds.{past_offset, Ranged, total_of, key_at, row_at}
use Rattle.model.specs.Calls.Look.{look_place, row_numbers}
use Rattle.layout.specs.Words.{clock_words}
use Rattle.layout.specs.Reading.{read_clock, read_past_of, read_version, read_place, counts_in, store_of}
use Rattle.layout.proofs.Parts.{clock-laws}
use Rattle.layout.proofs.Places.{place_at_lem}
use Rattle.layout.proofs.Readings.{master_in, cache_in, snapshot_in}
use Rattle.version.specs.Places.{Area}
use Rattle.version.proofs.Stores.{master-area, site-area, snapshot-area}
use Rattle.model.specs.Calls.Look.{look_limit}
use Rattle.look.specs.Places.{place_at}

-- ---- the three kinds

module _ (z : Counts) (p : ℕ) (a : eqb p 0 ≡ false) where
  pub limit_sites : So (eqb p 1) → look_limit z p ≡ z.sites
  unfolding look_limit
  limit_sites b = rw (a, b)

  pub limit_runs : eqb p 1 ≡ false → look_limit z p ≡ z.runs
  unfolding look_limit
  limit_runs b = rw (a, b)

pub place_in : (l : List ℕ) (z : Counts) → z ≡ counts_in l → (p i : ℕ) → i < look_limit z p
    → look_place (store_of l) p i ≡ read_place z l (place_at z p i)
unfolding look_place place_at
place_in l z e p i h =
    test (eqb p 0) (λ a. rw a (master_in l z e))
    (λ a. test (eqb p 1)
    (λ b. rw (a, b) (cache_in l z e i (omega (arith, limit_sites z p a b))))
    (λ b. rw (a, b) (snapshot_in l z e i 0 (omega (arith, limit_runs z p a b)))))

pub place-area : (len : ℕ) (z : Counts) → Ranged z → total_of z ≤ len
    → (p i : ℕ) → i < look_limit z p → Area len z (place_at z p i)
unfolding place_at
place-area len z R f p i h =
    test (eqb p 0) (λ a. rw a (master-area len z R f))
    (λ a. test (eqb p 1)
    (λ b. rw (a, b) (site-area len z R f i (omega (arith, limit_sites z p a b))))
    (λ b. rw (a, b) (snapshot-area len z R f i 0 (omega (arith, limit_runs z p a b)))))

-- ---- a row

pub row-window : (z : Counts) (l : List ℕ) (at k d : ℕ) → k < z.keys → d < z.keys
    → row_numbers z.writers ((read_place z l at k).past d)
    ≡ window l (row_at z (key_at z at k) d) z.writers
unfolding row_numbers clock_words read_version read_past_of row_at
row-window z l at k d h i =
    let v = key_at z at k in
    let n = z.writers in
    rw (place_at_lem z l at k h)
    (ap (row_numbers n)
    (upto_in z.keys (λ w. 0) (λ d. read_clock z l (v + past_offset + d * n)) d i)
    ∙ (clock-laws z).round l (v + past_offset + d * n)
    ∙ ap (λ (a : ℕ). window l a n) (omega arith))
