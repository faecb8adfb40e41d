-- Where the runs of a store and the masks behind them lie, and the test of the store from those of
-- its parts.
-- Assumes nothing.
use mathlib.Core.Path.{◌≡◌, refl, sym, ap, ap₂}
use mathlib.Core.Bool.{Bool, So, ◌&&◌}
use mathlib.Core.List.{List}
use Prim.Native.Nat.{ℕ, ◌≤◌, ◌<◌}
use native.Mathlib.Omega.{arith}
use lib.ListN.{length}
use Rattle.words.specs.Tests.{all_below}
use Rattle.words.proofs.Tests.{all_same}
use Rattle.sizes.specs.Bounds.{version_limit, header_size, run_size, master_at, tail_at, site_at, may_hold_at, may_save_at, run_at_of}
use Rattle.sizes.specs.declared.Counts.{Counts}
use Rattle.sizes.proofs.Offsets.{ordered, run_lies, may-hold-lies, may-save-lies}
use Rattle.model.specs.Form.{place_formed, site_formed, run_formed, tail_formed, well_formed}
use Rattle.layout.specs.Buffer.{shaped}
use Rattle.layout.specs.Reading.{read_word_of, read_place, read_site, read_run, read_tail_of, counts_in, store_of}
use Rattle.layout.proofs.Readings.{site_in, run_in, may_hold-word}
use Rattle.layout.proofs.Shapes.{shaped_out}
use Rattle.form.specs.Parts.{RunArea, StoreArea}

pub run-area : (len : ℕ) (z : Counts) → StoreArea len z → (r : ℕ) → r < z.runs
    → RunArea len z (run_at_of z r)
unfolding run_size
run-area len z A r h =
    let q = ordered z A.ranged in
    let e = run_lies z r h in
    record { ranged = A.ranged; low = omega arith; fits = omega arith }

-- The masks of what a site may hold and a writer may save lie in the buffer.
module _ (len : ℕ) (z : Counts) (A : StoreArea len z) where
  pub hold_in : (o : ℕ) → o < z.sites
      → (may_hold_at z o < version_limit) × (may_hold_at z o < len)
  hold_in o h =
      let q = ordered z A.ranged in
      let e = may-hold-lies z o h in (omega arith, omega (arith, A.fits))

  pub save_in : (w : ℕ) → w < z.writers
      → (may_save_at z w < version_limit) × (may_save_at z w < len)
  save_in w h =
      let q = ordered z A.ranged in
      let e = may-save-lies z w h in (omega arith, omega (arith, A.fits))

-- A buffer of the right shape holds its store.
pub shaped-area : (l : List ℕ) → So (shaped l) → StoreArea (length l) (counts_in l)
shaped-area l p = let S = shaped_out l p in record { ranged = S.counts; fits = S.fits }

pub shaped-long : (l : List ℕ) → So (shaped l) → header_size ≤ length l
shaped-long l p =
    let S = shaped_out l p in
    let q = ordered (counts_in l) S.counts in omega (arith, S.fits)

pub store-test : (l : List ℕ) → let z = counts_in l in
    place_formed z (read_place z l (master_at z))
    && (all_below z.sites (λ o.
    site_formed z (read_place z l (master_at z)) (read_word_of l (may_hold_at z o))
    (read_site z l (site_at z o)))
    && (all_below z.runs (λ r. run_formed z (read_run z l (run_at_of z r)))
    && tail_formed z (read_tail_of z l (tail_at z))))
    ≡ well_formed (store_of l)
unfolding well_formed store_of
store-test l =
    let z = counts_in l in
    let master = read_place z l (master_at z) in
    ap (λ (t : Bool). place_formed z master && t) (ap₂ ◌&&◌
    (all_same z.sites
    (λ o. site_formed z master (read_word_of l (may_hold_at z o)) (read_site z l (site_at z o)))
    (λ o. site_formed z master ((store_of l).tail.may_hold o) ((store_of l).site o))
    (λ o h. ap₂ (site_formed z master) (sym (may_hold-word l z refl o h))
    (sym (site_in l z refl o h))))
    (ap (λ (t : Bool). t && tail_formed z (read_tail_of z l (tail_at z)))
    (all_same z.runs (λ r. run_formed z (read_run z l (run_at_of z r)))
    (λ r. run_formed z ((store_of l).run r)) (λ r h. ap (run_formed z)
    (sym (run_in l z refl r h))))))
