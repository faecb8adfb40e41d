-- Sizes read off for some counts: the examples of other crates go by the definitions.
-- Assumes nothing.
use mathlib.Core.Path.{◌≡◌, refl}
use mathlib.Core.List.{[], ◌∷◌, map}
use Rattle.sizes.specs.Bounds.{counts_of, max_total, past_size, version_size, place_size, site_size, writer_size, run_size, tail_size, master_at, sites_at, writers_at, runs_at, tail_at, total_of, sizes_of, site_at, stale_at, allowance_at, run_at_of, mark_at, read_at_of, snapshot_at, round_at_of, may_hold_at, may_save_at}

pub record Sized : Type 0 where
  -- Two keys, two writers, a site and a run.
  pub small : sizes_of (counts_of 2 2 1 1)
      ≡ record { master = 10; sites = 22; writers = 36; runs = 46; tail = 100; total = 104 }
  -- The smallest store, that of case A, another one, the largest.
  pub totals : map total_of (counts_of 1 1 1 1 ∷ counts_of 2 2 2 1 ∷ counts_of 3 2 2 2 ∷ [])
      ≡ 59 ∷ 119 ∷ 261 ∷ []
  pub full : total_of (counts_of 32 16 8 8) ≡ max_total
  -- The marks of two sites, and their allowances.
  pub marks : let z = counts_of 2 2 2 1 in
      stale_at z (site_at z 0) ∷ stale_at z (site_at z 1)
      ∷ allowance_at z (site_at z 0) ∷ allowance_at z (site_at z 1) ∷ []
      ≡ 34 ∷ 48 ∷ 35 ∷ 49 ∷ []
  -- The round, then the masks of a site and of two writers.
  pub tail : let z = counts_of 2 2 1 1 in
      round_at_of z ∷ may_hold_at z 0 ∷ may_save_at z 0 ∷ may_save_at z 1 ∷ [] ≡ 100 ∷ 101 ∷ 102 ∷
      103 ∷ []
  -- The mark, and both branches (CR 10).
  pub branches : let z = counts_of 1 1 1 1 in
      read_at_of z 0 0 ∷ snapshot_at z 0 0 ∷ mark_at z 0 ∷ read_at_of z 0 1 ∷ snapshot_at z 0 1 ∷
      []
      ≡ 23 ∷ 48 ∷ 51 ∷ 52 ∷ 53 ∷ []

sized : Sized
unfolding sizes_of past_size version_size place_size site_size writer_size run_size tail_size
    master_at sites_at writers_at runs_at tail_at total_of site_at run_at_of mark_at read_at_of
    snapshot_at
sized = record {
  small = refl;
  totals = refl;
  full = refl;
  marks = refl;
  tail = refl;
  branches = refl;
}
