-- `Sizes::of` gives the offsets and the total: every sum and product is below its largest value.
-- Assumes nothing.
-- The largest products of four counts.
use mathlib.Core.Path.{refl}
use Prim.Native.Nat.{ℕ, ◌+◌, ◌*◌, ◌≤◌}
use native.Mathlib.Omega.{arith}
use Rattle.sizes.specs.Bounds.{Ranged, counts_of, max_total, past_offset, writer_past_offset, site_rest, past_size, version_size, place_size, site_size, writer_size, run_size, tail_size, master_at, sites_at, writers_at, runs_at, tail_at, total_of, sizes_of}
use Rattle.sizes.specs.Runs.{snapshot_offset, second_offset}
use Rattle.sizes.proofs.Offsets.{largest}
use Rattle.sizes.proofs.Sizes.of.Goals as goal

most : (k w n p : ℕ) → Ranged (counts_of k w n p)
    → let place = k * (past_offset + k * w) in
    (place ≤ 16448) × (n * (place + site_rest) ≤ max_total) × (k * w ≤ 512)
    × (w * (writer_past_offset + k * w) ≤ 8208)
    × (p * (snapshot_offset + place + (second_offset + place)) ≤ 263408)
unfolding past_size version_size place_size site_size writer_size run_size
most k w n p R =
    let z = counts_of k w n p in
    let m = largest z R in
    (m.place, omega (arith, m.sites), m.past, m.writers, m.runs)

pub returns : goal.returns
unfolding past_size version_size place_size site_size writer_size run_size master_at sites_at
    writers_at
    runs_at tail_size tail_at total_of sizes_of
returns c = refl

pub overflow_mul-past : goal.overflow_mul-past
overflow_mul-past c = omega (arith, c.requires, most _ _ _ _ c.requires)

pub overflow_add-place : goal.overflow_add-place
overflow_add-place c = omega (arith, c.requires, most _ _ _ _ c.requires)

pub overflow_mul-place : goal.overflow_mul-place
overflow_mul-place c = omega (arith, c.requires, most _ _ _ _ c.requires)

pub overflow_add-sites_at : goal.overflow_add-sites_at
overflow_add-sites_at c = omega (arith, c.requires, most _ _ _ _ c.requires)

pub overflow_add-writers_at : goal.overflow_add-writers_at
overflow_add-writers_at c = omega (arith, c.requires, most _ _ _ _ c.requires)

pub overflow_mul-writers_at : goal.overflow_mul-writers_at
overflow_mul-writers_at c = omega (arith, c.requires, most _ _ _ _ c.requires)

pub overflow_add-writers_at-2 : goal.overflow_add-writers_at-2
overflow_add-writers_at-2 c = omega (arith, c.requires, most _ _ _ _ c.requires)

pub overflow_add-runs_at : goal.overflow_add-runs_at
overflow_add-runs_at c = omega (arith, c.requires, most _ _ _ _ c.requires)

pub overflow_mul-runs_at : goal.overflow_mul-runs_at
overflow_mul-runs_at c = omega (arith, c.requires, most _ _ _ _ c.requires)

pub overflow_add-runs_at-2 : goal.overflow_add-runs_at-2
overflow_add-runs_at-2 c = omega (arith, c.requires, most _ _ _ _ c.requires)

pub overflow_add-run : goal.overflow_add-run
overflow_add-run c = omega (arith, c.requires, most _ _ _ _ c.requires)

pub overflow_add-run-2 : goal.overflow_add-run-2
overflow_add-run-2 c = omega (arith, c.requires, most _ _ _ _ c.requires)

pub overflow_add-run-3 : goal.overflow_add-run-3
overflow_add-run-3 c = omega (arith, c.requires, most _ _ _ _ c.requires)

pub overflow_mul-tail : goal.overflow_mul-tail
overflow_mul-tail c = omega (arith, c.requires, most _ _ _ _ c.requires)

pub overflow_add-tail : goal.overflow_add-tail
overflow_add-tail c = omega (arith, c.requires, most _ _ _ _ c.requires)

pub overflow_add-result : goal.overflow_add-result
overflow_add-result c = omega (arith, c.requires, most _ _ _ _ c.requires)

pub overflow_add-result-2 : goal.overflow_add-result-2
overflow_add-result-2 c = omega (arith, c.requires, most _ _ _ _ c.requires)

pub overflow_add-result-3 : goal.overflow_add-result-3
overflow_add-result-3 c = omega (arith, c.requires, most _ _ _ _ c.requires)
