-- Bounds of sizes and offsets: all that a caller needs to know of them.
-- ranged_in, ranged-out: the test and the record. largest: products. ordered: the areas, in order.
-- ..-lies: where a part lies.
-- Assumes nothing.
use mathlib.Core.Path.{◌≡◌, refl}
use mathlib.Core.Bool.{So, ◌&&◌}
use Prim.Native.Nat.{ℕ, ◌+◌, ◌*◌, ◌≤◌, ◌<◌}
use native.Mathlib.Nat.{mul-le-mul}
use native.Mathlib.Omega.{arith}
use lib.Dec.{eqb, leb}
use Rattle.words.proofs.Bools.{test, and_intro, and_left, and_right, leb-le, le-leb}
use Rattle.words.proofs.Slots.{slot-end}
use Rattle.sizes.specs.declared.Counts.{Counts}
use Rattle.sizes.specs.Bounds.{max_keys, max_writers, max_sites, max_runs_of, max_total, header_size, past_offset, writer_past_offset, between, ranged, Ranged, past_size, version_size, place_size, site_size, writer_size, run_size, master_at, sites_at, writers_at, runs_at, tail_size, tail_at, total_of, round_at_of, may_hold_at, may_save_at, site_at, stale_at, allowance_at, writer_at, run_front, run_at_of, mark_at, read_at_of, snapshot_at, key_at, past_row_at, row_at, writer_row_at}
use Rattle.sizes.specs.Runs.{max_jobs, job_size, plan_size, read_offset, snapshot_offset, job_at_of}

-- ---- counts in range

pub between-out : (top x : ℕ) → So (between top x) → (1 ≤ x) × (x ≤ top)
unfolding between
between-out top x p =
    let a = and_left (leb 1 x) (leb x top) p in
    let b = and_right (leb 1 x) (leb x top) p in
    (leb-le 1 x a, leb-le x top b)

pub between_in : (top x : ℕ) → 1 ≤ x → x ≤ top → So (between top x)
unfolding between
between_in top x a b = and_intro (le-leb 1 x a) (le-leb x top b)

pub ranged-out : (z : Counts) → So (ranged z) → Ranged z
unfolding ranged
ranged-out z p =
    let k = between max_keys z.keys in
    let w = between max_writers z.writers in
    let n = between max_sites z.sites in
    let r = between max_runs_of z.runs in
    let rest = and_right k (w && (n && r)) p in
    let last = and_right w (n && r) rest in
    let keys = between-out max_keys z.keys (and_left k (w && (n && r)) p) in
    let writers = between-out max_writers z.writers (and_left w (n && r) rest) in
    let sites = between-out max_sites z.sites (and_left n r last) in
    let runs = between-out max_runs_of z.runs (and_right n r last) in
    record {
      keys-low = keys.0;
      keys-high = keys.1;
      writers-low = writers.0;
      writers-high = writers.1;
      sites-low = sites.0;
      sites-high = sites.1;
      runs-low = runs.0;
      runs-high = runs.1;
    }

pub ranged_in : (z : Counts) → Ranged z → So (ranged z)
unfolding ranged
ranged_in z R =
    and_intro (between_in max_keys z.keys R.keys-low R.keys-high)
    (and_intro (between_in max_writers z.writers R.writers-low R.writers-high)
    (and_intro (between_in max_sites z.sites R.sites-low R.sites-high)
    (between_in max_runs_of z.runs R.runs-low R.runs-high)))

-- ---- sizes and areas

-- The largest sizes.
pub record Largest (z : Counts) : Type 0 where
  pub past : past_size z ≤ 512
  pub version : version_size z ≤ 514
  pub place : place_size z ≤ 16448
  pub site : site_size z ≤ 16450
  pub writer : writer_size z ≤ 513
  pub run : run_size z ≤ 32926
  pub sites : z.sites * site_size z ≤ 131600
  pub writers : z.writers * writer_size z ≤ 8208
  pub runs : z.runs * run_size z ≤ 263408

pub largest : (z : Counts) → Ranged z → Largest z
unfolding past_size version_size place_size site_size writer_size run_size
largest z R =
    let past : past_size z ≤ 32 * 16 = mul-le-mul R.keys-high R.writers-high in
    let version : version_size z ≤ 514 = omega arith in
    let place : place_size z ≤ 32 * 514 = mul-le-mul R.keys-high version in
    let site : site_size z ≤ 16450 = omega arith in
    let writer : writer_size z ≤ 513 = omega arith in
    let run : run_size z ≤ 32926 = omega arith in
    record {
      past = past;
      version = version;
      place = place;
      site = site;
      writer = writer;
      run = run;
      sites = mul-le-mul R.sites-high site;
      writers = mul-le-mul R.writers-high writer;
      runs = mul-le-mul R.runs-high run;
    }

-- Each area begins where the one before it ends, and the total is small.
pub record Ordered (z : Counts) : Type 0 where
  pub master : master_at z ≡ header_size
  pub sites : sites_at z ≡ master_at z + place_size z
  pub writers : writers_at z ≡ sites_at z + z.sites * site_size z
  pub runs : runs_at z ≡ writers_at z + z.writers * writer_size z
  pub tail : tail_at z ≡ runs_at z + z.runs * run_size z
  pub total : total_of z ≡ tail_at z + tail_size z
  pub top : total_of z ≤ max_total

pub ordered : (z : Counts) → Ranged z → Ordered z
unfolding tail_size master_at sites_at writers_at runs_at tail_at total_of
ordered z R =
    let m = largest z R in
    record {
      master = refl;
      sites = refl;
      writers = refl;
      runs = refl;
      tail = refl;
      total = refl;
      top = omega arith;
    }

-- ---- parts

-- The n words at an index lie from a on and end within b.
pub record Lies (a b at n : ℕ) : Type 0 where
  pub starts : a ≤ at
  pub ends : at + n ≤ b

-- Part s of k parts of v words.
part_lies : (at s k v : ℕ) → s < k → Lies at (at + k * v) (at + s * v) v
part_lies at s k v h =
    record { starts = omega arith; ends = omega (arith, slot-end s k v h) }

pub site-lies : (z : Counts) (o : ℕ) → o < z.sites
    → Lies (sites_at z) (writers_at z) (site_at z o) (site_size z)
unfolding site_at writers_at
site-lies z o h = part_lies (sites_at z) o z.sites (site_size z) h

pub writer-lies : (z : Counts) (u : ℕ) → u < z.writers
    → Lies (writers_at z) (runs_at z) (writer_at z u) (writer_size z)
unfolding writer_at runs_at
writer-lies z u h = part_lies (writers_at z) u z.writers (writer_size z) h

pub run_lies : (z : Counts) (r : ℕ) → r < z.runs
    → Lies (runs_at z) (total_of z) (run_at_of z r) (run_size z)
unfolding run_at_of tail_at total_of
run_lies z r h =
    let e = part_lies (runs_at z) r z.runs (run_size z) h in
    record { starts = e.starts; ends = omega (arith, e.ends) }

-- The round stands behind the runs.
pub round-lies : (z : Counts) → Lies (tail_at z) (total_of z) (round_at_of z) 1
unfolding tail_size total_of
round-lies z = record { starts = omega arith; ends = omega arith }

-- Behind it the masks of the sites, then those of the writers.
pub may-hold-lies : (z : Counts) (o : ℕ) → o < z.sites
    → Lies (tail_at z) (total_of z) (may_hold_at z o) 1
unfolding tail_size total_of
may-hold-lies z o h = record { starts = omega arith; ends = omega arith }

pub may-save-lies : (z : Counts) (w : ℕ) → w < z.writers
    → Lies (tail_at z) (total_of z) (may_save_at z w) 1
unfolding tail_size total_of
may-save-lies z w h = record { starts = omega arith; ends = omega arith }

-- The cache is the first part of its site, and the stale mark stands behind it.
pub mark-lies : (z : Counts) (at : ℕ)
    → Lies (at + place_size z) (at + site_size z) (stale_at z at) 1
unfolding site_size
mark-lies z at = record { starts = omega arith; ends = omega arith }

-- The allowance stands behind the mark.
pub allowance-lies : (z : Counts) (at : ℕ)
    → Lies (at + place_size z) (at + site_size z) (allowance_at z at) 1
unfolding site_size
allowance-lies z at = record { starts = omega arith; ends = omega arith }

-- The snapshot of branch n lies behind the plan of its run; its read mask behind the done mask,
-- the mark behind the front.
pub snapshot-lies : (z : Counts) (r n : ℕ)
    → Lies (run_at_of z r + snapshot_offset) (run_at_of z r + run_size z) (snapshot_at z r n)
    (place_size z)
unfolding snapshot_at run_size
snapshot-lies z r n =
    test (eqb n 0) (λ p. rw p (record { starts = omega arith; ends = omega arith }))
    (λ q. rw q (record { starts = omega arith; ends = omega arith }))

pub read-lies : (z : Counts) (r n : ℕ)
    → Lies (run_at_of z r + read_offset) (run_at_of z r + run_size z) (read_at_of z r n) 1
unfolding read_at_of run_size
read-lies z r n =
    test (eqb n 0) (λ p. rw p (record { starts = omega arith; ends = omega arith }))
    (λ q. rw q (record { starts = omega arith; ends = omega arith }))

pub branch-mark-lies : (z : Counts) (r : ℕ)
    → Lies (run_at_of z r + run_front z) (run_at_of z r + run_size z) (mark_at z r) 1
unfolding mark_at run_size
branch-mark-lies z r = record { starts = omega arith; ends = omega arith }

-- Key k lies in its place, row d in its version or writer.
pub key-lies : (z : Counts) (at k : ℕ) → k < z.keys
    → Lies at (at + place_size z) (key_at z at k) (version_size z)
unfolding key_at place_size
key-lies z at k h = part_lies at k z.keys (version_size z) h

pub past-row-lies : (z : Counts) (at d : ℕ) → d < z.keys
    → Lies at (at + past_size z) (past_row_at z at d) z.writers
unfolding past_row_at past_size
past-row-lies z at d h = part_lies at d z.keys z.writers h

pub row_lies : (z : Counts) (at d : ℕ) → d < z.keys
    → Lies (at + past_offset) (at + version_size z) (row_at z at d) z.writers
unfolding row_at version_size past_size
row_lies z at d h =
    let e = part_lies (at + past_offset) d z.keys z.writers h in
    record { starts = omega (arith, e.starts); ends = omega (arith, e.ends) }

pub writer-row-lies : (z : Counts) (at d : ℕ) → d < z.keys
    → Lies (at + writer_past_offset) (at + writer_size z) (writer_row_at z at d) z.writers
unfolding writer_row_at writer_size past_size
writer-row-lies z at d h =
    let e = part_lies (at + writer_past_offset) d z.keys z.writers h in
    record { starts = omega (arith, e.starts); ends = omega (arith, e.ends) }

-- ---- jobs

-- A job lies in the plan.
pub job-lies : (at i : ℕ) → i < max_jobs
    → (at ≤ job_at_of at i) × (job_at_of at i + job_size ≤ at + plan_size)
unfolding job_at_of
job-lies at i h = (omega arith, omega arith)
