-- Sizes and offsets in words (document 01, "Size and layout"), from the counts K, W, N and P.
-- max_keys ..: the limits. ranged, Ranged: the counts are in range. ..Size: words of a part.
-- ..Offset: where a part of the header, a version or a writer stands in it; of a run: Runs.
-- ..At: where a part begins. total_of: all words; max_total: the most there can be.
-- Assumes nothing.
use Rattle.std.specs.Prelude.{Bool, cond, ◌&&◌, ℕ, ◌+◌, ◌*◌, ◌≤◌, eqb, leb}
use Rattle.sizes.specs.declared.Counts.{Counts}
use Rattle.sizes.specs.declared.Sizes.{Sizes}
use Rattle.sizes.specs.Runs.{read_offset, snapshot_offset, second_read_offset, second_offset}

abbrev pub counts_of : ℕ → ℕ → ℕ → ℕ → Counts
counts_of k w n p = record { keys = k; writers = w; sites = n; runs = p }

-- ---- limits: "Sheets K 1..32, writers W 1..16, offices N 1..8, runs P 1..8"

abbrev pub max_keys : ℕ
max_keys = 32

abbrev pub max_writers : ℕ
max_writers = 16

abbrev pub max_sites : ℕ
max_sites = 8

abbrev pub max_runs_of : ℕ
max_runs_of = 8

-- Below these indices a place and a version begin, so that those of their words can be computed.
abbrev pub place_limit : ℕ
place_limit = 1000000

abbrev pub version_limit : ℕ
version_limit = 2000000

-- 1 to top.
unfoldable pub between : ℕ → ℕ → Bool
between top x = leb 1 x && leb x top

unfoldable pub ranged : Counts → Bool
ranged z =
    between max_keys z.keys
    && (between max_writers z.writers
    && (between max_sites z.sites && between max_runs_of z.runs))

-- The same as a statement.
pub record Ranged (z : Counts) : Type 0 where
  pub keys-low : 1 ≤ z.keys
  pub keys-high : z.keys ≤ max_keys
  pub writers-low : 1 ≤ z.writers
  pub writers-high : z.writers ≤ max_writers
  pub sites-low : 1 ≤ z.sites
  pub sites-high : z.sites ≤ max_sites
  pub runs-low : 1 ≤ z.runs
  pub runs-high : z.runs ≤ max_runs_of

-- ---- inside the header: "K, W, N, P, last issue number, then the offsets .., then the total"

abbrev pub keys_offset : ℕ
keys_offset = 0

abbrev pub writers_offset : ℕ
writers_offset = 1

abbrev pub sites_offset : ℕ
sites_offset = 2

abbrev pub runs_offset : ℕ
runs_offset = 3

abbrev pub last_offset : ℕ
last_offset = 4

abbrev pub master_offset : ℕ
master_offset = 5

abbrev pub sites_at_offset : ℕ
sites_at_offset = 6

abbrev pub writers_at_offset : ℕ
writers_at_offset = 7

abbrev pub runs_at_offset : ℕ
runs_at_offset = 8

abbrev pub total_offset : ℕ
total_offset = 9

abbrev pub header_size : ℕ
header_size = 10

-- ---- inside a version, whose issue number stands first, and a writer, whose count does

-- "In the version .. the mask follows the issue number."
abbrev pub leaders_offset : ℕ
leaders_offset = 1

abbrev pub past_offset : ℕ
past_offset = 2

abbrev pub writer_past_offset : ℕ
writer_past_offset = 1

-- ---- sizes: "V becomes 2 + K·W there; writers keep 1 + K·W" (CR 3)

-- A past: one clock for each key.
unfoldable pub past_size : Counts → ℕ
past_size z = z.keys * z.writers

unfoldable pub version_size : Counts → ℕ
version_size z = past_offset + past_size z

-- A place (master, shelf or card): K versions.
unfoldable pub place_size : Counts → ℕ
place_size z = z.keys * version_size z

-- Behind a site's cache: the stale mark (CR 4); its allowance, "one word after" it (CR 7).
abbrev pub site_rest : ℕ
site_rest = 2

unfoldable pub site_size : Counts → ℕ
site_size z = place_size z + site_rest

-- "a writer's count, then its past"
unfoldable pub writer_size : Counts → ℕ
writer_size z = writer_past_offset + past_size z

-- "runs P·(28 + K·V)": a run's front. CR 10: "A run's words gain at their end a mark .., a second
-- read mask and a second card": its rest.
abbrev pub run_front : Counts → ℕ
run_front z = snapshot_offset + place_size z

abbrev pub run_rest : Counts → ℕ
run_rest z = second_offset + place_size z

unfoldable pub run_size : Counts → ℕ
run_size z = run_front z + run_rest z

-- Behind the runs, the tail. CR 8: "The last picked run is one stored word at the desk's end".
-- CR 9: of the masks of what each office may hold and each writer may save "the words follow the
-- round's, offices first".
unfoldable pub tail_size : Counts → ℕ
tail_size z = 1 + (z.sites + z.writers)

-- ---- offsets: "master K·V; shelves N·(K·V + 2); writers W·(1 + K·W); runs P·(30 + 2·K·V)"

unfoldable pub master_at : Counts → ℕ
master_at z = header_size

unfoldable pub sites_at : Counts → ℕ
sites_at z = master_at z + place_size z

unfoldable pub writers_at : Counts → ℕ
writers_at z = sites_at z + z.sites * site_size z

unfoldable pub runs_at : Counts → ℕ
runs_at z = writers_at z + z.writers * writer_size z

unfoldable pub tail_at : Counts → ℕ
tail_at z = runs_at z + z.runs * run_size z

unfoldable pub total_of : Counts → ℕ
total_of z = tail_at z + tail_size z

abbrev pub max_total : ℕ
max_total = 419699

unfoldable pub sizes_of : Counts → Sizes
sizes_of z = record {
  master = master_at z;
  sites = sites_at z;
  writers = writers_at z;
  runs = runs_at z;
  tail = tail_at z;
  total = total_of z;
}

-- ---- one part of many

unfoldable pub site_at : Counts → ℕ → ℕ
site_at z o = sites_at z + o * site_size z

-- The stale mark of the site at an index, and its allowance.
abbrev pub stale_at : Counts → ℕ → ℕ
stale_at z at = at + place_size z

abbrev pub allowance_at : Counts → ℕ → ℕ
allowance_at z at = stale_at z at + 1

unfoldable pub writer_at : Counts → ℕ → ℕ
writer_at z u = writers_at z + u * writer_size z

unfoldable pub run_at_of : Counts → ℕ → ℕ
run_at_of z r = runs_at z + r * run_size z

-- The round: the tail's first word.
abbrev pub round_at_of : Counts → ℕ
round_at_of z = tail_at z

-- Behind it the mask of what site o may hold; behind those of all sites what writer w may save.
abbrev pub may_hold_at : Counts → ℕ → ℕ
may_hold_at z o = tail_at z + 1 + o

abbrev pub may_save_at : Counts → ℕ → ℕ
may_save_at z w = tail_at z + 1 + z.sites + w

-- Of run r the mark; of its branch n, in its front or its rest, the read mask and the snapshot.
unfoldable pub mark_at : Counts → ℕ → ℕ
mark_at z r = run_at_of z r + run_front z

unfoldable pub read_at_of : Counts → ℕ → ℕ → ℕ
read_at_of z r n = run_at_of z r + cond (eqb n 0) read_offset (run_front z + second_read_offset)

unfoldable pub snapshot_at : Counts → ℕ → ℕ → ℕ
snapshot_at z r n = run_at_of z r + cond (eqb n 0) snapshot_offset (run_front z + second_offset)

-- The version of key k in the place at an index.
unfoldable pub key_at : Counts → ℕ → ℕ → ℕ
key_at z at k = at + k * version_size z

-- Row d, the clock for key d, of the past at an index; and of the version.
unfoldable pub past_row_at : Counts → ℕ → ℕ → ℕ
past_row_at z at d = at + d * z.writers

unfoldable pub row_at : Counts → ℕ → ℕ → ℕ
row_at z at d = at + (past_offset + d * z.writers)

-- Row d of the past of the writer at an index.
unfoldable pub writer_row_at : Counts → ℕ → ℕ → ℕ
writer_row_at z at d = at + (writer_past_offset + d * z.writers)
