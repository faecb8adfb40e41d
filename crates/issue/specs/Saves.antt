-- What an issue stores: a writer's past, one key at a time, and the marks, one site at a time.
-- with_past, takes, row_set: a writer that takes in the past of a key, or whose row of it is set.
-- mark_at: the mark of a site set again. Savable: what holds where there is no cause.
-- WriterArea, Takes, Saves: where a writer lies, and a place before or behind it.
-- Assumes nothing.
use Rattle.std.specs.Prelude.{◌≡◌, false, cond, List, ℕ, ◌+◌, ◌≤◌, ◌<◌, ◌^◌, eqb}
use Rattle.words.specs.Lists.{put_at}
use Rattle.masks.specs.Mask.{test_bit}
use Rattle.clock.specs.Clock.{Clock}
use Rattle.sizes.specs.declared.Counts.{Counts}
use Rattle.sizes.specs.Bounds.{place_limit, Ranged, place_size, writer_size, site_at}
use Rattle.model.specs.Algebra.{Place}
use Rattle.model.specs.Version.{Version, join_pasts}
use Rattle.model.specs.Store.{Writer, Store}
use Rattle.model.specs.Issue.{raise_cause}
use Rattle.version.specs.Places.{put_mark}

-- ---- a writer

-- The writer x with another past.
abbrev pub with_past : Writer → (ℕ → Clock) → Writer
with_past x p = record { count = x.count; past = p }

-- The writer x after it takes in version k of a place, if k is in the mask.
abbrev pub takes : ℕ → Place Version → ℕ → Writer → Writer
takes read p k x =
    with_past x (cond (test_bit read k) (join_pasts x.past (p k).past) x.past)

-- The writer x after row k gets the count n at writer w, if k is in the mask.
abbrev pub row_set : ℕ → ℕ → ℕ → ℕ → Writer → Writer
row_set S w n k x =
    with_past x (cond (test_bit S k) (put_at x.past k (put_at (x.past k) w n)) x.past)

-- ---- a mark

-- The words with the mark of site o set again, by the master at an index.
abbrev pub mark_at : Counts → ℕ → ℕ → List ℕ → List ℕ
mark_at z master o l = put_mark z l master (site_at z o)

-- ---- what can be saved

-- Run, writer and mask are in range, and the numbers can be raised if a key is saved.
pub record Savable (s : Store) (r w S : ℕ) : Type 0 where
  pub run : r < s.counts.runs
  pub writer : w < s.counts.writers
  pub mask : S < 2 ^ s.counts.keys
  pub raised : eqb S 0 ≡ false → raise_cause s w ≡ 0

-- ---- where a writer and a place lie in a buffer of len words

-- The writer at an index.
pub record WriterArea (len : ℕ) (z : Counts) (at : ℕ) : Type 0 where
  pub ranged : Ranged z
  pub low : at < place_limit
  pub fits : at + writer_size z ≤ len

-- The writer at an index, and behind it the place that it takes pasts from.
pub record Takes (len : ℕ) (z : Counts) (at place : ℕ) : Type 0 where
  pub ranged : Ranged z
  pub low : place < place_limit
  pub apart : at + writer_size z ≤ place
  pub fits : place + place_size z ≤ len

-- The place that takes the saved versions, and behind it the writer at an index.
pub record Saves (len : ℕ) (z : Counts) (place at : ℕ) : Type 0 where
  pub ranged : Ranged z
  pub low : at < place_limit
  pub apart : place + place_size z ≤ at
  pub fits : at + writer_size z ≤ len
