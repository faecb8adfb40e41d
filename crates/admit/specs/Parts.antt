-- What is asked of the parts of a store for admission, as the code asks it.
-- past_covered .. place_taken: of one part. cache_test, run_test, writer_test: of one of many.
-- PastArea: where a past lies.
-- Assumes nothing.
use Rattle.std.specs.Prelude.{Bool, ◌&&◌, List, ℕ, ◌+◌, ◌≤◌, ◌<◌, leb}
use Rattle.words.specs.Tests.{Items, all_below}
use Rattle.clock.specs.Clock.{Clock, dominates}
use Rattle.sizes.specs.declared.Counts.{Counts}
use Rattle.sizes.specs.Bounds.{version_limit, writer_past_offset, Ranged, past_size, site_at, writer_at, run_at_of}
use Rattle.model.specs.Algebra.{Place, everything, needs_met}
use Rattle.model.specs.Version.{Version, versions}
use Rattle.model.specs.Store.{Run, planned}
use Rattle.model.specs.Calls.Admit.{each_branch}
use Rattle.layout.specs.Reading.{read_word_of, read_past_of, read_place, read_run}

-- The master's own rows cover those of a past,
unfoldable pub past_covered : Counts → Place Version → (ℕ → Clock) → Bool
past_covered z master q =
    all_below z.keys (λ d. dominates z.writers ((master d).past d) (q d))

-- and those of every version of a place.
unfoldable pub rows_covered : Counts → Place Version → Place Version → Bool
rows_covered z master p = all_below z.keys (λ k. past_covered z master (p k).past)

-- No issue number of a place is above the last.
unfoldable pub numbers_within : Counts → ℕ → Place Version → Bool
numbers_within z last p = all_below z.keys (λ k. leb (p k).issue last)

-- No count of a row is above its writer's.
unfoldable pub row_within : Counts → (ℕ → ℕ) → Clock → Bool
row_within z count c = all_below z.writers (λ u. leb (c u) (count u))

-- The same of the master's own rows.
unfoldable pub own_counts : Counts → (ℕ → ℕ) → Place Version → Bool
own_counts z count master = all_below z.keys (λ d. row_within z count ((master d).past d))

-- All that is asked of a place, with the keys whose needs it has to meet.
unfoldable pub place_taken : Counts → Place Version → ℕ → Items → Place Version → Bool
place_taken z master last S p =
    rows_covered z master p
    && (numbers_within z last p && needs_met (versions z.writers) z.keys S p)

-- All that is asked of a run: of both its cards, with the keys of its plan.
unfoldable pub run_taken : Counts → Place Version → ℕ → Run → Bool
run_taken z master last a =
    each_branch a (λ b. place_taken z master last (planned a.jobs a.job) b.snapshot)

-- ---- in the words l of a buffer, with the master at an index

abbrev pub counts_at : Counts → List ℕ → ℕ → ℕ
counts_at z l u = read_word_of l (writer_at z u)

-- Site o; run r; writer w.
abbrev pub cache_test : Counts → List ℕ → ℕ → ℕ → Items
cache_test z l master last o =
    place_taken z (read_place z l master) last everything (read_place z l (site_at z o))

abbrev pub run_test : Counts → List ℕ → ℕ → ℕ → Items
run_test z l master last r = run_taken z (read_place z l master) last (read_run z l
    (run_at_of z r))

abbrev pub writer_test : Counts → List ℕ → ℕ → Items
writer_test z l master w =
    past_covered z (read_place z l master) (read_past_of z l (writer_at z w + writer_past_offset))

-- A past at an index of a buffer of len words.
pub record PastArea (len : ℕ) (z : Counts) (at : ℕ) : Type 0 where
  pub ranged : Ranged z
  pub low : at < version_limit
  pub fits : at + past_size z ≤ len
