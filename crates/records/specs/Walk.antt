-- The test of a snapshot by a walk back over the earlier issues, with a count for each writer and
-- nothing else (CR 14; proofs/Walking: it is the computed clause).
-- read_reach: where it starts. hit: an issue that is read or behind. fine: what is asked of it.
-- Assumes nothing.
use Rattle.std.specs.Prelude.{Bool, true, cond, ◌&&◌, ℕ, zero, suc, ◌+◌, leb}
use Rattle.words.specs.Numbers.{largest}
use Rattle.clock.specs.Clock.{Clock, join}
use Rattle.model.specs.Algebra.{implies}
use Rattle.records.specs.Format.{Record, writer_at, saved_at, first_at, number_at, key_of, clock_of, all_reads, rank}

-- For each writer the largest count of issue i's reads.
unfoldable pub read_reach : Record → ℕ → Clock
read_reach b i u = largest (number_at b i) (λ r. clock_of b (first_at b i + r) u)

-- Each read of issue i has issue j's save of its sheet, if there is one.
unfoldable pub fine : Record → ℕ → ℕ → Bool
fine b i j =
    all_reads b i (λ y.
    implies (saved_at b j (key_of b y)) (leb (rank b j) (clock_of b y (writer_at b j))))

-- Issue j is up to its writer's count in r.
unfoldable pub hit : Record → ℕ → Clock → Bool
hit b j r = leb (rank b j) (r (writer_at b j))

-- Issues below j are left, and r is what is reached by now.
unfoldable pub walk : Record → ℕ → ℕ → Clock → Bool
walk b i zero r = true
walk b i (suc j) r =
    cond (hit b j r) (fine b i j && walk b i j (join r (read_reach b j))) (walk b i j r)
