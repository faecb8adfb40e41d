-- A merge in place: a loop that stores the larger of two counts, going up.
-- Assumes nothing.
use mathlib.Core.Path.{◌≡◌, ◌∙◌}
use mathlib.Core.List.{List}
use Prim.Native.Nat.{ℕ, ◌+◌, ◌<◌, max}
use native.Mathlib.Omega.{arith}
use lib.ListN.{length, get_or, set}
use Rattle.words.specs.Words.{put, Apart}
use Rattle.words.proofs.Words.{put-high, put-read, put_step}
use Rattle.clock.specs.Clock.{Clock, join, clock_at}

-- The join of the clocks at dst and src in the words l.
abbrev pub joined : List ℕ → ℕ → ℕ → Clock
joined l dst src = join (clock_at l dst) (clock_at l src)

-- A turn: after i stores m still has both counts of place i, and the larger is stored there.
pub merge_step : (l : List ℕ) (dst src n i : ℕ) → Apart (length l) dst src n → i < n
    → (m : List ℕ) → m ≡ put l dst i (joined l dst src)
    → (x : ℕ) → x ≡ max (get_or m (dst + i) 0) (get_or m (src + i) 0)
    → set m (dst + i) x ≡ put l dst (i + 1) (joined l dst src)
unfolding join clock_at
merge_step l dst src n i A h m e x q =
    let f = joined l dst src in
    let own = put-high l dst i f (dst + i) (omega arith) in
    put_step l dst i f m x e (q ∙ rw (e, own, put-read l dst src n i f A h))
