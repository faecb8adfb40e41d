-- Stale: the mark of a shelf, which form keeps true.
-- Assumes nothing.
use Rattle.std.specs.Prelude.{[], ◌∷◌, ℕ, leb}
use Rattle.model.specs.Store.{Store}
use Rattle.model.specs.Outcome.{Reply, refuse}

unfoldable pub stale_cause : Store → ℕ → ℕ
stale_cause s o = refuse (leb s.counts.sites o) 3 0

-- "a new call answers it"
unfoldable pub stale_reply : ℕ → Store → Reply
stale_reply o s =
    record { cause = stale_cause s o; word = 0; numbers = (s.site o).stale ∷ [] }
