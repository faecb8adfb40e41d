-- The places that a look names (0 master, 1 cache, 2 snapshot) in a buffer with given counts.
-- place_at: where one begins. own_row_at: where a version's own row
-- begins.
-- Assumes nothing.
use Rattle.std.specs.Prelude.{cond, ℕ, eqb}
use Rattle.sizes.specs.declared.Counts.{Counts}
use Rattle.sizes.specs.Bounds.{master_at, site_at, snapshot_at, key_at, row_at}

unfoldable pub place_at : Counts → ℕ → ℕ → ℕ
place_at z p i = cond (eqb p 0) (master_at z) (cond (eqb p 1) (site_at z i) (snapshot_at z i 0))

-- Row k of the version of key k.
unfoldable pub own_row_at : Counts → ℕ → ℕ → ℕ → ℕ
own_row_at z p i k = row_at z (key_at z (place_at z p i) k) k
