-- The stale mark of a shelf (CR 4: "which shelf copies are behind").
-- is_stale: one key. stale_mask: all keys.
-- Assumes nothing.
use Rattle.std.specs.Prelude.{Bool, ◌&&◌, ℕ}
use Rattle.masks.specs.Mask.{mask_below}
use Rattle.clock.specs.Clock.{standing, differing}
use Rattle.sizes.specs.declared.Counts.{Counts}
use Rattle.model.specs.Algebra.{Place}
use Rattle.model.specs.Version.{Version, held}

-- A held version of key k "whose own row isn't equal to the master's", of W writers.
unfoldable pub is_stale : ℕ → ℕ → Version → Version → Bool
is_stale W k v master = held v && differing (standing W (v.past k) (master.past k))

-- "the mask of held sheets whose own row isn't equal to the master's"
unfoldable pub stale_mask : Counts → Place Version → Place Version → ℕ
stale_mask z master cache = mask_below z.keys (λ k. is_stale z.writers k (cache k) (master k))
