-- A site and a key, as fetch and evict are given them.
-- Assumes nothing.
use Rattle.std.specs.Prelude.{Bool, ◌||◌, ℕ, leb}
use Rattle.sizes.specs.declared.Counts.{Counts}

-- No such site, or no such key.
abbrev pub out_of_range_of : Counts → ℕ → ℕ → Bool
out_of_range_of z o k = leb z.sites o || leb z.keys k
