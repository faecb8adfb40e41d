-- Words of a buffer, as a list.
-- put: words stored from an index on.
-- Apart: where some words may be stored from others of the same buffer, going up.
-- Assumes nothing.
use Rattle.std.specs.Prelude.{List, ◌⊎◌, ℕ, zero, suc, ◌+◌, ◌≤◌, set}

-- The words l with f 0, f 1, .. f (n - 1) from index at on.
unfoldable pub put : List ℕ → ℕ → ℕ → (ℕ → ℕ) → List ℕ
put l at zero f = l
put l at (suc n) f = set (put l at n f) (at + n) (f n)

-- n words at dst and n at src lie in a buffer of len words. They are one place or do not overlap,
-- or overlap such that a loop that counts up reads each word at src before it stores to it.
pub record Apart (len dst src n : ℕ) : Type 0 where
  pub dst_in : dst + n ≤ len
  pub src_in : src + n ≤ len
  pub apart : (dst ≤ src) ⊎ (src + n ≤ dst)
