-- What the proofs about histories and copies speak of.
-- PastLaws: all that is used of "stands behind", apart from how it grows. Sound: a history that
-- the calls made.
-- Good: a set of writes that a copy of a key can be.
-- Assumes nothing.
use mathlib.Core.Path.{◌≡◌}
use mathlib.Core.Bool.{So}
use Prim.Native.Nat.{ℕ, ◌≤◌, ◌<◌}
use lib.ListN.{length}
use Rattle.history.specs.History.{History, writer_of, saved, read_by, in_past}
use Rattle.history.specs.Copies.{Copy}

pub record PastLaws (K : ℕ) (h : History) : Type 0 where
  -- a write that is no later
  pub bound : (i d j : ℕ) → i < length h → So (in_past K h i d j) → (j ≤ i) × So (saved h d j)
  -- an issue's own writes
  pub own : (i d : ℕ) → i < length h → So (saved h d i) → So (in_past K h i d i)
  -- earlier writes by the same writer
  pub session : (i d j : ℕ) → i < length h → j ≤ i → writer_of h j ≡ writer_of h i → So (saved h d
      j)
      → So (in_past K h i d j)
  -- a chain
  pub trans : (i d j e k : ℕ) → i < length h → So (in_past K h i d j) → So (in_past K h j e k)
      → So (in_past K h i e k)

-- Writers below W, keys below K, each issue with a write, reads of earlier writes.
pub record Sound (K W : ℕ) (h : History) : Type 0 where
  pub writers : (i : ℕ) → i < length h → writer_of h i < W
  pub keys : (d i : ℕ) → So (saved h d i) → (d < K) × (i < length h)
  pub some-write : (i : ℕ) → i < length h → (d : ℕ) × So (saved h d i)
  pub reads : (i d j : ℕ) → So (read_by h i d j) → (d < K) × (j < i) × So (saved h d j)

-- Writes of key k, with each one those of k behind it.
pub record Good (K : ℕ) (h : History) (k : ℕ) (c : Copy) : Type 0 where
  pub writes : (i : ℕ) → So (c i) → (i < length h) × So (saved h k i)
  pub behind : (i j : ℕ) → So (c i) → So (in_past K h i k j) → So (c j)
