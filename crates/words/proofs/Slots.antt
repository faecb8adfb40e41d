-- Places of k records of v words, one after the other.
-- Assumes nothing.
use Prim.Native.Nat.{ℕ, ◌+◌, ◌*◌, ◌≤◌, ◌<◌}
use native.Mathlib.Nat.{suc-mul, mul-le-mul_right}
use native.Mathlib.Omega.{arith}

-- Record s ends within the k records; and before record k, which does not overlap it.
pub slot-end : (s k v : ℕ) → s < k → s * v + v ≤ k * v
slot-end s k v h = omega (arith, mul-le-mul_right v h, suc-mul s v)
