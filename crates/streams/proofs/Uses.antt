-- What a reader takes from Reads and Hands.
-- read-inside, handed-inside: the bytes that were read, and those that were handed over, lie at
-- the front of a buffer as long as the one that was lent.
-- Assumes nothing.
use mathlib.Core.Path.{◌≡◌}
use mathlib.Core.List.{List}
use Prim.Native.Nat.{ℕ, ◌≤◌}
use native.Mathlib.Omega.{arith}
use lib.ListN.{length}
use Rattle.streams.specs.Streams.{Reads, Hands}
use Rattle.streams.specs.declared.Input.{Input}
use Rattle.streams.specs.declared.Output.{Output}

pub read-inside : (i j : Input) (chunk : List ℕ) → Reads i j chunk
    → (j.room ≡ length chunk) × (j.got ≤ j.room) × (i.all ≤ j.all)
read-inside i j chunk r = (r.room, omega (arith, r.front, r.room), omega (arith, r.all))

pub handed-inside : (o p : Output) (out : List ℕ) → Hands o p out
    → (p.room ≡ length out) × (p.count ≤ p.room) × (o.all ≤ p.all)
handed-inside o p out h = (h.room, omega (arith, h.front, h.room), omega (arith, h.all))
