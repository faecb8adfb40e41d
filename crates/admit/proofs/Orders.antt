-- What the derived `x <= y` answers of a type of one number.
-- Assumes nothing.
use mathlib.Core.Path.{◌≡◌}
use native.Mathlib.Omega.{arith}
use Prim.Native.Nat.{ℕ}
use lib.Dec.{leb}
use Rattle.std.specs.Ordering.{is_le, nat_cmp}
use Rattle.std.proofs.lemmas.Bool.Decides.{nat_tests}

pub cmp-le : (a b : ℕ) → is_le (nat_cmp a b) ≡ leb a b
cmp-le a b = grind (arith, nat_tests)
