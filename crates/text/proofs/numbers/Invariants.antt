-- `text::numbers` meets its contract: the numbers so far and what is left tell at each turn what
-- the whole tells. Assumes nothing.
use mathlib.Core.Path.{◌≡◌}
use Prim.Native.Nat.{◌≤◌}
use lib.ListN.{length, drop, take}
use Rattle.text.specs.Fields.{fields_of, numbers_of}
use Rattle.text.proofs.Scans.{in_range, told_from}
use Rattle.text.proofs.numbers.Given as goal

abbrev pub invariant-loop-b : goal.invariant-loop-b
invariant-loop-b l =
    (l.k ≤ l.b-index) × in_range l.number × (length l.out ≡ length l.initial.out)
    × (told_from l.b-items l.b-index l.number (take l.k l.out)
    ≡ numbers_of (fields_of (drop l.at l.line)))
