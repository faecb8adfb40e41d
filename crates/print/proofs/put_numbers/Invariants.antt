-- `print::put_numbers` meets its contract: what is put and what is left make the whole at
-- each turn. Assumes nothing.
use mathlib.Core.Path.{◌≡◌}
use mathlib.Core.List.{◌++◌}
use Prim.Native.Nat.{◌+◌, ◌*◌, ◌≤◌}
use lib.ListN.{length, take, drop}
use Rattle.print.specs.Print.{numbers_text}
use Rattle.print.proofs.put_numbers.Given as goal

abbrev pub invariant-loop-n : goal.invariant-loop-n
invariant-loop-n l =
    (length l.out ≡ length l.initial.out) × (l.end ≤ l.at + 11 * l.n-index)
    × (take l.end l.out ++ numbers_text (drop l.n-index l.n-items) ≡ take l.at l.initial.out ++
    numbers_text (drop 1 l.answer))
