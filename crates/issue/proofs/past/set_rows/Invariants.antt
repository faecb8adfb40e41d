-- `set_rows` sets each row of the mask. The loop's invariant: the rows passed are set.
-- Assumes nothing.
use mathlib.Core.Path.{◌≡◌}
use Prim.Native.Nat.{◌≤◌}
use lib.ListN.{length}
use Rattle.words.specs.Numbers.{fold_below}
use Rattle.issue.proofs.Writers.{row_step}
use Rattle.issue.proofs.past.set_rows.Given as goal

abbrev pub invariant-loop-k : goal.invariant-loop-k
invariant-loop-k l =
    (l.k ≤ l.k-end) × (length l.words ≡ length l.initial.words)
    × (l.words ≡ fold_below l.k (row_step l.z l.at l.w l.mask l.new.0) l.initial.words)
