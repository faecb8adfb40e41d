-- `count_items` counts the items. The loop's invariant: those below k.
-- Assumes nothing.
use mathlib.Core.Path.{◌≡◌}
use Rattle.words.specs.Numbers.{count_below}
use Rattle.masks.specs.Mask.{test_bit}
use Rattle.masks.proofs.count_items.Given as goal

abbrev pub invariant-loop-k : goal.invariant-loop-k
invariant-loop-k l =
    l.count ≡ count_below l.k (test_bit l.mask)
