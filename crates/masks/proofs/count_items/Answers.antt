-- `count_items` counts the items. The loop's invariant: those below k.
-- Assumes nothing.
use mathlib.Core.Path.{refl}
use native.Mathlib.Omega.{arith}
use Rattle.words.specs.Numbers.{count_below}
use Rattle.words.proofs.Numbers.{when-le, count-top}
use Rattle.masks.specs.Mask.{test_bit}
use Rattle.masks.proofs.Sets.{count-more}
use Rattle.masks.proofs.count_items.Goals as goal

pub loop-k-init : goal.loop-k-init
unfolding count_below
loop-k-init c = refl

pub loop-k-preserved : goal.loop-k-preserved
loop-k-preserved c =
    rw (
      count-more (test_bit c.args.mask) c.loop-k.k,
      c.loop-k.invariant,
      c.mask_if-count.ensures,
      c.has.ensures,
    )

-- At most one item more.
pub overflow_add-count : goal.overflow_add-count
overflow_add-count c =
    omega (
      arith,
      c.mask_if-count.ensures,
      when-le c.has.result 1,
      c.loop-k.invariant,
      count-top c.loop-k.k (test_bit c.args.mask),
    )
