-- `mask_of` has the items that pass. The loop's invariant: it has those passed.
-- Assumes nothing.
use Rattle.std.proofs.Common.{refl, arith}
use Rattle.masks.specs.Mask.{mask_below}
use Rattle.masks.proofs.Sets.{mask-more}
use Rattle.masks.proofs.mask_of.Goals as goal

pub loop-k-init : goal.loop-k-init
unfolding mask_below
loop-k-init g c = λ f h. refl

pub loop-k-preserved : goal.loop-k-preserved
loop-k-preserved g c = λ f h.
    rw (
      mask-more f c.loop-k.k,
      c.with_if-mask.ensures,
      c.loop-k.invariant f h,
      h c.loop-k.k c.test.result (omega arith) c.test.ensures,
    )
