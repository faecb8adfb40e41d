-- `writer_size` is the size of a writer.
-- Assumes nothing.
use native.Mathlib.Omega.{arith}
use Rattle.sizes.specs.Bounds.{writer_size}
use Rattle.sizes.proofs.Offsets.{largest}
use Rattle.sizes.proofs.Counts.writer_size.Goals as goal

pub overflow_add-result : goal.overflow_add-result
unfolding writer_size
overflow_add-result c =
    let s = c in
    rw c.past_size.ensures (omega (arith, (largest s.args.self s.requires).writer))

pub returns : goal.returns
unfolding writer_size
returns c = rw c.past_size.ensures
