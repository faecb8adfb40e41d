-- `run_size` is the size of a run.
-- Assumes nothing.
use native.Mathlib.Omega.{arith}
use Rattle.sizes.specs.Bounds.{run_size}
use Rattle.sizes.proofs.Offsets.{largest}
use Rattle.sizes.proofs.Counts.run_size.Goals as goal

pub overflow_add-result : goal.overflow_add-result
unfolding run_size
overflow_add-result c =
    let s = c in
    rw c.place_size-place.ensures (omega (arith, (largest s.args.self s.requires).run))

pub overflow_add-result-2 : goal.overflow_add-result-2
unfolding run_size
overflow_add-result-2 c =
    let s = c in
    rw c.place_size-place.ensures (omega (arith, (largest s.args.self s.requires).run))

pub overflow_add-result-3 : goal.overflow_add-result-3
unfolding run_size
overflow_add-result-3 c =
    let s = c in
    rw c.place_size-place.ensures (omega (arith, (largest s.args.self s.requires).run))

pub returns : goal.returns
unfolding run_size
returns c = omega (arith, c.place_size-place.ensures)
