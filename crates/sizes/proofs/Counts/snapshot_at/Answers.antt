-- `snapshot_at` is where the snapshot of a run begins.
-- Assumes nothing.
use native.Mathlib.Omega.{arith}
use Rattle.sizes.specs.Bounds.{snapshot_at}
use Rattle.sizes.proofs.Offsets.{ordered, run_lies}
use Rattle.sizes.proofs.Counts.snapshot_at.Goals as goal

pub overflow_add-result : goal.overflow_add-result
overflow_add-result c =
    let s = c in
    let z = s.args.self in
    rw c.run_at.ensures
    (omega (arith, ordered z s.requires.ranged, run_lies z s.args.r s.requires.r_lt_runs))

pub returns : goal.returns
unfolding snapshot_at
returns c = rw c.run_at.ensures
