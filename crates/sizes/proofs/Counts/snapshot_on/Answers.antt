-- `snapshot_on` is where the snapshot of a branch of a run begins.
-- Assumes nothing.
use borrow.Author.Tests.{eq-eqb, ne_eqb}
use native.Mathlib.Omega.{arith}
use Rattle.sizes.specs.Bounds.{mark_at, snapshot_at, run_size}
use Rattle.sizes.proofs.Offsets.{ordered, run_lies}
use Rattle.sizes.proofs.Counts.snapshot_on.Goals as goal

pub returns-then-n-eq0 : goal.returns-then-n-eq0
unfolding snapshot_at
returns-then-n-eq0 c = rw (eq-eqb _ _ c.if-n-eq0.true) c.snapshot_at.ensures

pub overflow_add-result : goal.overflow_add-result
unfolding run_size mark_at
overflow_add-result c =
    let s = c in
    let z = s.args.self in
    rw c.mark_at.ensures
    (omega (arith, ordered z s.requires.ranged, run_lies z s.args.r s.requires.r_lt_runs))

pub returns : goal.returns
unfolding snapshot_at mark_at
returns c =
    rw (ne_eqb _ _ c.if-n-eq0.false, c.mark_at.ensures) (omega arith)
