-- `mark_at` is where the mark of a run stands, behind its front.
-- Assumes nothing.
use native.Mathlib.Omega.{arith}
use Rattle.sizes.specs.Bounds.{mark_at, snapshot_at}
use Rattle.sizes.proofs.Offsets.{ordered, run_lies, branch-mark-lies}
use Rattle.sizes.proofs.Counts.mark_at.Goals as goal

pub overflow_add-result : goal.overflow_add-result
unfolding mark_at snapshot_at
overflow_add-result c =
    let b = c in
    let s = b in
    let z = s.args.self in
    rw (b.snapshot_at.ensures, c.place_size.ensures)
    (omega (
      arith,
      ordered z s.requires.ranged,
      run_lies z s.args.r s.requires.r_lt_runs,
      branch-mark-lies z s.args.r,
    ))

pub returns : goal.returns
unfolding mark_at snapshot_at
returns c =
    let b = c in
    rw (b.snapshot_at.ensures, c.place_size.ensures) (omega arith)
