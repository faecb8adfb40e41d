-- `read_on` is where the read mask of a branch of a run stands.
-- Assumes nothing.
use borrow.Author.Tests.{eq-eqb, ne_eqb}
use Prim.Native.Nat.{◌+◌, ◌<◌}
use native.Mathlib.Omega.{arith}
use Rattle.sizes.specs.Bounds.{place_limit, run_at_of, mark_at, read_at_of, run_size}
use Rattle.sizes.proofs.Offsets.{ordered, run_lies}
use Rattle.sizes.proofs.Counts.read_on.Goals as goal
use Rattle.sizes.proofs.Counts.read_on.Goals.{Start}

low : (c : Start) → run_at_of c.args.self c.args.r + run_size c.args.self < place_limit
low c =
    let z = c.args.self in
    omega (arith, ordered z c.requires.ranged, run_lies z c.args.r c.requires.r_lt_runs)

pub overflow_add-result : goal.overflow_add-result
unfolding run_size
overflow_add-result c = rw c.run_at.ensures (omega (
  arith,
  low (goal.at.overflow_add-result
      c).Start,
))

pub returns-then-n-eq0 : goal.returns-then-n-eq0
unfolding read_at_of
returns-then-n-eq0 c = rw (eq-eqb _ _ c.if-n-eq0.true, c.run_at.ensures)

pub overflow_add-result-2 : goal.overflow_add-result-2
unfolding run_size mark_at
overflow_add-result-2 c = rw c.mark_at.ensures (omega
    (arith, low (goal.at.overflow_add-result-2 c).Start))

pub returns : goal.returns
unfolding read_at_of mark_at
returns c =
    rw (ne_eqb _ _ c.if-n-eq0.false, c.mark_at.ensures) (omega arith)
