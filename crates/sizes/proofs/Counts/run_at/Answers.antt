-- `run_at` is where a run begins: it lies in its area, below the total.
-- Assumes nothing.
use mathlib.Core.Path.{◌∙◌}
use borrow.Author.Rules.{rules}
use native.Mathlib.Omega.{arith}
use Rattle.sizes.specs.Bounds.{run_at_of, sizes_of}
use Rattle.sizes.proofs.Offsets.{ordered, run_lies}
use Rattle.sizes.proofs.Counts.run_at.Goals as goal

pub areas-areas-requires : goal.areas-areas-requires
areas-areas-requires c = search rules

pub run_size-requires : goal.run_size-requires
run_size-requires c = search rules

pub nth-requires : goal.nth-requires
unfolding run_at_of sizes_of
nth-requires c =
    let s = c in
    let z = s.args.self in
    rw (c.run_size.ensures, c.areas-areas.ensures)
    (omega (arith, ordered z s.requires.ranged, run_lies z s.args.r s.requires.r_lt_runs))

pub returns : goal.returns
unfolding run_at_of sizes_of
returns c =
    let b = c in
    c.nth.ensures ∙ rw (b.run_size.ensures, b.areas-areas.ensures)
