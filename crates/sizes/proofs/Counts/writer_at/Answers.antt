-- `writer_at` is where a writer begins: it lies in its area, below the total.
-- Assumes nothing.
use mathlib.Core.Path.{◌∙◌}
use borrow.Author.Rules.{rules}
use native.Mathlib.Omega.{arith}
use Rattle.sizes.specs.Bounds.{writer_at, sizes_of}
use Rattle.sizes.proofs.Offsets.{ordered, writer-lies}
use Rattle.sizes.proofs.Counts.writer_at.Goals as goal

pub areas-areas-requires : goal.areas-areas-requires
areas-areas-requires c = search rules

pub writer_size-requires : goal.writer_size-requires
writer_size-requires c = search rules

pub nth-requires : goal.nth-requires
unfolding writer_at sizes_of
nth-requires c =
    let s = c in
    let z = s.args.self in
    rw (c.writer_size.ensures, c.areas-areas.ensures)
    (omega (arith, ordered z s.requires.ranged, writer-lies z s.args.u s.requires.u_lt_writers))

pub returns : goal.returns
unfolding writer_at sizes_of
returns c =
    let b = c in
    c.nth.ensures ∙ rw (b.writer_size.ensures, b.areas-areas.ensures)
