-- `site_at` is where a site begins: it lies in its area, below the total.
-- Assumes nothing.
use mathlib.Core.Path.{◌∙◌}
use borrow.Author.Rules.{rules}
use native.Mathlib.Omega.{arith}
use Rattle.sizes.specs.Bounds.{site_at, sizes_of}
use Rattle.sizes.proofs.Offsets.{ordered, site-lies}
use Rattle.sizes.proofs.Counts.site_at.Goals as goal

pub areas-areas-requires : goal.areas-areas-requires
areas-areas-requires c = search rules

pub site_size-requires : goal.site_size-requires
site_size-requires c = search rules

pub nth-requires : goal.nth-requires
unfolding site_at sizes_of
nth-requires c =
    let s = c in
    let z = s.args.self in
    rw (c.site_size.ensures, c.areas-areas.ensures)
    (omega (arith, ordered z s.requires.ranged, site-lies z s.args.o s.requires.o_lt_sites))

pub returns : goal.returns
unfolding site_at sizes_of
returns c =
    let b = c in
    c.nth.ensures ∙ rw (b.site_size.ensures, b.areas-areas.ensures)
