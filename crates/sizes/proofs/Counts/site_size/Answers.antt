-- `site_size` is the size of a site: its cache, and the words behind it.
-- Assumes nothing.
use native.Mathlib.Omega.{arith}
use Rattle.sizes.specs.Bounds.{site_size}
use Rattle.sizes.proofs.Offsets.{largest}
use Rattle.sizes.proofs.Counts.site_size.Goals as goal

pub overflow_add-result : goal.overflow_add-result
overflow_add-result c =
    let s = c in
    omega (arith, c.place_size.ensures, largest s.args.self s.requires)

pub returns : goal.returns
unfolding site_size
returns c = rw c.place_size.ensures
