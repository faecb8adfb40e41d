-- The test of site o in `sites_formed`.
-- Assumes nothing.
-- The mask of site o lies in the buffer.
use mathlib.Core.Path.{◌∙◌}
use native.Mathlib.Omega.{arith}
use Prim.Native.Nat.{◌<◌}
use lib.ListN.{length}
use Rattle.sizes.specs.Bounds.{version_limit, master_at}
use Rattle.form.proofs.Stores.{hold_in}
use Rattle.version.proofs.Stores.{master-area, site-whole}
use Rattle.form.proofs.fn.sites_formed.all.Goals as goal
use Rattle.form.proofs.fn.sites_formed.all.Goals.{After-may_hold_at}

right-in : (c : After-may_hold_at)
    → (c.may_hold_at.result < version_limit) × (c.may_hold_at.result < length c.captures.words.now)
right-in c = rw c.may_hold_at.ensures (hold_in _ _ c.requires.0 c.args.o c.requires.1)

pub offset_bounds-words-may_hold_at : goal.offset_bounds-words-may_hold_at
offset_bounds-words-may_hold_at c = omega (
  arith,
  right-in (goal.at.offset_bounds-words-may_hold_at c).After-may_hold_at,
)

pub bounds-words-may_hold_at : goal.bounds-words-may_hold_at
bounds-words-may_hold_at c = (right-in (goal.at.bounds-words-may_hold_at c).After-may_hold_at).1

pub site_formed-requires : goal.site_formed-requires
unfolding master_at
site_formed-requires c =
    let A = c.requires.0 in
    rw c.site_at.ensures (
      master-area _ _ A.ranged A.fits,
      site-whole _ _ A.ranged A.fits c.args.o c.requires.1,
    )

pub returns : goal.returns
unfolding master_at
returns c = c.site_formed.ensures ∙ rw (c.site_at.ensures, c.may_hold_at.ensures)
