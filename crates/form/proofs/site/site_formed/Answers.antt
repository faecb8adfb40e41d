-- `site_formed` tests the cache, the mark behind it, and what it holds.
-- Assumes nothing.
use native.Mathlib.Omega.{arith}
use Rattle.model.specs.Form.{site_formed}
use Rattle.layout.specs.Reading.{read_site}
use Rattle.version.proofs.Areas.{site-cache, mark_in}
use Rattle.form.proofs.site.site_formed.Goals as goal

pub stale_mask-mark-requires : goal.stale_mask-mark-requires
stale_mask-mark-requires c =
    (c.requires.0, site-cache _ c.args.z c.args.site c.requires.1)

pub place_formed-requires : goal.place_formed-requires
place_formed-requires c =
    site-cache _ c.args.z c.args.site c.requires.1

pub offset_bounds-words-at : goal.offset_bounds-words-at
offset_bounds-words-at c =
    rw c.stale_at-at.ensures
    (omega (arith, (mark_in _ c.args.z c.args.site c.requires.1).0))

pub bounds-words-at : goal.bounds-words-at
bounds-words-at c =
    rw c.stale_at-at.ensures (mark_in _ c.args.z c.args.site c.requires.1).1

pub returns : goal.returns
unfolding site_formed read_site
returns c =
    rw (
      c.place_formed.ensures,
      c.holding_formed-holding.ensures,
      c.stale_mask-mark.ensures,
      c.stale_at-at.ensures,
    )
