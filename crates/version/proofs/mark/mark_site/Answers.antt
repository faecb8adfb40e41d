-- `mark_site` stores the mark behind the cache.
-- Assumes nothing.
-- The mark lies in the buffer.
use Prim.Native.Nat.{◌<◌}
use native.Mathlib.Omega.{arith}
use lib.ListN.{length}
use Rattle.sizes.specs.Bounds.{version_limit, stale_at}
use Rattle.version.proofs.Areas.{site-cache, mark_in}
use Rattle.version.proofs.mark.mark_site.Goals as goal
use Rattle.version.proofs.mark.mark_site.Goals.{Start}

inside : (c : Start) → let a = c.args in
    (stale_at a.z a.site < version_limit) × (stale_at a.z a.site < length a.words.now)
inside c = mark_in _ c.args.z c.args.site c.requires.1

pub stale_mask-mask-requires : goal.stale_mask-mask-requires
stale_mask-mask-requires c =
    (c.requires.0, site-cache (length c.args.words.now) c.args.z c.args.site c.requires.1)

pub offset_bounds-words-at : goal.offset_bounds-words-at
offset_bounds-words-at c =
    rw c.stale_at-at.ensures (omega (arith, (inside (goal.at.offset_bounds-words-at c).Start).0))

pub bounds-words-at : goal.bounds-words-at
bounds-words-at c =
    rw c.stale_at-at.ensures (inside (goal.at.bounds-words-at c).Start).1

pub returns : goal.returns
returns c = rw (c.stale_at-at.ensures, c.stale_mask-mask.ensures)
