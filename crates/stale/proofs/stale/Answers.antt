-- `stale` is refused for a site that there isn't, or reads its mark.
-- holds: a buffer in form, and the counts read from it. site: it is one of the store.
-- Assumes nothing.
use native.Mathlib.Omega.{arith}
use lib.ListN.{length}
use Rattle.sizes.specs.Bounds.{site_at}
use Rattle.version.specs.Places.{SiteArea}
use Rattle.version.proofs.Stores.{site-whole}
use Rattle.version.proofs.Areas.{mark_in}
use Rattle.form.specs.Parts.{FormWith}
use Rattle.form.proofs.Known.{form-long, form-area}
use Rattle.stale.proofs.Answers.{stale-out, stale-done}
use Rattle.stale.proofs.stale.Goals as goal
use Rattle.stale.proofs.stale.Goals.{After-counts-z, Else-z-o}

holds : (c : After-counts-z) → FormWith c.args.words.now c.counts-z.result
holds c = record { form = c.requires; counts = c.counts-z.ensures }

site : (c : Else-z-o) → let z = c.counts-z.result in
    SiteArea (length c.args.words.now) z (site_at z c.args.site)
site c =
    let A = form-area _ _ (record { form = c.requires; counts = c.counts-z.ensures }) in
    site-whole _ _ A.ranged A.fits _ c.if-z-o.false

pub counts-z-requires : goal.counts-z-requires
counts-z-requires c = form-long _ c.requires

pub returns-then-z-o : goal.returns-then-z-o
returns-then-z-o c =
    stale-out _ _ (holds (goal.at.returns-then-z-o c).After-counts-z) _ c.if-z-o.true

pub site_at-site-requires : goal.site_at-site-requires
site_at-site-requires c = record {
  ranged = (site (goal.at.site_at-site-requires c).Else-z-o).ranged;
  o_lt_sites = c.if-z-o.false;
}

pub stale_at-at-requires : goal.stale_at-at-requires
stale_at-at-requires c =
    let A = site (goal.at.stale_at-at-requires c).Else-z-o in record {
      ranged = A.ranged;
      at_lt_place_limit = rw c.site_at-site.ensures A.low;
    }

pub offset_bounds-words-at : goal.offset_bounds-words-at
offset_bounds-words-at c =
    rw (c.stale_at-at.ensures, c.site_at-site.ensures)
    (omega (arith, (mark_in _ _ _ (site (goal.at.offset_bounds-words-at c).Else-z-o)).0))

pub bounds-words-at : goal.bounds-words-at
bounds-words-at c =
    rw (c.stale_at-at.ensures, c.site_at-site.ensures)
    (mark_in _ _ _ (site (goal.at.bounds-words-at c).Else-z-o)).1

pub returns : goal.returns
returns c =
    rw (c.stale_at-at.ensures, c.site_at-site.ensures)
    (stale-done _ _ (holds (goal.at.returns c).After-counts-z) _ c.if-z-o.false)
