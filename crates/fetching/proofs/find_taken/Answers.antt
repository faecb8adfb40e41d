-- `find_taken` finds T from the master and the cache of the site.
-- Assumes nothing.
use lib.ListN.{length}
use Rattle.layout.proofs.Readings.{master_in, cache_in}
use Rattle.version.proofs.Stores.{master-area, site-area}
use Rattle.form.proofs.Known.{form-area, master-found}
use Rattle.fetching.proofs.find_taken.Goals as goal

pub areas-areas-requires : goal.areas-areas-requires
areas-areas-requires c = (form-area _ _ c.requires.form_with.0).ranged

pub site_at-cache-requires : goal.site_at-cache-requires
site_at-cache-requires c =
    let s = c in record {
      ranged = (form-area _ _ s.requires.form_with.0).ranged;
      o_lt_sites = s.requires.form_with.1;
    }

pub fetch_set-requires : goal.fetch_set-requires
fetch_set-requires c =
    let t = c in
    let s = t in
    let a = s.args in
    let R = form-area a.words.now a.z s.requires.form_with.0 in
    let len = length a.words.now in record {
      area = (
        rw (master-found a.z t.areas-areas.result t.areas-areas.ensures)
            (master-area len a.z R.ranged R.fits),
        rw c.site_at-cache.ensures
            (site-area len a.z R.ranged R.fits a.o s.requires.form_with.1),
      );
      start_bound = s.requires.start_bound;
    }

pub returns : goal.returns
returns c =
    let u = c in
    let t = u in
    let s = t in
    let a = s.args in
    rw (
      master_in a.words.now a.z s.requires.form_with.0.counts,
      cache_in a.words.now a.z s.requires.form_with.0.counts a.o s.requires.form_with.1,
      ← master-found a.z t.areas-areas.result t.areas-areas.ensures,
      ← u.site_at-cache.ensures,
    ) c.fetch_set.ensures
