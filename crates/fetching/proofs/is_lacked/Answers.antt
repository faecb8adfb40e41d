-- `is_lacked` asks the master for the keys of T.
-- Assumes nothing.
use lib.ListN.{length}
use Rattle.layout.proofs.Readings.{master_in}
use Rattle.version.proofs.Stores.{master-area}
use Rattle.form.proofs.Known.{form-area, master-found}
use Rattle.fetching.proofs.is_lacked.Goals as goal

pub areas-areas-requires : goal.areas-areas-requires
areas-areas-requires c = (form-area _ _ c.requires.form_with).ranged

pub is_unfetchable-requires : goal.is_unfetchable-requires
is_unfetchable-requires c =
    let s = c in
    let a = s.args in
    let R = form-area a.words.now a.z s.requires.form_with in record {
      area = rw (master-found a.z c.areas-areas.result c.areas-areas.ensures)
          (master-area (length a.words.now) a.z R.ranged R.fits);
      start_bound = s.requires.taken_bound;
    }

pub returns : goal.returns
returns c =
    let t = c in
    let s = t in
    let a = s.args in
    rw (
      master_in a.words.now a.z s.requires.form_with.counts,
      ← master-found a.z t.areas-areas.result t.areas-areas.ensures,
    ) c.is_unfetchable.ensures
