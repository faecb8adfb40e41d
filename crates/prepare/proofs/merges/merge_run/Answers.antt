-- `merge_run` clears the snapshot, and merges the caches into it.
-- Assumes nothing.
use Rattle.form.proofs.Known.{form-area}
use Rattle.prepare.proofs.Carrying.{snapshot_in_place, merge-area, run-merged}
use Rattle.prepare.proofs.merges.merge_run.Goals as goal

pub snapshot_at-snapshot-requires : goal.snapshot_at-snapshot-requires
snapshot_at-snapshot-requires c =
    record {
      ranged = (form-area _ _ c.requires.form).ranged;
      r_lt_runs = c.requires.run;
    }

pub clear_place-requires : goal.clear_place-requires
clear_place-requires c =
    rw c.snapshot_at-snapshot.ensures (snapshot_in_place _ _ _ c.requires)

pub merge_sites-requires : goal.merge_sites-requires
merge_sites-requires c =
    let a = c.args in
    merge-area a.words.now a.z a.r c.requires _ c.snapshot_at-snapshot.ensures _
    c.clear_place.ensures

pub returns : goal.returns
returns c =
    let a = c.args in
    run-merged a.words.now a.z a.r c.requires _ c.snapshot_at-snapshot.ensures _
    c.clear_place.ensures _ _ c.sites_used-sites.ensures c.plan_keys-plan.ensures _
    c.merge_sites.ensures
