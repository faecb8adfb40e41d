-- `save_keys` stores the issue number, the writer, the master, then the marks.
-- Assumes nothing.
-- Where the parts lie.
-- Number and writer are stored.
-- The master is merged.
use mathlib.Core.Path.{◌≡◌, sym, ◌∙◌}
use native.Mathlib.Omega.{arith}
use lib.ListN.{length}
use Rattle.words.proofs.Bools.{ne_eqb}
use Rattle.layout.specs.Reading.{store_of}
use Rattle.layout.specs.Buffer.{written}
use Rattle.version.proofs.Stores.{master-area}
use Rattle.form.proofs.Known.{form-long, form-area, master-found}
use Rattle.issue.specs.Saves.{Takes, Saves}
use Rattle.issue.proofs.Areas.{takes-area, saves-area}
use Rattle.issue.proofs.Chain.{savable_in, saved-number, counted_store, merged_store, writer-done, master-done, marks-done}
use Rattle.issue.proofs.save_keys.Goals as goal
use Rattle.issue.proofs.save_keys.Goals.{After-merge_saved, After-next_numbers-tally, After-save_writer}

counted : (c : After-save_writer)
    → let a = c.args in
    let l = a.words.now in
    c.save_writer.new.words ≡ written (counted_store (store_of l) a.r a.w a.mask) l
counted c =
    let a = c.args in
    let R = savable_in _ _ _ _ _ c.requires.form_with c.requires.savable.0 in
    writer-done a.words.now a.z c.requires.form_with a.r a.w a.mask R.0 R.1 R.2
    _ _ _ _ _ _ _ c.writer_at-at.ensures c.snapshot_at-snapshot.ensures
    c.read_mask-read.ensures c.next_numbers-tally.ensures.issue
    c.next_numbers-tally.ensures.count c.set_last_issue.ensures c.save_writer.ensures

pub areas-areas-requires : goal.areas-areas-requires
areas-areas-requires c =
    (form-area c.args.words.now c.args.z c.requires.form_with).ranged

pub writer_at-at-requires : goal.writer_at-at-requires
writer_at-at-requires c =
    let a = c.args in record {
      ranged = (form-area a.words.now a.z c.requires.form_with).ranged;
      u_lt_writers = (savable_in a.words.now a.z _ _ _ c.requires.form_with
          c.requires.savable.0).1;
    }

pub snapshot_at-snapshot-requires : goal.snapshot_at-snapshot-requires
snapshot_at-snapshot-requires c =
    let a = c.args in record {
      ranged = (form-area a.words.now a.z c.requires.form_with).ranged;
      r_lt_runs = (savable_in a.words.now a.z _ _ _ c.requires.form_with c.requires.savable.0).0;
    }

pub read_mask-read-requires : goal.read_mask-read-requires
read_mask-read-requires c =
    let a = c.args in
    record {
      form_with = c.requires.form_with;
      r_lt_runs = (savable_in a.words.now a.z _ _ _ c.requires.form_with c.requires.savable.0).0;
    }

pub next_numbers-tally-requires : goal.next_numbers-tally-requires
next_numbers-tally-requires c =
    let a = c.args in
    let K = c.requires.savable in record {
      form_with = c.requires.form_with;
      w_lt_writers = (
        (savable_in a.words.now a.z _ _ _ c.requires.form_with K.0).1,
        K.0.raised (ne_eqb a.mask 0 (omega (arith, K.1))),
      );
    }

pub set_last_issue-requires : goal.set_last_issue-requires
set_last_issue-requires c =
    form-long c.args.words.now c.requires.form_with.form

takes : (c : After-next_numbers-tally)
    → let a = c.args in
    Takes (length a.words.now) a.z c.writer_at-at.result c.snapshot_at-snapshot.result
takes c =
    let a = c.args in
    let R = savable_in _ _ _ _ _ c.requires.form_with c.requires.savable.0 in
    rw (c.writer_at-at.ensures, c.snapshot_at-snapshot.ensures)
    (takes-area _ a.z (form-area a.words.now a.z c.requires.form_with) a.w a.r R.1 R.0)

saves : (c : After-next_numbers-tally)
    → let a = c.args in
    Saves (length a.words.now) a.z c.areas-areas.result.master c.writer_at-at.result
saves c =
    let a = c.args in
    let R = savable_in _ _ _ _ _ c.requires.form_with c.requires.savable.0 in
    rw (c.writer_at-at.ensures, master-found a.z c.areas-areas.result c.areas-areas.ensures)
    (saves-area _ a.z (form-area a.words.now a.z c.requires.form_with) a.w R.1)

saved : (c : After-merge_saved)
    → let a = c.args in
    let l = a.words.now in
    c.merge_saved.new.words ≡ written (merged_store (store_of l) a.r a.w a.mask) l
saved c =
    let a = c.args in
    let R = savable_in _ _ _ _ _ c.requires.form_with c.requires.savable.0 in
    master-done a.words.now a.z c.requires.form_with a.r a.w a.mask R.0 R.1 R.2
    _ _ _ _ _ (master-found a.z c.areas-areas.result c.areas-areas.ensures)
    c.writer_at-at.ensures c.next_numbers-tally.ensures.issue
    (writer-done a.words.now a.z c.requires.form_with a.r a.w a.mask R.0 R.1 R.2
    _ _ _ _ _ _ _ c.writer_at-at.ensures c.snapshot_at-snapshot.ensures
    c.read_mask-read.ensures c.next_numbers-tally.ensures.issue
    c.next_numbers-tally.ensures.count c.set_last_issue.ensures c.save_writer.ensures)
    c.merge_saved.ensures

pub save_writer-requires : goal.save_writer-requires
save_writer-requires c =
    record {
      takes = rw c.set_last_issue.auto.words (takes
          (goal.at.save_writer-requires c).After-next_numbers-tally);
      w_lt_writers = (savable_in _ _ _ _ _ c.requires.form_with c.requires.savable.0).1;
    }

pub merge_saved-requires : goal.merge_saved-requires
merge_saved-requires c =
    record {
      saves = rw (c.save_writer.auto.words ∙ c.set_last_issue.auto.words) (saves
          (goal.at.merge_saved-requires c).After-next_numbers-tally);
      w_lt_writers = (savable_in _ _ _ _ _ c.requires.form_with c.requires.savable.0).1;
    }

pub mark_sites-requires : goal.mark_sites-requires
mark_sites-requires c =
    let a = c.args in
    let A = form-area a.words.now a.z c.requires.form_with in
    let M = master-area _ a.z A.ranged A.fits in
    rw (c.merge_saved.auto.words ∙ c.save_writer.auto.words ∙ c.set_last_issue.auto.words)
    (rw (master-found a.z c.areas-areas.result c.areas-areas.ensures) M, A)

pub returns : goal.returns
returns c =
    let n = c.before.before.before.before.before.before in
    let a = n.args in
    let l = a.words.now in
    let R = savable_in _ _ _ _ _ c.requires.form_with c.requires.savable.0 in record {
      answers = n.next_numbers-tally.ensures.issue ∙ sym (saved-number (store_of l) a.mask
          n.requires.savable.1);
      leaves = marks-done l a.z n.requires.form_with a.r a.w a.mask R.0 R.1 R.2 _ _ _
          n.requires.savable.1
          (master-found a.z n.areas-areas.result n.areas-areas.ensures)
          (saved (goal.at.returns c).After-merge_saved) c.mark_sites.ensures;
    }
