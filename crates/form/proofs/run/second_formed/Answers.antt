-- `second_formed` tests the mark, then the second branch by it.
-- Assumes nothing.
use native.Mathlib.Omega.{arith}
use Rattle.sizes.specs.Bounds.{run_size}
use Rattle.model.proofs.Plans.{masks-out}
use Rattle.layout.specs.Reading.{read_run}
use Rattle.form.proofs.Runs.{second-area}
use Rattle.form.proofs.Masks.{read_low}
use Rattle.form.proofs.Snapshots.{forked-test, single-test}
use Rattle.form.proofs.run.second_formed.Goals as goal

pub snapshot_formed-requires : goal.snapshot_formed-requires
unfolding read_run run_size
snapshot_formed-requires c =
    let a = c.args in
    let x = read_run a.z a.words.now a.at in
    let low = read_low a.z x (masks-out a.z x c.requires.so_2) 1 in record {
      run_area = (
        c.requires.run_area,
        rw c.front_size-front.ensures (second-area _ _ _ c.requires.run_area),
      );
      so = c.requires.so;
      read_in_bounds = (omega arith, rw c.front_size-front.ensures low);
    }

pub returns-then-mark-eq-FORKED_MARK : goal.returns-then-mark-eq-FORKED_MARK
unfolding read_run
returns-then-mark-eq-FORKED_MARK c =
    let a = c.args in
    let e = c.front_size-front.ensures in
    rw (c.snapshot_formed.ensures, e)
    (forked-test a.z a.words.now a.at (rw e at c.if-mark-eq-FORKED_MARK.true))

pub is_vacant-requires : goal.is_vacant-requires
unfolding run_size
is_vacant-requires c = record {
  area = rw c.front_size-front.ensures (second-area _ _ _ c.requires.run_area);
  read_in_bounds = omega arith;
}

pub returns : goal.returns
unfolding read_run
returns c =
    let a = c.args in
    let e = c.front_size-front.ensures in
    rw (c.is_vacant.ensures, e)
    (single-test a.z a.words.now a.at (rw e at c.if-mark-eq-FORKED_MARK.false))
