-- `snapshot_formed` compares the keys that are held, planned and read.
-- Assumes nothing.
use native.Mathlib.Omega.{arith}
use Rattle.sizes.specs.Bounds.{run_size}
use Rattle.form.proofs.Masks.{jobs-most}
use Rattle.form.proofs.Snapshots.{snapshot-test}
use Rattle.form.proofs.run.snapshot_formed.Goals as goal

pub reads_of-plan-requires : goal.reads_of-plan-requires
unfolding run_size
reads_of-plan-requires c =
    let a = c.args in (omega arith, jobs-most a.z a.words.now a.at c.requires.so)

pub returns : goal.returns
returns c =
    let a = c.args in
    rw (
      c.place_formed.ensures,
      c.without.ensures,
      c.without-2.ensures,
      c.reads_of-plan.ensures,
      c.held_mask-carried.ensures,
    )
    (snapshot-test a.z a.words.now a.at a.read a.card c.requires.so
    c.requires.read_in_bounds.1)
