-- `masks_formed` compares the masks with the jobs and with what the done ones read.
-- Assumes nothing.
use native.Mathlib.Omega.{arith}
use Rattle.sizes.specs.Bounds.{run_size}
use Rattle.form.proofs.Masks.{jobs-most, masks-test}
use Rattle.form.proofs.run.masks_formed.Goals as goal

pub reads_of-reads-requires : goal.reads_of-reads-requires
unfolding run_size
reads_of-reads-requires c =
    let a = c.args in (omega arith, jobs-most a.z a.words.now a.at c.requires.so)

pub is_below-requires : goal.is_below-requires
is_below-requires c =
    let a = c.args in omega (arith, jobs-most a.z a.words.now a.at c.requires.so)

pub returns : goal.returns
returns c =
    rw (c.is_below.ensures, c.reads_of-reads.ensures)
    (masks-test c.args.z c.args.words.now c.args.at c.front_size-front.result
    c.front_size-front.ensures c.requires.so)
