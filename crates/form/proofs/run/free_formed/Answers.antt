-- `free_formed` compares every part of a free run with nothing.
-- Assumes nothing.
use native.Mathlib.Omega.{arith}
use Rattle.sizes.specs.Bounds.{run_size}
use Rattle.layout.specs.Reading.{read_run}
use Rattle.form.proofs.Runs.{first-area, second-area}
use Rattle.form.proofs.Snapshots.{free-test}
use Rattle.form.proofs.run.free_formed.Goals as goal

pub is_vacant-requires : goal.is_vacant-requires
unfolding run_size
is_vacant-requires c = record {
  area = first-area _ _ _ c.requires;
  read_in_bounds = omega arith;
}

pub is_vacant-requires-2 : goal.is_vacant-requires-2
unfolding run_size
is_vacant-requires-2 c = record {
  area = rw c.front_size-front.ensures (second-area _ _ _ c.requires);
  read_in_bounds = omega arith;
}

pub returns : goal.returns
unfolding read_run
returns c =
    let a = c.args in
    rw (
      c.word_is.ensures,
      c.word_is-2.ensures,
      c.each_job.ensures,
      c.is_vacant.ensures,
      c.word_is-3.ensures,
      c.is_vacant-2.ensures,
      c.front_size-front.ensures,
    )
    (free-test a.z a.words.now a.at)
