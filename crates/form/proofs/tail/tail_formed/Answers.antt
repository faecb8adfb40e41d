-- `tail_formed` tests the words behind the runs.
-- Assumes nothing.
-- The words lie in the buffer, and their indices are small.
use native.Mathlib.Omega.{arith}
use Prim.Native.Nat.{◌+◌, ◌≤◌}
use lib.ListN.{length}
use Rattle.sizes.specs.Bounds.{max_total, tail_size}
use Rattle.sizes.proofs.Offsets.{ordered}
use Rattle.model.specs.Form.{tail_formed}
use Rattle.layout.specs.Reading.{read_tail_of}
use Rattle.form.proofs.tail.tail_formed.Goals as goal
use Rattle.form.proofs.tail.tail_formed.Goals.{After-round_at-at}

inside : (c : After-round_at-at) → let a = c.args in
    let end = c.round_at-at.result + (1 + (a.z.sites + a.z.writers)) in
    (end ≤ max_total) × (end ≤ length a.words.now)
unfolding tail_size
inside c =
    let q = ordered c.args.z c.requires.ranged in
    (omega (arith, c.round_at-at.ensures), omega (arith, c.round_at-at.ensures, c.requires.fits))

pub overflow_add-hold : goal.overflow_add-hold
overflow_add-hold c = omega (arith, inside (goal.at.overflow_add-hold c).After-round_at-at)

pub overflow_add-save : goal.overflow_add-save
overflow_add-save c = omega (arith, inside (goal.at.overflow_add-save c).After-round_at-at)

pub offset_bounds-words-at : goal.offset_bounds-words-at
offset_bounds-words-at c = omega (
  arith,
  inside (goal.at.offset_bounds-words-at
      c).After-round_at-at,
)

pub bounds-words-at : goal.bounds-words-at
bounds-words-at c = omega (arith, inside (goal.at.bounds-words-at c).After-round_at-at)

pub rights_formed-requires : goal.rights_formed-requires
rights_formed-requires c =
    let r = c.before.before.before.before in
    record {
      ranged = r.requires.ranged;
      n_in_bounds = omega (arith, (inside (goal.at.rights_formed-requires c).After-round_at-at).1);
    }

pub rights_formed-requires-2 : goal.rights_formed-requires-2
rights_formed-requires-2 c =
    let r = c.before.before.before.before.before in
    record {
      ranged = r.requires.ranged;
      n_in_bounds = omega (
        arith,
        (inside (goal.at.rights_formed-requires-2
            c).After-round_at-at).1,
      );
    }

pub returns : goal.returns
unfolding read_tail_of tail_formed
returns c =
    rw (
      c.rights_formed.ensures,
      c.rights_formed-2.ensures,
      c.round_at-at.ensures,
    )
