-- `is_barred` tests the mask against the word of what the writer may save.
-- Assumes nothing.
-- The word lies in the buffer.
use Prim.Native.Nat.{◌<◌}
use native.Mathlib.Omega.{arith}
use lib.ListN.{length}
use Rattle.sizes.specs.Bounds.{version_limit, may_save_at}
use Rattle.form.proofs.Known.{form-area}
use Rattle.form.proofs.Stores.{save_in}
use Rattle.issue.proofs.Known.{barred-word}
use Rattle.issue.proofs.is_barred.Goals as goal
use Rattle.issue.proofs.is_barred.Goals.{Start}

inside : (s : Start) → let a = s.args in
    (may_save_at a.z a.w < version_limit) × (may_save_at a.z a.w < length a.words.now)
inside s = save_in _ _ (form-area _ _ s.requires.form_with.0) s.args.w s.requires.form_with.1

pub returns : goal.returns
returns c =
    cc (barred-word _ _ c.requires.form_with.0 c.args.w c.args.mask c.requires.form_with.1
    c.requires.mask_bound)

pub may_save_at-at-requires : goal.may_save_at-at-requires
may_save_at-at-requires c = record {
  ranged = (form-area _ _ c.requires.form_with.0).ranged;
  w_lt_writers = c.requires.form_with.1;
}

pub offset_bounds-words-at : goal.offset_bounds-words-at
offset_bounds-words-at c = omega (arith, inside (goal.at.offset_bounds-words-at c).Start)

pub bounds-words-at : goal.bounds-words-at
bounds-words-at c = omega (arith, inside (goal.at.bounds-words-at c).Start)
