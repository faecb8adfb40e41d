-- `put_marks` stores two words.
-- Assumes nothing.
-- The second read mask, and the mark.
use native.Mathlib.Omega.{arith}
use Prim.Native.Nat.{◌<◌}
use lib.ListN.{length, length-set}
use Rattle.sizes.specs.Bounds.{max_total}
use Rattle.fork.proofs.Indices.{read-index, mark-index}
use Rattle.fork.proofs.put_marks.Goals as goal
use Rattle.fork.proofs.put_marks.Goals.{After-mark_at-at}

theirs : (c : After-mark_at-at) → (c.read_on-theirs.result < max_total)
    × (c.read_on-theirs.result < length c.args.words.now)
theirs c =
    rw c.read_on-theirs.ensures (read-index _ _ c.requires.store_area _ c.requires.r_lt_runs 1)

here : (c : After-mark_at-at) → (c.mark_at-at.result < max_total)
    × (c.mark_at-at.result < length c.args.words.now)
here c =
    rw c.mark_at-at.ensures (mark-index _ _ c.requires.store_area _ c.requires.r_lt_runs)

pub returns : goal.returns
returns c = rw (c.read_on-theirs.ensures, c.mark_at-at.ensures)

pub offset_bounds-words-theirs : goal.offset_bounds-words-theirs
offset_bounds-words-theirs c =
    omega (arith, theirs (goal.at.offset_bounds-words-theirs c).After-mark_at-at)

pub bounds-words-theirs : goal.bounds-words-theirs
bounds-words-theirs c = (theirs (goal.at.bounds-words-theirs c).After-mark_at-at).1

pub offset_bounds-words-at : goal.offset_bounds-words-at
offset_bounds-words-at c = omega (arith, here (goal.at.offset_bounds-words-at c).After-mark_at-at)

pub bounds-words-at : goal.bounds-words-at
bounds-words-at c = simp length-set (here (goal.at.bounds-words-at c).After-mark_at-at).1
