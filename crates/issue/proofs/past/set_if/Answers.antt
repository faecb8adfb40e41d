-- `set_if` stores the count in one row, if the key is in the mask.
-- Assumes nothing.
use mathlib.Core.Path.{sym, ◌∙◌}
use Prim.Native.Nat.{◌+◌, ◌<◌}
use native.Mathlib.Omega.{arith}
use lib.ListN.{length}
use Rattle.issue.proofs.Areas.{row_room}
use Rattle.issue.proofs.Writers.{row-yes, row-no}
use Rattle.issue.proofs.past.set_if.Goals as goal
use Rattle.issue.proofs.past.set_if.Goals.{After-writer_row_at-row}

here : (c : After-writer_row_at-row) → let a = c.args in
    c.writer_row_at-row.result + a.w < length a.words.now
here c =
    let a = c.args in
    rw c.writer_row_at-row.ensures
    (row_room _ a.z a.at a.k a.w c.requires.writer_area.fits c.requires.w_lt_writers.1
    c.requires.w_lt_writers.0)

pub set_count-requires : goal.set_count-requires
set_count-requires c = here (goal.at.set_count-requires c).After-writer_row_at-row

pub returns-then-has : goal.returns-then-has
returns-then-has c =
    let a = c.args in
    c.set_count.ensures
    ∙ rw c.writer_row_at-row.ensures
    (row-yes a.z a.words.now a.at a.w a.mask a.new.0 a.k c.requires.writer_area.fits
    c.requires.w_lt_writers.0 c.requires.w_lt_writers.1 (sym c.has.ensures ∙ c.if-has.true))

pub returns-else-has : goal.returns-else-has
returns-else-has c =
    let a = c.args in
    row-no a.z a.words.now a.at a.w a.mask a.new.0 a.k
    (sym c.has.ensures ∙ c.if-has.false)

pub overflow_add-row : goal.overflow_add-row
overflow_add-row c = omega (arith, here (goal.at.overflow_add-row c).After-writer_row_at-row)
