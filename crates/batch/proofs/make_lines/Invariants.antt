-- `make_lines` meets its contract: the lines that are left come to what all of them come to.
-- Assumes nothing.
-- Where the function was entered.
-- Where a line's end was found.
-- How many bytes of answers there are.
-- The line end that was looked for isn't behind the text.
use mathlib.Core.Path.{◌≡◌}
use Prim.Native.Nat.{◌-◌, ◌≤◌}
use lib.ListN.{length, take, drop}
use Rattle.layout.specs.Buffer.{in_form}
use Rattle.batch.specs.Lines.{whole_lines}
use Rattle.batch.specs.Batch.{point, lines_done, text_done}
use Rattle.batch.proofs.make_lines.Given as goal

abbrev pub invariant-loop-out : goal.invariant-loop-out
invariant-loop-out l =
    (l.at ≤ length l.text) × (l.end ≤ length l.initial.out) × (length l.store ≡ length
    l.initial.store)
    × (length l.out ≡ length l.initial.out) × (length l.scratch ≡ length l.initial.scratch)
    × (length l.numbers ≡ length l.initial.numbers) × (length l.answer ≡ length l.initial.answer)
    × (length l.row ≡ length l.initial.row) × (l.ready ≡ in_form l.store) × (drop l.end l.out ≡
    drop l.end l.initial.out)
    × (lines_done (length l.initial.out) (point l.store l.scratch (take l.end l.out) l.at)
    (whole_lines (drop l.at l.text))
    ≡ text_done l.initial.store l.initial.scratch (length l.initial.out) l.text)

abbrev pub decreases-loop-out : goal.decreases-loop-out
decreases-loop-out l =
    length l.text - l.at
