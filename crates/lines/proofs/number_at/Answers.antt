-- `lines::number_at` reads one of the first n numbers, or answers 0.
-- Assumes nothing.
use native.Mathlib.Omega.{arith}
use mathlib.Core.Path.{sym}
use lib.ListN.{take, get_or-eq_default}
use lib.Seq.{get_or-take, length-take-le}
use Rattle.lines.proofs.number_at.Goals as goal

pub returns-then-i-n : goal.returns-then-i-n
returns-then-i-n c =
    let a = c.args in
    sym (get_or-take a.n a.numbers.now a.i 0 c.if-i-n.true)

pub returns-else-i-n : goal.returns-else-i-n
returns-else-i-n c =
    let a = c.args in
    let l = length-take-le a.n a.numbers.now c.requires in
    sym (get_or-eq_default (take a.n a.numbers.now) 0 (omega (arith, l, c.if-i-n.false)))
