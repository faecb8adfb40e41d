-- `lister::small::small_at` tells the call of a number. Assumes nothing.
use native.Mathlib.Omega.{arith}
use Rattle.lister.proofs.Smalls.{at-fetch, at-evict, at_open, at-step, at-issue, at_drop, tells-fetch, tells-evict, tells_open, tells-step, tells-issue, tells-drop}
use Rattle.lister.proofs.small.small_at.Goals as goal

pub returns-in-0-to-3 : goal.returns-in-0-to-3
returns-in-0-to-3 c =
    rw (at-fetch c.args.i (omega arith)) (tells-fetch _ _ _ _ c.lay-in-0-to-3.ensures)

pub returns-in-4-to-7 : goal.returns-in-4-to-7
returns-in-4-to-7 c =
    rw (at-evict c.args.i (omega arith) (omega arith))
    (tells-evict _ _ _ _ c.lay-in-4-to-7.ensures)

pub returns-in-8-to-15 : goal.returns-in-8-to-15
returns-in-8-to-15 c =
    rw (at_open c.args.i (omega arith) (omega arith))
    (tells_open _ _ _ _ c.lay-in-8-to-15.ensures)

pub returns-in-16 : goal.returns-in-16
returns-in-16 c =
    rw (at-step c.args.i (omega arith)) (tells-step _ _ c.lay.ensures)

pub returns-in-17-to-24 : goal.returns-in-17-to-24
returns-in-17-to-24 c =
    rw (at-issue c.args.i (omega arith) (omega arith))
    (tells-issue _ _ _ _ c.lay-in-17-to-24.ensures)

pub returns-in_default : goal.returns-in_default
returns-in_default c =
    rw (at_drop c.args.i (omega arith)) (tells-drop _ _ c.lay-in_default.ensures)
