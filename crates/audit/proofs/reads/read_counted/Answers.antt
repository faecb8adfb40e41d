-- `read_counted`: each test in turn.
-- Assumes nothing.
-- The key is below k.
use mathlib.Core.Path.{sym, ap, ◌∙◌}
use mathlib.Core.Bool.{So}
use Prim.Native.Nat.{◌≤◌}
use native.Mathlib.Omega.{arith}
use lib.Dec.{ltb}
use Rattle.words.proofs.Bools.{lt-ltb, ge-ltb}
use Rattle.clock.specs.Clock.{dominates, covering}
use Rattle.audit.proofs.reads.read_counted.Goals as goal
use Rattle.audit.proofs.reads.read_counted.Goals.{Else-k-key}

low : (c : Else-k-key) → let a = c.args in
    So (ltb a.key a.k)
low c =
    let a = c.args in
    lt-ltb a.key a.k (omega (arith, c.if-k-key.false))

pub returns-then-k-key : goal.returns-then-k-key
returns-then-k-key c =
    let a = c.args in
    let h : a.k ≤ a.key = omega (arith, c.if-k-key.true) in
    rw (ge-ltb a.key a.k h)

pub returns-then-not-present : goal.returns-then-not-present
returns-then-not-present c =
    let e = sym c.present.ensures ∙ c.if-not-present.true in
    rw (low (goal.at.returns-then-not-present c).Else-k-key, e)

pub returns : goal.returns
unfolding dominates
returns c =
    let p = c in
    let e = sym p.present.ensures ∙ p.if-not-present.false in
    rw (low (goal.at.returns c).Else-k-key, e) (c.covering.ensures ∙ ap covering
    c.compare.ensures)
