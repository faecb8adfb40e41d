-- `present` answers whether some count of a clock is not zero. The loop's invariant: so it does
-- for the counts passed.
-- Assumes nothing.
use mathlib.Core.Path.{◌≡◌, refl, sym, ◌∙◌}
use native.Mathlib.Omega.{arith}
use lib.Dec.{leb}
use Rattle.words.specs.Tests.{any_below}
use Rattle.words.proofs.Tests.{any-more}
use Rattle.clock.specs.Clock.{present, clock_at}
use Rattle.clock.proofs.Order.{or-present}
use Rattle.clock.proofs.present.Goals as goal

pub loop-i-init : goal.loop-i-init
unfolding present any_below
loop-i-init c = (omega arith, refl)

pub loop-i-preserved : goal.loop-i-preserved
unfolding present clock_at
loop-i-preserved c =
    let l = c in
    let a = l.args in
    let C = clock_at a.words.now a.at in
    let i = l.loop-i.i in (
      omega arith,
      or-present l.loop-i.all (C i)
          ∙ rw l.loop-i.invariant.1 (sym (any-more (λ u. leb 1 (C u)) i)),
    )

pub returns : goal.returns
returns c =
    let l = c in
    let e : l.loop-i.i ≡ l.args.w = omega arith in
    rw (← e) l.loop-i.invariant.1
