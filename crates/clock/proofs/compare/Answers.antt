-- `compare` answers the standing of two clocks. The loop's invariant: whether some count passed
-- is larger, whether some is smaller, and whether some is one of these.
-- Assumes nothing.
use mathlib.Core.Path.{◌≡◌, refl, sym, ap₂, ◌∙◌}
use native.Mathlib.Omega.{arith}
use Rattle.words.specs.Tests.{any_below}
use Rattle.words.proofs.Orders.{cmp-gt, cmp-lt}
use Rattle.clock.specs.Clock.{exceeds, standing_of, standing, clock_at}
use Rattle.clock.proofs.Standings.{exceeds-more, differing-more}
use Rattle.clock.proofs.compare.Goals as goal

pub loop-i-init : goal.loop-i-init
unfolding exceeds any_below
loop-i-init c = (omega arith, refl, refl, refl)

pub loop-i-preserved : goal.loop-i-preserved
unfolding clock_at
loop-i-preserved c =
    let l = c in
    let a = l.args in
    let p = clock_at a.p.now a.a in
    let q = clock_at a.q.now a.b in
    let i = l.loop-i.i in
    let x = c.count_at-x in
    let y = c.count_at-y in
    let m = x.ensures in
    let n = y.ensures in
    let over = c.gt-over.ensures ∙ cmp-gt x.result.0 y.result.0 in
    let under = c.lt-under.ensures ∙ cmp-lt x.result.0 y.result.0 in (
      omega arith,
      rw (exceeds-more p q i, ← l.loop-i.invariant.1, over, m, n),
      rw (exceeds-more q p i, ← l.loop-i.invariant.2, under, m, n),
      rw (over, under, c.ne-unequal.ensures, m, n, l.loop-i.invariant.3)
          (sym (differing-more l.loop-i.over l.loop-i.under (p i) (q i))),
    )

pub standing_of-requires : goal.standing_of-requires
standing_of-requires c = c.loop-i.invariant.3

pub returns : goal.returns
unfolding standing
returns c =
    let l = c in
    let a = l.args in
    let e : l.loop-i.i ≡ a.w = omega arith in
    rw (← e) (c.standing_of.ensures ∙ ap₂ standing_of l.loop-i.invariant.1 l.loop-i.invariant.2)
