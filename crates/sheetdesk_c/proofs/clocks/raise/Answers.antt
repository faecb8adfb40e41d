-- Stores the join of two clocks, place by place.
use Rattle.std.proofs.Common.{◌≡◌, refl, ap, ap₂, ◌∙◌, ◌+◌, max, get_or, arith}
use Rattle.words.specs.Words.{put}
use Rattle.words.proofs.Orders.{max-by}
use Rattle.words.proofs.Words.{put-high, put_step}
use Rattle.clock.specs.Clock.{join, clock_at}
use Rattle.sheetdesk_c.proofs.Lengths.{clock-at}
use Rattle.sheetdesk_c.proofs.clocks.raise.Goals as goal

pub loop-i-init : goal.loop-i-init
unfolding put
loop-i-init c = (omega arith, refl)

pub loop-i-preserved : goal.loop-i-preserved
unfolding join
loop-i-preserved c =
    let t = c.args.target.now in
    let r = c.args.source.now in
    let i = c.loop-i.i in
    let m = c.loop-i.target in
    let n = c.max.result.0 in
    let e = c.loop-i.invariant.1 in
    let q : n ≡ max (get_or m i 0) (get_or r i 0) =
    ap (λ k. k.0) c.max.ensures
    ∙ max-by (λ k. k.0) c.count_at-x.result c.count_at-y.result
    ∙ ap₂ max c.count_at-x.ensures c.count_at-y.ensures in
    let f = join (clock_at t 0) (clock_at r 0) in
    let z : 0 + i ≡ i = omega arith in (
      omega arith,
      c.set_count.ensures ∙ (rw z at (put_step t 0 i f m n e
          (q ∙ rw (e, put-high t 0 i f i (omega arith), clock-at t i, clock-at r i)))),
    )
