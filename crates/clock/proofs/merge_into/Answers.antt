-- `merge_into` stores the join of two clocks. The loop's invariant: the places passed hold it.
-- Assumes nothing.
use mathlib.Core.Path.{◌≡◌, refl, ap, ap₂, ◌∙◌}
use Prim.Native.Nat.{◌+◌, max}
use native.Mathlib.Omega.{arith}
use lib.ListN.{length, length-set}
use Rattle.words.specs.Words.{put}
use Rattle.words.proofs.Orders.{max-by}
use Rattle.clock.proofs.Merge.{merge_step}
use Rattle.clock.proofs.merge_into.Goals as goal

pub loop-i-init : goal.loop-i-init
unfolding put
loop-i-init c = (omega arith, refl, refl)

pub loop-i-preserved : goal.loop-i-preserved
loop-i-preserved c =
    let a = c.args in
    let i = c.loop-i.i in
    let m = c.loop-i.words in
    let x = c.count_at-x in
    let y = c.count_at-y in
    let n = c.max.result.0 in
    let e = c.set_count.ensures in
    let larger = ap (λ k. k.0) c.max.ensures ∙ max-by (λ k. k.0) x.result y.result in (
      omega arith,
      ap length e ∙ length-set m (a.dst + i) n ∙ c.loop-i.invariant.1,
      e
          ∙ merge_step a.words.now a.dst a.src a.n i c.requires
          (omega arith) m c.loop-i.invariant.2 n
          (larger ∙ ap₂ max x.ensures y.ensures),
    )

pub returns : goal.returns
returns c =
    let l = c in
    let e : l.loop-i.i ≡ l.args.n = omega arith in
    rw (← e) l.loop-i.invariant.2

pub shape_of-words : goal.shape_of-words
shape_of-words c = c.loop-i.invariant.1
