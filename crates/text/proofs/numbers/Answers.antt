-- `text::numbers` meets its contract: the numbers so far and what is left tell at each turn what
-- the whole tells. Assumes nothing.
use native.Mathlib.Omega.{arith}
use mathlib.Core.Path.{refl, sym, ap, ◌∙◌}
use mathlib.Core.Option.{some}
use lib.ListN.{drop, length-set}
use Rattle.std.proofs.lemmas.List.{take_rest}
use Rattle.text.specs.Fields.{numbers_in, how_many}
use Rattle.text.proofs.Scans.{told-start, stored, gap, number, other, digit, over, ends-bare, ends}
use Rattle.text.proofs.numbers.Goals as goal
use Rattle.text.proofs.numbers.Goals.{then-b-eq32+in_ok-out, else-b-eq32+in_ok-next+else-next-gt-MAX_NUMBER}

pub loop-b-init : goal.loop-b-init
loop-b-init c =
    let a = c.args in
    (omega arith, tt, refl, rw (take_rest a.line.now a.at) (told-start (drop a.at a.line.now)))

pub returns-in_err-out-clause-out_after : goal.returns-in_err-out-clause-out_after
unfolding numbers_in
returns-in_err-out-clause-out_after c =
    let o = c.loop-b in
    rw (c.from_residual.ensures, sym o.invariant.3, c.in_err-out.was)
    (sym (gap _ _ _ c.loop-b-test.true c.if-b-eq32.true))

pub returns-in_err-out-clause-result_in_bounds : goal.returns-in_err-out-clause-result_in_bounds
unfolding how_many
returns-in_err-out-clause-result_in_bounds c = rw c.from_residual.ensures (omega arith)

pub returns-in_err-next-clause-out_after : goal.returns-in_err-next-clause-out_after
unfolding numbers_in
returns-in_err-next-clause-out_after c =
    let o = c.loop-b in
    rw (c.from_residual-in_err-next.ensures, sym o.invariant.3)
    (sym (other _ _ _ c.loop-b-test.true _ c.if-b-eq32.false c.in_err-next.ensures))

pub returns-in_err-next-clause-result_in_bounds : goal.returns-in_err-next-clause-result_in_bounds
unfolding how_many
returns-in_err-next-clause-result_in_bounds c =
    rw c.from_residual-in_err-next.ensures (omega arith)

pub returns-then-next-gt-MAX_NUMBER-clause-out_after :
    goal.returns-then-next-gt-MAX_NUMBER-clause-out_after
unfolding numbers_in
returns-then-next-gt-MAX_NUMBER-clause-out_after c =
    let d = c.in_ok-next.ensures in
    let m = rw (c.unwrap_or.ensures, d.1) at c.if-next-gt-MAX_NUMBER.true in
    rw (sym c.loop-b.invariant.3)
    (sym (over _ _ _ c.loop-b-test.true _ c.if-b-eq32.false d.0 m))

pub returns-then-next-gt-MAX_NUMBER-clause-result_in_bounds :
    goal.returns-then-next-gt-MAX_NUMBER-clause-result_in_bounds
unfolding how_many
returns-then-next-gt-MAX_NUMBER-clause-result_in_bounds c = omega arith

pub loop-b-preserved : goal.loop-b-preserved
loop-b-preserved c =
    let o = c.loop-b in
    let h = c.loop-b-test.true in
    elim c.if-b-eq32.branch [
      | then-b-eq32+in_ok-out w ↦
          let v = w.in_ok-out.field-0 in
          let i = rw w.in_ok-out.was at o.invariant in
          rw (w.out-is, w.k-is, w.number-is) (
            omega arith,
            tt,
            rw length-set o.invariant.2,
            rw (stored o.out o.k v (omega arith))
                (sym (number _ _ _ h v w.if-b-eq32.true i.1) ∙ i.3),
          )
      | else-b-eq32+in_ok-next+else-next-gt-MAX_NUMBER w ↦
          let d = w.in_ok-next.ensures in
          rw (w.out-is, w.k-is, w.number-is) (
            omega arith,
            w.if-next-gt-MAX_NUMBER.false,
            o.invariant.2,
            rw (w.unwrap_or.ensures, d.1)
                (sym (digit _ _ _ h _ w.if-b-eq32.false d.0) ∙ o.invariant.3),
          )
    ]

pub returns-in_err-out-2-clause-out_after : goal.returns-in_err-out-2-clause-out_after
unfolding numbers_in
returns-in_err-out-2-clause-out_after c =
    let o = c.loop-b in
    rw (c.from_residual-in_err-out-2.ensures, sym o.invariant.3, c.in_err-out-2.was)
    (sym (ends-bare _ _ _ c.loop-b-test.false))

pub returns-in_err-out-2-clause-result_in_bounds :
    goal.returns-in_err-out-2-clause-result_in_bounds
unfolding how_many
returns-in_err-out-2-clause-result_in_bounds c =
    rw c.from_residual-in_err-out-2.ensures (omega arith)

pub returns-clause-out_after : goal.returns-clause-out_after
unfolding numbers_in
returns-clause-out_after c =
    let o = c.loop-b in
    let v = c.in_ok-out-2.field-0 in
    let i = rw c.in_ok-out-2.was at o.invariant in
    ap some (stored o.out o.k v (omega arith))
    ∙ sym (ends _ _ _ c.loop-b-test.false v i.1)
    ∙ i.3

pub returns-clause-result_in_bounds : goal.returns-clause-result_in_bounds
unfolding how_many
returns-clause-result_in_bounds c = rw length-set (omega arith)
