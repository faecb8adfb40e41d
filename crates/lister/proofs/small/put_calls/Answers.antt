-- `lister::small::put_calls` meets its contract: what is put and what is left make the whole at
-- each turn. Assumes nothing.
use native.Mathlib.Omega.{arith}
use mathlib.Core.Path.{sym, ◌∙◌}
use lib.ListN.{take}
use Rattle.lister.proofs.Puts.{calls-first, calls-next, calls-end}
use Rattle.lister.proofs.small.put_calls.Goals as goal

pub loop-digit-preserved : goal.loop-digit-preserved
loop-digit-preserved c =
    let p = c.put_call-end-in-loop-digit.ensures in
    let o = c.loop-digit in (
      omega arith,
      omega arith,
      omega arith,
      calls-next (take o.end o.out) _ o.digit-index c.loop-digit-test.true
          c.put_joint-start.ensures.1 p.1
          ∙ o.invariant.3,
    )

pub returns : goal.returns
returns c =
    let o = c.loop-digit in
    let a = c.args in (
      omega arith,
      sym (calls-end _ _ o.digit-index c.loop-digit-test.false)
          ∙ o.invariant.3
          ∙ calls-first (take a.at a.out.now) a.digits.now (omega arith)
          c.put_call-end.ensures.1,
    )

pub put_call-end-requires : goal.put_call-end-requires
put_call-end-requires c = record {
  call_room_in_bounds = omega arith;
  words_room_in_bounds = omega arith;
}

pub put_call-end-requires-in-loop-digit : goal.put_call-end-requires-in-loop-digit
put_call-end-requires-in-loop-digit c = record {
  call_room_in_bounds = omega arith;
  words_room_in_bounds = omega arith;
}
