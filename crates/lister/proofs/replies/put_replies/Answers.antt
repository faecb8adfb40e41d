-- `lister::replies::put_replies` meets its contract: what is put and what is left make the whole
-- at each turn. Assumes nothing.
use native.Mathlib.Omega.{arith}
use mathlib.Core.Path.{sym, ◌∙◌}
use lib.ListN.{take}
use Rattle.lister.proofs.Puts.{replies-first, replies-next, replies-end}
use Rattle.lister.proofs.replies.put_replies.Goals as goal

pub put_reply-end-requires : goal.put_reply-end-requires
put_reply-end-requires c = record {
  body_room_in_bounds = (omega arith, c.requires.digits_len_bound.1);
  words_room_in_bounds = (omega arith, omega arith);
}

pub put_reply-end-requires-in-loop-digit : goal.put_reply-end-requires-in-loop-digit
put_reply-end-requires-in-loop-digit c = record {
  body_room_in_bounds = (omega arith, c.loop-digit.invariant.5);
  words_room_in_bounds = (omega arith, omega arith);
}

pub loop-digit-preserved : goal.loop-digit-preserved
loop-digit-preserved c =
    let p = c.put_reply-end-in-loop-digit.ensures in
    let o = c.loop-digit in (
      omega arith,
      omega arith,
      omega arith,
      omega arith,
      omega arith,
      p.store_after.1,
      replies-next (take o.end o.out) o.store _ o.digit-index c.loop-digit-test.true
          c.put_joint-start.ensures.1 p.upper_bound.1 p.store_after.0
          ∙ o.invariant.6,
    )

pub returns : goal.returns
returns c =
    let o = c.loop-digit in
    let e = c.put_reply-end.ensures in
    let a = c.args in (
      omega arith,
      sym (replies-end _ _ _ o.digit-index c.loop-digit-test.false)
          ∙ o.invariant.6
          ∙ replies-first (take a.at a.out.now) a.store.now a.digits.now
          (omega arith) e.upper_bound.1 e.store_after.0,
    )
