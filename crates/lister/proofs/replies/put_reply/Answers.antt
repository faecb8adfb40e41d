-- `lister::replies::put_reply` makes the call, and puts the words of its answer. Assumes nothing.
use native.Mathlib.Omega.{arith}
use mathlib.Core.Path.{sym, ap, ◌∙◌}
use mathlib.Core.List.{List, ◌++◌}
use Prim.Native.Nat.{ℕ}
use lib.ListN.{take}
use Rattle.print.specs.Print.{answer_body}
use Rattle.lister.specs.Numbered.{call_at}
use Rattle.lister.proofs.Smalls.{made_some, made-few, made-words, made-long, made-leaves, made-form}
use Rattle.lister.proofs.replies.put_reply.Goals as goal

pub perform-made-requires : goal.perform-made-requires
perform-made-requires c = record {
  ready_value = sym c.requires.body_room_in_bounds.1;
  command_in_bounds = omega (arith, c.small_at-small.ensures.ends);
  answer_room_in_bounds = omega arith;
}

pub slice_bounds-put_answer-end : goal.slice_bounds-put_answer-end
slice_bounds-put_answer-end c =
    let s = c.small_at-small in
    let m = c.perform-made in
    omega (arith, made-few (call_at c.args.i) s.result _ _ _ _ _ m.result s.ensures m.ensures)

pub slice_bounds-put_answer-end-2 : goal.slice_bounds-put_answer-end-2
slice_bounds-put_answer-end-2 c =
    let s = c.small_at-small in
    let m = c.perform-made in
    sym (made-long (call_at c.args.i) s.result _ _ _ _ _ m.result s.ensures m.ensures)

pub put_answer-requires : goal.put_answer-requires
put_answer-requires c =
    let t = c.small_at-small.ensures in
    let d = c.perform-made.ensures in
    let r = c.perform-made.result in
    let u = c.small_at-small.result in
    let long = made-long (call_at c.args.i) u _ _ _ _ _ r t d in
    let some = made_some (call_at c.args.i) u _ _ _ _ _ r t d in
    let few = made-few (call_at c.args.i) u _ _ _ _ _ r t d in
    record {
      body_room_in_bounds = omega arith;
      answer_nonzero = (omega (arith, long, some), omega (arith, long, few));
    }

pub returns : goal.returns
returns c =
    let a = c.args in
    let t = c.small_at-small.ensures in
    let d = c.perform-made.ensures in
    let r = c.perform-made.result in
    let u = c.small_at-small.result in
    let e = c.put_answer.ensures in record {
      upper_bound = (
        e.upper_bound,
        e.out_after
            ∙ ap (λ (ws : List ℕ). take a.at a.out.now ++ answer_body ws)
            (made-words (call_at a.i) u _ _ _ _ _ r t d),
      );
      store_after = (
        made-leaves (call_at a.i) u _ _ _ _ _ r t d,
        made-form (call_at a.i) u _ _ _ _ _ r t d c.requires.body_room_in_bounds.1,
      );
    }
