-- `script::run_script` meets its contract: the whole input is fed and finished. Assumes nothing.
use mathlib.Core.Path.{ap, ◌∙◌}
use Rattle.script.specs.Script.{lines_of}
use Rattle.script.proofs.Lines.{after-lines}
use Rattle.script.proofs.Steps.{whole}
use Rattle.script.proofs.Ties.{begun}
use native.Mathlib.Omega.{arith}
use Rattle.script.proofs.run_script.Goals as goal

pub feed-state-requires : goal.feed-state-requires
feed-state-requires c =
    let b = c in
    let p = b.requires in
    record {
      ready_value = p.ready_value;
      lent = p.lent;
      chunk_in_bounds = omega arith;
    }

pub finish-requires : goal.finish-requires
finish-requires c =
    let b = c in
    let t = b in
    let s = t in
    let p = s.requires in
    let k = t.feed-state.auto in
    let e = t.feed-state.ensures in record {
      ready_value = e.ready_value_2;
      lent = record {
        line-room = omega (arith, k, p);
        numbers-room = omega (arith, k, p);
        answer-room = omega (arith, k, p);
      };
      line_room_in_bounds = omega (arith, k, p, e);
    }

pub returns : goal.returns
returns c =
    let k = c in
    let f = k.finish.ensures in
    let b = k.before.before.before.before.before.before.before.before in
    let t = b in
    let s = t in
    let a = s.args in
    let l = a.store.now in
    let e = whole l a.line.now a.input.now t.feed-state.ensures.out_after f.out_after in
    let b = ap (λ p. p.buffer) e in record {
      ready_value_2 = f.ready_value_2;
      out_after = ap (λ p. p.text) e;
      store_after = b;
      begun = λ bad. begun l bad _ _ (b ∙ after-lines (lines_of a.input.now) l);
    }
