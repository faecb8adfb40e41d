-- `script::step_byte` meets its contract. Assumes nothing.
use mathlib.Core.Path.{sym, ◌∙◌}
use lib.ListN.{take}
use Rattle.script.proofs.Steps.{step-ends, step_keeps, step-long}
use native.Mathlib.Omega.{arith}
use Rattle.script.proofs.step_byte.Goals as goal

pub returns-then-byte-eq10 : goal.returns-then-byte-eq10
returns-then-byte-eq10 c =
    let k = c in
    let p = k.part_done.ensures in
    let t = k in
    let a = t.args in record {
      ready_value_2 = p.ready_value_2;
      out_after = p.out_after
          ∙ sym (step-ends a.store.now a.line.now a.state.len
          (take a.state.end a.out.now) a.byte t.if-byte-eq10.true);
      end_bound = omega arith;
    }

pub returns-then-n-lt-LINE : goal.returns-then-n-lt-LINE
returns-then-n-lt-LINE c =
    let k = c in
    let a = k.args in record {
      ready_value_2 = k.requires.ready_value;
      out_after = step_keeps a.store.now a.line.now a.state.len
          (take a.state.end a.out.now) a.byte c.if-byte-eq10.false c.if-n-lt-LINE.true
          k.requires.lent.line-room;
      end_bound = omega arith;
    }

pub returns : goal.returns
returns c =
    let k = c in
    let a = k.args in record {
      ready_value_2 = k.requires.ready_value;
      out_after = step-long a.store.now a.line.now a.state.len
          (take a.state.end a.out.now) a.byte c.if-byte-eq10.false (omega arith)
          k.requires.lent.line-room;
      end_bound = omega arith;
    }
