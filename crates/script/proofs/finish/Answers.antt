-- `script::finish` meets its contract. Assumes nothing.
use mathlib.Core.Path.{sym, ◌∙◌}
use lib.ListN.{take}
use Rattle.script.proofs.Steps.{finished-none, finished-some}
use native.Mathlib.Omega.{arith}
use Rattle.script.proofs.finish.Goals as goal

pub returns-then-state-eq0 : goal.returns-then-state-eq0
returns-then-state-eq0 c =
    let k = c in
    let a = k.args in
    let l = a.store.now in
    let t = take a.state.end a.out.now in
    let e = finished-none l a.line.now a.state.len t c.if-state-eq0.true in
    record {
      ready_value_2 = k.requires.ready_value;
      out_after = e;
      end_bound = omega arith;
    }

pub returns : goal.returns
returns c =
    let k = c in
    let p = k.part_done.ensures in
    let s = k in
    let a = s.args in
    let l = a.store.now in
    let t = take a.state.end a.out.now in
    let f = finished-some l a.line.now a.state.len t s.if-state-eq0.false (omega arith) in
    record {
      ready_value_2 = p.ready_value_2;
      out_after = p.out_after ∙ sym f;
      end_bound = omega arith;
    }
