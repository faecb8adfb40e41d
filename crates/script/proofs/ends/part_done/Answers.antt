-- `script::ends::part_done` meets its contract. Assumes nothing.
use mathlib.Core.Path.{◌≡◌, refl}
use Prim.Native.Nat.{◌-◌}
use Rattle.script.proofs.Steps.{ended-long, ended-line}
use native.Mathlib.Omega.{arith}
use borrow.Author.Rules.{rules}
use Rattle.script.proofs.ends.part_done.Goals as goal

pub returns-then-state-gt-LINE : goal.returns-then-state-gt-LINE
returns-then-state-gt-LINE c =
    let u = c in
    let k = u in
    let a = k.args in record {
      ready_value_2 = k.requires.ready_value;
      out_after = ended-long a.store.now a.line.now a.state.len _ 0 _ (omega arith) refl
          u.print_unread-end.ensures.out_after;
      end_bound = omega arith;
    }

pub returns : goal.returns
returns c =
    let k = c in
    let d = k.line_done.ensures in
    let b = k in
    let a = b.args in
    let z : a.state.len - 0 ≡ a.state.len = omega arith in record {
      ready_value_2 = d.ready_value_2.0;
      out_after = ended-line a.store.now a.line.now a.state.len _ _ _ _ (omega arith)
          d.ready_value_2.1
          (rw z at d.store_after) (rw z at d.out_after);
      end_bound = omega arith;
    }

pub line_done-requires : goal.line_done-requires
line_done-requires c = record {
  ready_value = search rules;
  over_line_in_bounds = (omega arith, omega arith);
  line_room_in_bounds = omega arith;
}
