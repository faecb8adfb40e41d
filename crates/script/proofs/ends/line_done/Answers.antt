-- `script::ends::line_done` meets its contract: the call that is read is made, and its words are
-- printed. Assumes nothing.
use mathlib.Core.Path.{refl, ap, ◌∙◌}
use mathlib.Core.List.{◌++◌}
use lib.ListN.{take}
use Rattle.script.specs.Script.{call_text, call_leaves}
use Rattle.script.proofs.Steps.{performs_few, performs_ready, performs_leaves, performs_text}
use native.Mathlib.Omega.{arith}
use Rattle.script.proofs.ends.line_done.Goals as goal

pub perform-made-requires : goal.perform-made-requires
perform-made-requires c =
    let r = c in
    let p = r.requires in
    record {
      ready_value = p.ready_value;
      command_in_bounds = r.read_line-command.ensures.result_in_bounds;
      answer_room_in_bounds = omega arith;
    }

pub print_words-end-requires : goal.print_words-end-requires
print_words-end-requires c =
    let m = c.perform-made in
    record {
      line_room_in_bounds = omega arith;
      count_le_max_answer = (performs_few _ _ _ _ _ _ m.ensures, omega arith);
    }

pub returns : goal.returns
returns c =
    let w = c.print_words-end in
    let a = c.args in
    let e = c.read_line-command.ensures.numbers_after in
    let d = c.perform-made.ensures in record {
      ready_value_2 = (performs_ready _ _ _ _ _ _ d, refl);
      store_after = performs_leaves _ _ _ _ _ _ d ∙ ap (λ o. call_leaves o a.store.now) e;
      out_after = w.ensures.out_after
          ∙ ap (λ t. take a.at a.out.now ++ t)
          (performs_text _ _ _ _ _ _ d ∙ ap (λ o. call_text o a.store.now) e);
      end_bound = omega arith;
    }
