-- `line_done` meets its contract: the call that is read is made, and its words are printed.
-- Assumes nothing.
use native.Mathlib.Omega.{arith}
use mathlib.Core.Path.{◌≡◌, ap, ◌∙◌}
use mathlib.Core.List.{◌++◌}
use lib.ListN.{length, take}
use lib.Seq.{length-take-le}
use Rattle.script.specs.Script.{call_text, call_leaves}
use Rattle.script.proofs.Steps.{performs_few, performs_ready, performs_leaves, performs_text}
use Rattle.batch.specs.Lent.{forecast_of, lent_call, scratch_leaves}
use Rattle.batch.proofs.Texts.{put_rest, done-line}
use Rattle.batch.proofs.line.line_done.Goals as goal

pub print_words-n-requires : goal.print_words-n-requires
print_words-n-requires c =
    let m = c in
    let r = m in
    let s = r in
    let b = s.requires.lends in record {
      line_room_in_bounds = omega (arith, b.row_room);
      count_le_max_answer = (
        performs_few _ _ _ _ _ _ m.perform_lent-made.ensures.performs,
        omega
            (arith, b.answer-room),
      );
    }

pub put_bytes-end-requires : goal.put_bytes-end-requires
put_bytes-end-requires c =
    let w = c.print_words-n in
    let room = c.requires.lends.row_room in
    let k = length-take-le w.result w.new.out (omega (arith, room, w.auto)) in
    omega (arith, k)

pub returns : goal.returns
returns c =
    let a = c.args in
    let e = c.read_line-command.ensures.numbers_after in
    let d = c.perform_lent-made.ensures in
    let w = c.print_words-n in
    let p = c.put_bytes-end.ensures in
    let room = c.requires.lends.row_room in
    let k = length-take-le w.result w.new.out (omega (arith, room, w.auto)) in record {
      ready_value_2 = performs_ready _ _ _ _ _ _ d.performs;
      does_line = done-line a.line.now a.store.now _ a.scratch.now _ _ _
          (performs_leaves _ _ _ _ _ _ d.performs
          ∙ ap (λ o. call_leaves (lent_call (length a.scratch.now) o) a.store.now) e)
          (d.scratch_after
          ∙ ap (λ o. scratch_leaves (forecast_of o) a.store.now a.scratch.now) e)
          (p.1
          ∙ ap (λ t. take a.at a.out.now ++ t)
          (w.ensures.out_after
          ∙ performs_text _ _ _ _ _ _ d.performs
          ∙ ap (λ o. call_text (lent_call (length a.scratch.now) o) a.store.now) e));
      at_le_end = (
        omega (arith, p.0),
        omega (arith, p.0, k),
        put_rest a.out.now _ a.at _ _ (omega (arith, k)) p.0 p.2,
      );
    }
