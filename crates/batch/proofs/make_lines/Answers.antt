-- `make_lines` meets its contract: the lines that are left come to what all of them come to.
-- Assumes nothing.
-- Where the function was entered.
-- Where a line's end was found.
-- How many bytes of answers there are.
-- The line end that was looked for isn't behind the text.
use native.Mathlib.Omega.{arith}
use mathlib.Core.Path.{◌≡◌, refl, sym, ◌∙◌}
use Prim.Native.Nat.{◌-◌}
use lib.ListN.{length, take}
use lib.Seq.{length-take-le}
use Rattle.batch.proofs.Texts.{run-full, drop-further, text-line, text-end}
use Rattle.batch.proofs.make_lines.Goals as goal
use Rattle.batch.proofs.make_lines.Goals.{At-loop-out, Start}

abbrev start : At-loop-out → Start
start c = c.before.before.before.before.before.before.before.before.before.before

front : (c : At-loop-out)
    → length (take c.loop-out.end c.loop-out.out) ≡ c.loop-out.end
front c = length-take-le c.loop-out.end c.loop-out.out (omega arith)

pub loop-out-init : goal.loop-out-init
loop-out-init c = (
  omega arith,
  omega arith,
  refl,
  refl,
  refl,
  refl,
  refl,
  refl,
  c.in_form-ready.ensures,
  refl,
  refl,
)

pub line_done-done-requires : goal.line_done-done-requires
line_done-done-requires c =
    let o = c.before.before.before.before.before.before.before.before.before.before in
    let b = (start (goal.at.line_done-done-requires c).At-loop-out).requires in record {
      ready_value = o.loop-out.invariant.8;
      lends = record {
        numbers-room = omega (arith, b.numbers-room);
        answer-room = omega (arith, b.answer-room);
        row_room = omega (arith, b.row_room);
      };
      line_room_in_bounds = omega arith;
    }

pub returns-then-stop-text : goal.returns-then-stop-text
returns-then-stop-text c =
    let o = c.before.before.before in
    let a = (start (goal.at.returns-then-stop-text c).At-loop-out).args in
    let e = c.line_end-stop.ensures in record {
      text_after = text-end (length a.out.now) a.text.now o.loop-out.at _ (omega arith) e.1 _
          (omega arith)
          ∙ o.loop-out.invariant.10;
      answers_in_bounds = (omega arith, o.loop-out.invariant.9);
    }

pub loop-out-preserved : goal.loop-out-preserved
loop-out-preserved c =
    let b = c in
    let d = b in
    let k = d in
    let o = k.before.before.before in
    let a = (start (goal.at.loop-out-preserved c).At-loop-out).args in
    let e = k.line_end-stop.ensures in
    let s = d.line_done-done.ensures in
    let m = d.line_done-done.auto in (
      omega (arith, e, k.if-stop-text.false),
      omega (arith, s.at_le_end),
      omega (arith, m),
      omega (arith, m),
      omega (arith, m),
      omega (arith, m),
      omega (arith, m),
      omega (arith, m),
      s.ready_value_2,
      s.at_le_end.2
          ∙ drop-further o.loop-out.end d.line_done-done.result.end _ _ (omega
          (arith, s.at_le_end))
          o.loop-out.invariant.9,
      text-line (length a.out.now) a.text.now o.loop-out.at _ (omega arith) e.1
          _ _ _ _ _ _ (omega (arith, e, k.if-stop-text.false)) (omega
          (arith, front (goal.at.loop-out-preserved c).At-loop-out)) s.does_line
          ∙ o.loop-out.invariant.10,
    )

pub returns : goal.returns
returns c =
    let l = c.loop-out in
    let a = (start (goal.at.returns c).At-loop-out).args in record {
      text_after = sym (run-full (length a.out.now) _ _ (omega
          (arith, front (goal.at.returns c).At-loop-out))) ∙ l.invariant.10;
      answers_in_bounds = (omega arith, l.invariant.9);
    }
