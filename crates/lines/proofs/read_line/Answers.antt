-- `lines::read_line` meets its contract: the line's first field is the command's word, and the
-- others are its numbers. Assumes nothing.
use native.Mathlib.Omega.{arith}
use mathlib.Core.Path.{◌≡◌, sym, ◌∙◌}
use Prim.Native.Nat.{◌-◌}
use Rattle.lines.proofs.Calls.{line-long, line-none, line-bare, line-unread, line_read, count-le}
use Rattle.lines.proofs.read_line.Goals as goal

pub returns-then-line-gt-LINE : goal.returns-then-line-gt-LINE
returns-then-line-gt-LINE c =
    let a = c.args in
    record {
      numbers_after = sym (line-long a.line.now c.if-line-gt-LINE.true);
      result_in_bounds = omega arith;
    }

pub returns-in_default : goal.returns-in_default
returns-in_default c =
    let f = c.first_field-w in
    let z : f.result - 0 ≡ f.result = omega arith in
    let e = rw z at c.in_default.ensures in record {
      numbers_after = line-none c.args.line.now f.result (omega arith) f.ensures.1 e;
      result_in_bounds = omega arith;
    }

pub returns-then-w-line : goal.returns-then-w-line
returns-then-w-line c =
    let f = c.first_field-w in
    let w = c.command_with.ensures in
    let z : f.result - 0 ≡ f.result = omega arith in
    let e = line-bare c.args.line.now f.result (omega arith) f.ensures.1 c.if-w-line.true in
    record {
      numbers_after = w.numbers_value ∙ rw (c.in-Some.ensures, z) e;
      result_in_bounds = w.result_in_bounds;
    }

pub returns-in_default-numbers : goal.returns-in_default-numbers
returns-in_default-numbers c =
    let f = c.first_field-w in
    let l = c.args.line.now in
    let n = c.numbers in record {
      numbers_after = line-unread l f.result (omega arith) f.ensures.1 (omega arith) n.result _
          n.ensures.out_after c.in_default-numbers.is;
      result_in_bounds = omega arith;
    }

pub command_with-requires-2 : goal.command_with-requires-2
command_with-requires-2 c =
    let n = c.numbers in
    count-le n.result c.in-Some-numbers.n _ c.in-Some-numbers.is n.ensures.result_in_bounds

pub returns : goal.returns
returns c =
    let n = c.numbers in
    let f = c.first_field-w in
    let l = c.args.line.now in
    let w = c.command_with-2.ensures in
    let s = c.in-Some-numbers in
    let z : f.result - 0 ≡ f.result = omega arith in
    let e = line_read l f.result (omega arith) f.ensures.1 (omega arith) n.result
    n.new.out n.ensures.out_after s.n s.is in
    record {
      numbers_after = w.numbers_value ∙ rw (c.in-Some.ensures, z) e;
      result_in_bounds = w.result_in_bounds;
    }
