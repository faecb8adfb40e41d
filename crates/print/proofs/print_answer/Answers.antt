-- `print::print_answer` meets its contract: the text, the line's end. Assumes nothing.
use native.Mathlib.Omega.{arith}
use lib.ListN.{take}
use Rattle.print.proofs.Words.{line-parts}
use Rattle.print.proofs.print_answer.Goals as goal

pub returns : goal.returns
returns c =
    let b = c.put_byte.ensures in
    let m = c in
    let a = m.args in record {
      out_after = line-parts (take a.at a.out.now) a.answer.now m.put_answer-end.ensures.out_after
          b.1;
      upper_bound = omega arith;
    }
