-- `print::put_answer` meets its contract: the word, then the numbers. Assumes nothing.
use native.Mathlib.Omega.{arith}
use lib.ListN.{take}
use Rattle.print.proofs.Words.{body-parts}
use Rattle.print.proofs.put_answer.Goals as goal

pub returns : goal.returns
returns c =
    let m = c in
    let w = m in
    let a = w.args in record {
      out_after = body-parts (take a.at a.out.now) a.answer.now (omega arith)
          w.put_word-word_end.ensures.1 m.put_numbers.ensures.1;
      upper_bound = omega arith;
    }
