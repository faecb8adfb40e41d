-- `script::ends::print_words` meets its contract. Assumes nothing.
use mathlib.Core.Path.{◌≡◌}
use Prim.Native.Nat.{◌-◌}
use Rattle.script.specs.Fold.{words_text}
use Rattle.script.proofs.Steps.{words-taken}
use native.Mathlib.Omega.{arith}
use Rattle.script.proofs.ends.print_words.Goals as goal

pub returns-then-count-eq0 : goal.returns-then-count-eq0
unfolding words_text
returns-then-count-eq0 c =
    let a = c.args in
    let z : a.count ≡ 0 = omega arith in
    record {
      out_after = rw z c.print_unread.ensures.out_after;
      upper_bound = omega arith;
    }

pub returns : goal.returns
returns c =
    let a = c.args in
    let p = c.print_answer in
    let z : a.count - 0 ≡ a.count = omega arith in record {
      out_after = rw (words-taken a.count a.answer.now (omega arith) (omega arith))
          (rw z at p.ensures.out_after);
      upper_bound = omega arith;
    }
