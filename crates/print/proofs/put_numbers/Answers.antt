-- `print::put_numbers` meets its contract: what is put and what is left make the whole at
-- each turn. Assumes nothing.
use native.Mathlib.Omega.{arith}
use mathlib.Core.Path.{sym, ◌∙◌}
use lib.ListN.{take}
use Rattle.print.proofs.Words.{numbers_more, numbers-end}
use Rattle.print.proofs.put_numbers.Goals as goal

pub loop-n-preserved : goal.loop-n-preserved
loop-n-preserved c =
    let o = c.loop-n in
    let e = c.put_spaced-end.ensures in (
      omega arith,
      omega arith,
      numbers_more (take o.end o.out) _ _ o.n-index c.loop-n-test.true e.1 ∙ o.invariant.2,
    )

pub returns : goal.returns
returns c =
    let o = c.loop-n in
    (omega arith, sym (numbers-end _ _ o.n-index c.loop-n-test.false) ∙ o.invariant.2)
