-- At each turn the lines so far were handed over.
use Rattle.std.proofs.Common.{sym, ◌∙◌, arith}
use Rattle.histories.specs.Written.{Written.none}
use Rattle.histories.proofs.Whole.{written-more}
use Rattle.histories.proofs.run.Goals as goal

pub loop-listed-init : goal.loop-listed-init
loop-listed-init g c =
    let e = c.none-output.ensures in (
      omega arith,
      omega (arith, e),
      none c.none-output.result e.0 e.1,
      e.1,
    )

pub returns-then-failed-clause-written : goal.returns-then-failed-clause-written
returns-then-failed-clause-written g c =
    let o = c.loop-listed.invariant in
    let e = c.turn-listed.ensures in
    written-more _ _ _ _ _ (omega (arith, e.lines_lt_lines)) o.2 o.3 e.hands e.out_after

pub loop-listed-preserved : goal.loop-listed-preserved
loop-listed-preserved g c =
    let o = c.loop-listed.invariant in
    let e = c.turn-listed.ensures in (
      e.lines_lt_lines.1,
      e.all_bound,
      written-more _ _ _ _ _ (omega (arith, e.lines_lt_lines)) o.2 o.3 e.hands e.out_after,
      sym c.failed-failed.ensures ∙ c.if-failed.false,
    )
