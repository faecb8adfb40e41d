-- `rest_counted` walks back over the earlier issues.
-- Assumes nothing.
-- What the code finds is the test of the issue.
use Rattle.std.proofs.Common.{arith, ap, ◌≡◌, ◌-◌}
use mathlib.Core.Bool.{not}
use Rattle.records.specs.Walk.{fine}
use Rattle.audit.proofs.Loops.{down-fails, down_turn, down_ends}
use Rattle.audit.proofs.Judged.{fine-is}
use Rattle.audit.proofs.saves.rest_counted.Goals as goal
use Rattle.audit.proofs.saves.rest_counted.Goals.{After-saves_fine}

found : (c : After-saves_fine) → c.saves_fine.result
    ≡ fine c.args.issue.words.now c.args.issue.i (c.loop-k.k - 1)
found c =
    let e = c.step_back-earlier.ensures.earlier in
    rw (← fine-is c.args.issue.words.now c.args.issue.i (c.loop-k.k - 1), ← e.0, ← e.1, ← e.2)
    c.saves_fine.ensures

pub returns-then-not-saves_fine : goal.returns-then-not-saves_fine
returns-then-not-saves_fine c =
    let a = c.args.issue in
    down-fails _ (fine a.words.now a.i) c.loop-k.k (c.loop-k.k - 1) _
    c.loop-k.invariant.1 (omega arith)
    (found (goal.at.returns-then-not-saves_fine c).After-saves_fine)
    (ap not c.if-not-saves_fine.true)

pub loop-k-preserved : goal.loop-k-preserved
loop-k-preserved c =
    let a = c.args.issue in (
      c.step_back-earlier.ensures.ranks,
      down_turn _ (fine a.words.now a.i) c.loop-k.k (c.loop-k.k - 1) _
          c.loop-k.invariant.1 (omega arith) (found (goal.at.loop-k-preserved c).After-saves_fine)
          (ap not c.if-not-saves_fine.false),
    )

pub returns : goal.returns
returns c =
    down_ends _ (fine c.args.issue.words.now c.args.issue.i) c.loop-k.k
    c.loop-k.invariant.1 (omega arith)
