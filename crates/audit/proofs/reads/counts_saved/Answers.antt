-- `counts_saved` walks back over the earlier issues.
-- Assumes nothing.
-- What the code finds is the test of the issue.
use Rattle.std.proofs.Common.{arith, ap, ◌≡◌, ◌-◌}
use mathlib.Core.Bool.{not}
use Rattle.audit.proofs.Loops.{down-fails, down_turn, down_ends}
use Rattle.audit.proofs.reads.counts_saved.Invariants.{saved_by}
use Rattle.audit.proofs.reads.counts_saved.Goals as goal
use Rattle.audit.proofs.reads.counts_saved.Goals.{After-reads_fine}

found : (c : After-reads_fine) → c.reads_fine.result
    ≡ saved_by c.args.issue.words.now c.args.issue.i (c.loop-j.j - 1)
found c =
    let e = c.step_back-earlier.ensures.earlier in
    rw (← e.0, ← e.1, ← e.2) c.reads_fine.ensures

pub returns-then-not-reads_fine : goal.returns-then-not-reads_fine
returns-then-not-reads_fine c =
    let a = c.args.issue in
    down-fails _ (saved_by a.words.now a.i) c.loop-j.j (c.loop-j.j - 1) _
    c.loop-j.invariant.1 (omega arith)
    (found (goal.at.returns-then-not-reads_fine c).After-reads_fine)
    (ap not c.if-not-reads_fine.true)

pub loop-j-preserved : goal.loop-j-preserved
loop-j-preserved c =
    let a = c.args.issue in (
      c.step_back-earlier.ensures.ranks,
      down_turn _ (saved_by a.words.now a.i) c.loop-j.j (c.loop-j.j - 1) _
          c.loop-j.invariant.1 (omega arith) (found (goal.at.loop-j-preserved c).After-reads_fine)
          (ap not c.if-not-reads_fine.false),
    )

pub returns : goal.returns
returns c =
    down_ends _ (saved_by c.args.issue.words.now c.args.issue.i) c.loop-j.j
    c.loop-j.invariant.1 (omega arith)
