-- `reads_fit` tests each issue's reads. The loop's invariant: the issues passed are counted, and
-- their reads are in order.
-- Assumes nothing.
use Rattle.std.proofs.Common.{arith, refl, ap}
use mathlib.Core.Bool.{not}
use Rattle.words.specs.Tests.{Items, all_below}
use Rattle.records.specs.Format.{all_reads, read_ok}
use Rattle.audit.proofs.Loops.{loop-fails, loop-turn, loop-ends}
use Rattle.audit.proofs.Places.{header_in, writers_16}
use Rattle.audit.proofs.Ranks.{ranked-start}
use Rattle.audit.proofs.reads.reads_fit.Goals as goal
use Rattle.audit.proofs.reads.reads_fit.Goals.{At-loop-i}

abbrev tests : At-loop-i → Items
tests l = let b = l.args.words.now in λ i. all_reads b i (read_ok b i)

pub loop-i-init : goal.loop-i-init
unfolding all_below
loop-i-init c = (ranked-start _ _, refl)

pub invariant_of-issue : goal.invariant_of-issue
invariant_of-issue c =
    let S = c.requires.0 in record {
      in_order = (S, omega arith);
      inside = (header_in _ _ _ S.header, writers_16 _ _ _ S.header);
    }

pub issue_reads_fit-requires : goal.issue_reads_fit-requires
issue_reads_fit-requires c = (c.requires.1, c.loop-i.invariant.0)

pub returns-then-not-issue_reads_fit : goal.returns-then-not-issue_reads_fit
returns-then-not-issue_reads_fit c =
    loop-fails _ (tests (goal.at.returns-then-not-issue_reads_fit c).At-loop-i) c.loop-i.i _
    (omega arith) c.issue_reads_fit.ensures (ap not c.if-not-issue_reads_fit.true)

pub count_issue-requires : goal.count_issue-requires
count_issue-requires c = c.loop-i.invariant.0

pub loop-i-preserved : goal.loop-i-preserved
loop-i-preserved c = (
  c.count_issue.ensures,
  loop-turn (tests (goal.at.loop-i-preserved c).At-loop-i) c.loop-i.i _ c.loop-i.invariant.1
      c.issue_reads_fit.ensures (ap not c.if-not-issue_reads_fit.false),
)

pub returns : goal.returns
returns c =
    loop-ends _ (tests (goal.at.returns c).At-loop-i) c.loop-i.i (omega arith)
    c.loop-i.invariant.1
