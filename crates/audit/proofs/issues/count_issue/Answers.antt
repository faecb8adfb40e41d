-- `count_issue` raises the count of the issue's writer.
-- Assumes nothing.
use Rattle.std.proofs.Common.{arith}
use Rattle.records.specs.Format.{writer_at}
use Rattle.audit.proofs.Places.{writer-low}
use Rattle.audit.proofs.Ranks.{ranked-up, before-few}
use Rattle.audit.proofs.issues.count_issue.Goals as goal

pub bounds-ranks-u : goal.bounds-ranks-u
unfolding writer_at
bounds-ranks-u c =
    let a = c.args.issue in omega (arith, writer-low a a.i (omega arith), a.inside.1)

pub bounds-ranks-u-2 : goal.bounds-ranks-u-2
unfolding writer_at
bounds-ranks-u-2 c =
    let a = c.args.issue in omega (arith, writer-low a a.i (omega arith), a.inside.1)

pub overflow_add-ranks : goal.overflow_add-ranks
unfolding writer_at
overflow_add-ranks c =
    let a = c.args.issue in
    let h = writer-low a a.i (omega arith) in
    omega (
      arith,
      c.requires.counts (writer_at a.words.now a.i) h,
      before-few a.words.now a.i (writer_at a.words.now a.i),
      a.in_order.1,
      a.in_order.0.header.few,
    )

pub returns : goal.returns
unfolding writer_at
returns c =
    let a = c.args.issue in
    ranked-up a.words.now a.w a.i c.args.ranks.now a.inside.1
    (writer-low a a.i (omega arith)) c.requires
