-- `fold_reads` steps from read to read.
-- Assumes nothing.
use Rattle.std.proofs.Common.{refl, ◌≡◌, arith}
use Rattle.records.specs.Format.{number_at}
use Rattle.audit.specs.Steps.{Folds}
use Rattle.audit.proofs.Places.{read_first, read-onward, handed-is, handed-end}
use Rattle.audit.proofs.Folding.{folds-more}
use Rattle.audit.proofs.reading.fold_reads.Goals as goal

pub loop-r-init : goal.loop-r-init
unfolding Folds
loop-r-init g c = record { place = read_first _ _ _ c.reads_at-at.ensures; folded = refl }

pub returns-in_default : goal.returns-in_default
unfolding number_at
returns-in_default g c =
    absurd (handed-end c.args.issue c.loop-r._r _ c.loop-r-test.true c.loop-r.invariant.place _
    c.read_from.ensures c.in_default.is)

pub step-requires : goal.step-requires
unfolding number_at
step-requires g c =
    let e = handed-is c.args.issue c.loop-r._r _ c.loop-r-test.true c.loop-r.invariant.place _
    c.read_from.ensures _ c.in-Some.is in
    rw e (c.requires.callable _ _ (c.loop-r._r, c.loop-r-test.true, refl))

pub loop-r-preserved : goal.loop-r-preserved
unfolding number_at
loop-r-preserved g c =
    let a = c.args.issue in
    let e = handed-is c.args.issue c.loop-r._r _ c.loop-r-test.true c.loop-r.invariant.place _
    c.read_from.ensures _ c.in-Some.is in
    record {
      place = rw e (read-onward a.words.now a.i c.loop-r._r);
      folded =
          folds-more _ _ _ _ _ c.loop-r.invariant.folded (record {
            from = _;
            to = _;
            before = refl;
            step = rw e at c.step.ensures;
            after = refl;
          });
    }

pub returns : goal.returns
unfolding number_at
returns g c =
    let e : c.loop-r._r ≡ number_at c.args.issue.words.now c.args.issue.i = omega arith in
    rw e at c.loop-r.invariant.folded
