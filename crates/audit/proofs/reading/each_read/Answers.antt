-- `each_read` tests each read.
-- Assumes nothing.
use Rattle.std.proofs.Common.{refl, sym, ◌∙◌, ◌≡◌, ◌+◌, arith}
use Rattle.words.specs.Tests.{all_below}
use Rattle.words.proofs.Tests.{all_yes, all-no}
use Rattle.records.specs.Format.{first_at, number_at, all_reads}
use Rattle.audit.proofs.Places.{read_first, read-onward, handed-is, handed-end}
use Rattle.audit.proofs.reading.each_read.Goals as goal

pub loop-r-init : goal.loop-r-init
unfolding all_below
loop-r-init g c = record {
  place = read_first _ _ _ c.reads_at-at.ensures;
  passed = λ p h. refl;
}

pub returns-in_default : goal.returns-in_default
unfolding number_at
returns-in_default g c =
    absurd (handed-end c.args.issue c.loop-r._r _ c.loop-r-test.true c.loop-r.invariant.place _
    c.read_from.ensures c.in_default.is)

pub test-requires : goal.test-requires
unfolding number_at
test-requires g c =
    let e = handed-is c.args.issue c.loop-r._r _ c.loop-r-test.true c.loop-r.invariant.place _
    c.read_from.ensures _ c.in-Some.is in
    rw e (c.requires.callable _ (c.loop-r._r, c.loop-r-test.true, refl))

pub returns-then-not-test : goal.returns-then-not-test
unfolding number_at all_reads
returns-then-not-test g c = λ p h.
    let e = handed-is c.args.issue c.loop-r._r _ c.loop-r-test.true c.loop-r.invariant.place _
    c.read_from.ensures _ c.in-Some.is in
    let t : c.test.result ≡ p (first_at c.args.issue.words.now c.args.issue.i + c.loop-r._r) =
    h _ _ (c.loop-r._r, c.loop-r-test.true, refl) (rw e at c.test.ensures) in
    sym (all-no _ (λ r. p (first_at c.args.issue.words.now c.args.issue.i + r)) c.loop-r._r
    c.loop-r-test.true
    (sym t ∙ c.if-not-test.true))

pub loop-r-preserved : goal.loop-r-preserved
unfolding number_at
loop-r-preserved g c =
    let a = c.args.issue in
    let e = handed-is c.args.issue c.loop-r._r _ c.loop-r-test.true c.loop-r.invariant.place _
    c.read_from.ensures _ c.in-Some.is in
    record {
      place = rw e (read-onward a.words.now a.i c.loop-r._r);
      passed = λ p h.
          let t : c.test.result ≡ p (first_at a.words.now a.i + c.loop-r._r) =
          h _ _ (c.loop-r._r, c.loop-r-test.true, refl) (rw e at c.test.ensures) in
          all_yes (λ r. p (first_at a.words.now a.i + r)) c.loop-r._r
          (c.loop-r.invariant.passed p h) (sym t ∙ c.if-not-test.false);
    }

pub returns : goal.returns
unfolding number_at all_reads
returns g c = λ p h.
    let b = c.args.issue.words.now in
    let i = c.args.issue.i in
    let e : c.loop-r._r ≡ number_at b i = omega arith in
    sym (rw e at (c.loop-r.invariant.passed p h))
