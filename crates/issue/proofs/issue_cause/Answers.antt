-- `issue_cause` tests the causes in the table's order.
-- Assumes nothing.
-- Run, writer and mask are in range.
-- What the tests of the mark, of the jobs and of the writer's right say.
-- All jobs are done.
use mathlib.Core.Path.{◌≡◌, refl, sym, ◌∙◌}
use mathlib.Core.Bool.{false, not, cond, So}
use borrow.Author.Tests.{not-true, not-false}
use lib.Dec.{eqb}
use Rattle.words.proofs.Bools.{eq-eqb, ne_eqb}
use Rattle.model.specs.Outcome.{refuse}
use Rattle.model.specs.Issue.{raise_cause, issue_cause}
use Rattle.layout.specs.Reading.{store_of}
use Rattle.form.proofs.Known.{form-area}
use Rattle.issue.proofs.Causes.{beyond, issue-cause, in_range_lem, cause-state, cause-jobs}
use Rattle.std.proofs.Common.{ap}
use Rattle.std.proofs.lemmas.Result.{err_from_is_err_and}
use Rattle.answers.specs.Refusals.{refusal_number}
use Rattle.answers.proofs.Refusals.{refusal_some}
use Rattle.issue.proofs.issue_cause.Goals as goal
use Rattle.issue.proofs.issue_cause.Goals.{After-is_barred-barred, Else-not-done, Else-out_of_range}

range : (c : Else-out_of_range) → let a = c.args in
    beyond a.z a.r a.w a.mask ≡ false
range c = sym c.out_of_range.ensures ∙ c.if-out_of_range.false

tested : (c : After-is_barred-barred)
    → let a = c.args in
    let s = store_of a.words.now in
    issue_cause s a.r a.w a.mask
    ≡ refuse c.is_forked-forked.result 14
    (refuse (not c.jobs_done-done.result) 6
    (refuse c.is_barred-barred.result 13 (cond (eqb a.mask 0) 0 (raise_cause s a.w))))
tested c =
    let a = c.args in
    rw (c.is_forked-forked.ensures, c.jobs_done-done.ensures, c.is_barred-barred.ensures)
    (cause-jobs a.words.now a.z c.requires a.r a.w a.mask 0
    (sym c.out_of_range.ensures ∙ c.if-out_of_range.false) c.in_ok-run_cause.ensures refl)

all_done : (c : Else-not-done) → So c.jobs_done-done.result
all_done c = not-false c.jobs_done-done.result (ap not c.if-not-done.false)

pub out_of_range-requires : goal.out_of_range-requires
out_of_range-requires c =
    (form-area c.args.words.now c.args.z c.requires).ranged

pub returns-then-out_of_range : goal.returns-then-out_of_range
unfolding refuse
returns-then-out_of_range c =
    let a = c.args in
    rw (
      issue-cause a.words.now a.z c.requires a.r a.w a.mask,
      sym c.out_of_range.ensures ∙ c.if-out_of_range.true,
    )

pub returns-in_err-run_cause : goal.returns-in_err-run_cause
returns-in_err-run_cause c =
    let a = c.args in
    let p = err_from_is_err_and c.from_residual.result c.from_residual.ensures.1 in
    let e = c.in_err-run_cause.field-0.0 in
    rw (p.1, p.2)
    (cause-state a.words.now a.z c.requires a.r a.w a.mask (refusal_number e)
    (range (goal.at.returns-in_err-run_cause c).Else-out_of_range) c.in_err-run_cause.ensures
    (refusal_some e))

pub is_forked-forked-requires : goal.is_forked-forked-requires
is_forked-forked-requires c =
    let a = c.args in record {
      form_with = c.requires;
      r_lt_runs = (in_range_lem a.words.now a.z c.requires a.r a.w a.mask (range
          (goal.at.is_forked-forked-requires c).Else-out_of_range)).0;
    }

pub jobs_done-done-requires : goal.jobs_done-done-requires
jobs_done-done-requires c =
    let a = c.args in record {
      form_with = c.requires;
      r_lt_runs = (in_range_lem a.words.now a.z c.requires a.r a.w a.mask (range
          (goal.at.jobs_done-done-requires c).Else-out_of_range)).0;
    }

pub is_barred-barred-requires : goal.is_barred-barred-requires
is_barred-barred-requires c =
    let a = c.args in
    let i = in_range_lem a.words.now a.z c.requires a.r a.w a.mask (range
    (goal.at.is_barred-barred-requires c).Else-out_of_range) in
    record {
      form_with = (c.requires, i.1);
      mask_bound = i.2;
    }

pub returns-then-forked : goal.returns-then-forked
unfolding refuse
returns-then-forked c = rw (
  tested (goal.at.returns-then-forked c).After-is_barred-barred,
  c.if-forked.true,
)

pub returns-then-not-done : goal.returns-then-not-done
unfolding refuse
returns-then-not-done c =
    rw (
      tested (goal.at.returns-then-not-done c).After-is_barred-barred,
      c.if-forked.false,
      not-true c.jobs_done-done.result (ap not c.if-not-done.true),
    )

pub returns-then-barred : goal.returns-then-barred
unfolding refuse
returns-then-barred c =
    rw (
      tested (goal.at.returns-then-barred c).After-is_barred-barred,
      c.if-forked.false,
      all_done
          (goal.at.returns-then-barred c).Else-not-done,
      c.if-barred.true,
    )

pub returns-then-mask-eq0 : goal.returns-then-mask-eq0
unfolding refuse
returns-then-mask-eq0 c =
    rw (
      tested (goal.at.returns-then-mask-eq0 c).After-is_barred-barred,
      c.if-forked.false,
      all_done (goal.at.returns-then-mask-eq0 c).Else-not-done,
      c.if-barred.false,
      eq-eqb _ _
          c.if-mask-eq0.true,
    )

pub raise_cause-requires : goal.raise_cause-requires
raise_cause-requires c =
    let a = c.args in record {
      form_with = c.requires;
      w_lt_writers = (in_range_lem a.words.now a.z c.requires a.r a.w a.mask (range
          (goal.at.raise_cause-requires c).Else-out_of_range)).1;
    }

pub returns : goal.returns
unfolding refuse
returns c =
    rw (
      tested (goal.at.returns c).After-is_barred-barred,
      c.if-forked.false,
      all_done
          (goal.at.returns c).Else-not-done,
      c.if-barred.false,
      ne_eqb _ _ c.if-mask-eq0.false,
    )
    c.raise_cause.ensures
