-- `try_at` tests the causes of the run, finds what is to be fetched and T, tests it, and finds C.
-- ready: none of the run's causes holds. own: the branch stands at the snapshot's index and at
-- that of its read mask. known: what is looked at. tested: what is left where no cause before it
-- holds.
-- Assumes nothing.
use mathlib.Core.Path.{◌≡◌, sym, ap, ◌∙◌}
use Prim.Native.Nat.{◌<◌, ◌^◌}
use native.Mathlib.Omega.{arith}
use Rattle.std.proofs.lemmas.Result.{err_from_is_err_and}
use lib.Bits.{or_lt}
use Rattle.words.proofs.Bools.{ne_eqb}
use Rattle.answers.specs.Refusals.{refusal_number, cause_number}
use Rattle.answers.proofs.Refusals.{refusal_some}
use Rattle.masks.proofs.Sets.{mask_lt}
use Rattle.sizes.specs.Bounds.{read_at_of}
use Rattle.model.specs.Step.{step_cause}
use Rattle.model.proofs.Steps.{step-below}
use Rattle.layout.specs.Reading.{store_of}
use Rattle.form.proofs.Known.{form-counts}
use Rattle.trial.specs.Jobs.{UsedRun}
use Rattle.trial.proofs.Known.{job-ready}
use Rattle.trial.proofs.Cases.{tried-no, tried-yes}
use Rattle.trial.proofs.Trials.{BranchAt, branch-at, VisitKnown, visit-known, taken-read, cause-last, trial-found}
use Rattle.trial.proofs.try_at.Goals as goal
use Rattle.trial.proofs.try_at.Goals.{After-find_taken-taken, After-taking_cause, After-visit_of-visit, In_ok-job_cause, Start}

ready : (c : In_ok-job_cause) → let a = c.args in
    UsedRun a.words.now a.z a.r × (a.j < ((store_of a.words.now).run a.r).jobs)
ready c =
    let a = c.args in
    job-ready a.words.now a.z a.r a.j c.requires.form_with.0 c.requires.form_with.1 a.n
    (sym c.in_ok-job_cause.ensures)

own : (s : Start) → let a = s.args in
    BranchAt a.words.now a.z a.r a.n a.snapshot (read_at_of a.z a.r a.n)
own s =
    let a = s.args in
    branch-at a.words.now a.z a.r a.n s.requires.form_with.0 s.requires.form_with.1 a.snapshot
    s.requires.snapshot_value

known : (c : After-visit_of-visit) → VisitKnown c.args.words.now c.args.z c.visit_of-visit.result
known c =
    let a = c.args in
    let u =
    job-ready a.words.now a.z a.r a.j c.requires.form_with.0 c.requires.form_with.1 a.n
    (sym c.in_ok-job_cause.ensures) in
    visit-known a.words.now a.z a.r a.j a.n a.snapshot u.0 u.1 _ c.visit_of-visit.ensures

tested : (c : After-taking_cause) → let a = c.args in
    step_cause (store_of a.words.now) a.r a.j a.n ≡ cause_number c.taking_cause.result
tested c =
    let a = c.args in
    let form = c.requires.form_with in
    let none = sym c.in_ok-job_cause.ensures in
    let u = job-ready a.words.now a.z a.r a.j form.0 form.1 a.n none in
    cause-last a.words.now a.z a.r a.j a.n a.snapshot u.0 u.1 c.visit_of-visit.result
    c.visit_of-visit.ensures (read_at_of a.z a.r a.n)
    (branch-at a.words.now a.z a.r a.n form.0 form.1 a.snapshot c.requires.snapshot_value)
    c.lacking-wanted.result c.lacking-start.result c.lacking-wanted.ensures
    c.lacking-start.ensures c.find_taken-taken.result none c.find_taken-taken.ensures
    ∙ sym c.taking_cause.ensures

pub returns-in_err-job_cause : goal.returns-in_err-job_cause
returns-in_err-job_cause c =
    let a = c.args in
    let p = err_from_is_err_and c.from_residual.result c.from_residual.ensures.1 in
    let e = c.in_err-job_cause.field-0.0 in
    let cause : step_cause (store_of a.words.now) a.r a.j a.n ≡ refusal_number e =
    rw (
      step-below (store_of a.words.now) a.r a.j a.n
          (rw (form-counts a.words.now a.z c.requires.form_with.0) c.requires.form_with.1),
      ← c.in_err-job_cause.ensures,
      ne_eqb (refusal_number e) 0 (refusal_some e),
    ) in
    rw (p.1, p.2) (tried-no _ a.r a.j a.n _ (refusal_number e) cause (refusal_some e))

pub visit_of-visit-requires : goal.visit_of-visit-requires
visit_of-visit-requires c = ready (goal.at.visit_of-visit-requires c).In_ok-job_cause

pub lacking-wanted-requires : goal.lacking-wanted-requires
lacking-wanted-requires c = record {
  area = (own (goal.at.lacking-wanted-requires c).Start).area;
  mask_bound = (known (goal.at.lacking-wanted-requires c).After-visit_of-visit).reads;
}

pub lacking-start-requires : goal.lacking-start-requires
lacking-start-requires c = record {
  area = (known (goal.at.lacking-start-requires c).After-visit_of-visit).cache;
  mask_bound = rw c.lacking-wanted.ensures (mask_lt _ _ _ (omega arith));
}

pub find_taken-taken-requires : goal.find_taken-taken-requires
find_taken-taken-requires c = record {
  form_with = (
    c.requires.form_with.0,
    (known (goal.at.find_taken-taken-requires c).After-visit_of-visit).site,
  );
  start_bound = rw c.lacking-start.ensures (mask_lt _ _ _ (omega arith));
}

taken-low : (c : After-find_taken-taken) → c.find_taken-taken.result < 2 ^ c.args.z.keys
taken-low c = rw c.find_taken-taken.ensures (mask_lt _ _ _ (omega arith))

pub taking_cause-requires : goal.taking_cause-requires
taking_cause-requires c =
    let K = known (goal.at.taking_cause-requires c).After-visit_of-visit in
    let low = taken-low (goal.at.taking_cause-requires c).After-find_taken-taken in
    record {
      form_with = (c.requires.form_with.0, K.site);
      asked_bound = (or_lt c.args.z.keys _ _ K.reads low, low);
    }

pub returns-in_err-taking_cause : goal.returns-in_err-taking_cause
returns-in_err-taking_cause c =
    let a = c.args in
    let f = c.from_residual-in_err-taking_cause in
    let p = err_from_is_err_and f.result f.ensures.1 in
    let e = c.in_err-taking_cause.field-0.0 in
    let cause =
    tested (goal.at.returns-in_err-taking_cause c).After-taking_cause
    ∙ ap cause_number c.in_err-taking_cause.was in
    rw (p.1, p.2) (tried-no _ a.r a.j a.n _ (refusal_number e) cause (refusal_some e))

pub draw_set-pulled-requires : goal.draw_set-pulled-requires
draw_set-pulled-requires c =
    let K = known (goal.at.draw_set-pulled-requires c).After-visit_of-visit in
    let L = own (goal.at.draw_set-pulled-requires c).Start in
    record {
      draw_area = record { target_in = L.area; first_in = K.master; second_in = K.cache };
      start_bound = rw c.lacking-wanted.ensures (mask_lt _ _ _ (omega arith));
    }

pub returns : goal.returns
returns c =
    let a = c.args in
    let u = ready (goal.at.returns c).In_ok-job_cause in
    let L = own (goal.at.returns c).Start in
    let found = taken-read a.words.now a.z a.r a.j a.n a.snapshot u.0 u.1 c.visit_of-visit.result
    c.visit_of-visit.ensures (read_at_of a.z a.r a.n) L
    c.lacking-wanted.result c.lacking-start.result c.lacking-wanted.ensures
    c.lacking-start.ensures c.find_taken-taken.result c.find_taken-taken.ensures in
    tried-yes _ a.r a.j a.n _ _ _
    (tested (goal.at.returns c).After-taking_cause
    ∙ ap cause_number c.in_ok-taking_cause.was)
    c.visit_of-visit.ensures
    (trial-found a.words.now a.z a.r a.j a.n a.snapshot u.0 u.1 c.visit_of-visit.result
    c.visit_of-visit.ensures (read_at_of a.z a.r a.n) L
    c.lacking-wanted.result c.lacking-start.result c.lacking-wanted.ensures
    c.lacking-start.ensures c.find_taken-taken.result c.draw_set-pulled.result found
    c.draw_set-pulled.ensures)
