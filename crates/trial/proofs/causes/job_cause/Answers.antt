-- `job_cause` tests the job's range, the state, the branch and the jobs done, in this order.
-- Assumes nothing.
-- ---- the run's words
-- The run, and where its words are.
-- ---- the job's range
-- ---- the state
-- ---- the branch
-- ---- the jobs done
-- A job in range of a run that isn't free.
-- ---- the rows that are left
use mathlib.Core.Path.{◌≡◌, sym, ◌∙◌}
use mathlib.Core.Bool.{true, false}
use Prim.Native.Nat.{◌+◌, ◌≤◌, ◌<◌}
use borrow.Author.Tests.{not-true, not-false}
use native.Mathlib.Omega.{arith}
use lib.ListN.{length, get_or}
use Rattle.words.proofs.Bools.{le-leb, gt-leb}
use Rattle.sizes.specs.Bounds.{run_size}
use Rattle.model.specs.Outcome.{refuse, allowed, step_row}
use Rattle.model.specs.Step.{job_limit, job_cause}
use Rattle.layout.specs.Reading.{store_of}
use Rattle.form.proofs.Known.{form-area}
use Rattle.status.proofs.Known.{RunKnown, run-known}
use Rattle.trial.specs.Jobs.{UsedRun}
use Rattle.trial.proofs.Known.{limit_in, state_in, done_in, mark-found, job-low, upstream-low, job_open}
use Rattle.std.proofs.Common.{ap}
use mathlib.Core.Bool.{not}
use Rattle.trial.proofs.causes.job_cause.Goals as goal
use Rattle.trial.proofs.causes.job_cause.Goals.{After-is_allowed, After-is_unready-unready, After-job_limit, After-job_of-job, After-mark_at, After-run_at-at, Else-not-is_allowed}

known : (c : After-run_at-at) → let a = c.args in
    RunKnown a.words.now a.z a.r
known c = run-known _ _ _ c.requires.form_with c.requires.r_lt_runs

limited : (c : After-job_limit) → let n = c in
    let a = n.args in
    let x = (store_of a.words.now).run a.r in
    job_limit x.state x.jobs ≡ c.job_limit.result
limited c =
    let a = c.args in
    limit_in a.words.now a.z a.r ((let it : let a = c.args in
    RunKnown a.words.now a.z a.r = run-known _ _ _ c.requires.form_with
    c.requires.r_lt_runs in it)) _ c.run_at-at.ensures
    ∙ sym c.job_limit.ensures

stated : (c : After-is_allowed) → let n = c in
    let a = n.args in
    allowed step_row ((store_of a.words.now).run a.r).state ≡ c.is_allowed.result
stated c =
    let a = c.args in
    rw (state_in a.words.now a.z a.r ((let it : let a = c.args in
    RunKnown a.words.now a.z a.r = run-known _ _ _ c.requires.form_with
    c.requires.r_lt_runs in it)) _ c.run_at-at.ensures)
    (sym c.is_allowed.ensures)

marked : (c : After-mark_at)
    → let s = c in
    (c.mark_at.result < length s.args.words.now)
    × (((store_of s.args.words.now).run s.args.r).mark
    ≡ get_or s.args.words.now c.mark_at.result 0)
marked c =
    let a = c.args in
    rw c.mark_at.ensures
    (mark-found a.words.now a.z a.r c.requires.form_with c.requires.r_lt_runs)

ready : (c : Else-not-is_allowed) → let n = c in
    let a = n.args in
    UsedRun a.words.now a.z a.r × (a.j < ((store_of a.words.now).run a.r).jobs)
ready c =
    let n = c in
    let s = n in
    let a = s.args in
    job_open a.words.now a.z a.r a.j s.requires.form_with s.requires.r_lt_runs
    (rw ((let it : let n = c in
    let a = n.args in
    let x = (store_of a.words.now).run a.r in
    job_limit x.state x.jobs ≡ c.job_limit.result = let n = c in
    let a = n.args in
    limit_in a.words.now a.z a.r ((let it : let a = n.args in
    RunKnown a.words.now a.z a.r = let s = n in run-known _ _ _ s.requires.form_with
    s.requires.r_lt_runs in it)) _ n.run_at-at.ensures
    ∙ sym c.job_limit.ensures in it)) (gt-leb _ _ c.if-job_limit-j.false))
    ((let it : let n = c in
    let a = n.args in
    allowed step_row ((store_of a.words.now).run a.r).state ≡ c.is_allowed.result =
    let a = c.args in
    rw (state_in a.words.now a.z a.r ((let it : let a = c.args in
    RunKnown a.words.now a.z a.r = run-known _ _ _ c.requires.form_with
    c.requires.r_lt_runs in it)) _ c.run_at-at.ensures)
    (sym c.is_allowed.ensures) in it) ∙ not-false c.is_allowed.result (ap not
    c.if-not-is_allowed.false))

low : (c : After-job_of-job)
    → let e = c in
    let n = e in
    (n.args.j < 8) × (c.job_of-job.result.upstream < 256)
low c =
    let n = c in
    let a = n.args in
    let U = (let it : let n = c in
    let a = n.args in
    UsedRun a.words.now a.z a.r × (a.j < ((store_of a.words.now).run a.r).jobs) =
    let n = c in
    let s = n in
    let a = s.args in
    job_open a.words.now a.z a.r a.j s.requires.form_with s.requires.r_lt_runs
    (rw ((let it : let n = c in
    let a = n.args in
    let x = (store_of a.words.now).run a.r in
    job_limit x.state x.jobs ≡ c.job_limit.result = let n = c in
    let a = n.args in
    limit_in a.words.now a.z a.r ((let it : let a = n.args in
    RunKnown a.words.now a.z a.r = let s = n in run-known _ _ _ s.requires.form_with
    s.requires.r_lt_runs in it)) _ n.run_at-at.ensures
    ∙ sym c.job_limit.ensures in it)) (gt-leb _ _ c.if-job_limit-j.false))
    ((let it : let n = c in
    let a = n.args in
    allowed step_row ((store_of a.words.now).run a.r).state ≡ c.is_allowed.result =
    let a = c.args in
    rw (state_in a.words.now a.z a.r ((let it : let a = c.args in
    RunKnown a.words.now a.z a.r = run-known _ _ _ c.requires.form_with
    c.requires.r_lt_runs in it)) _ c.run_at-at.ensures)
    (sym c.is_allowed.ensures) in it) ∙ not-false c.is_allowed.result (ap not
    c.if-not-is_allowed.false)) in it) in (
      job-low a.words.now a.z a.r U.0 a.j U.1,
      rw c.job_of-job.ensures
          (upstream-low a.words.now a.z a.r U.0 a.j U.1),
    )

tested : (c : After-is_unready-unready)
    → let b = c in
    let n = b in
    let a = n.args in
    job_cause ((store_of a.words.now).run a.r) a.j a.n 0
    ≡ refuse b.is_off_branch-off.result 14 (refuse c.is_unready-unready.result 6 0)
unfolding job_cause refuse
tested c =
    let n = c in
    let a = n.args in
    rw (
      (let it : let n = c in
          let a = n.args in
          let x = (store_of a.words.now).run a.r in
          job_limit x.state x.jobs ≡ c.job_limit.result = let n = c in
          let a = n.args in
          limit_in a.words.now a.z a.r ((let it : let a = n.args in
          RunKnown a.words.now a.z a.r = let s = n in run-known _ _ _ s.requires.form_with
          s.requires.r_lt_runs in it)) _ n.run_at-at.ensures
          ∙ sym c.job_limit.ensures in it),
      gt-leb _ _ c.if-job_limit-j.false,
      (let it : let n = c in
          let a = n.args in
          allowed step_row ((store_of a.words.now).run a.r).state ≡ c.is_allowed.result = let n =
          c in
          let a = n.args in
          rw (state_in a.words.now a.z a.r ((let it : let a = n.args in
          RunKnown a.words.now a.z a.r = let s = n in run-known _ _ _ s.requires.form_with
          s.requires.r_lt_runs in it)) _ n.run_at-at.ensures)
          (sym c.is_allowed.ensures) in it),
      not-false c.is_allowed.result (ap not c.if-not-is_allowed.false),
      ((let it : let s = c in
          (c.mark_at.result < length s.args.words.now)
          × (((store_of s.args.words.now).run s.args.r).mark
          ≡ get_or s.args.words.now c.mark_at.result 0) =
          let a = c.args in
          rw c.mark_at.ensures
          (mark-found a.words.now a.z a.r c.requires.form_with c.requires.r_lt_runs) in it)).1,
      c.is_off_branch-off.ensures,
      done_in a.words.now a.z a.r ((let it : let a = n.args in
          RunKnown a.words.now a.z a.r = run-known _ _ _ n.requires.form_with
          n.requires.r_lt_runs in it)) _ n.run_at-at.ensures,
      c.is_unready-unready.ensures,
      c.job_of-job.ensures,
    )

pub run_at-at-requires : goal.run_at-at-requires
run_at-at-requires c = record {
  ranged = (form-area _ _ c.requires.form_with).ranged;
  r_lt_runs = c.requires.r_lt_runs;
}

pub returns-then-job_limit-j : goal.returns-then-job_limit-j
unfolding job_cause refuse
returns-then-job_limit-j c = rw (
  limited (goal.at.returns-then-job_limit-j c).After-job_limit,
  le-leb _ _ c.if-job_limit-j.true,
)

pub is_allowed-requires : goal.is_allowed-requires
is_allowed-requires c =
    rw c.run_at-at.ensures (known (goal.at.is_allowed-requires c).After-run_at-at).state

pub returns-then-not-is_allowed : goal.returns-then-not-is_allowed
unfolding job_cause refuse
returns-then-not-is_allowed c =
    let t = c.before in
    rw (
      limited (goal.at.returns-then-not-is_allowed c).After-job_limit,
      gt-leb _ _ t.if-job_limit-j.false,
      stated (goal.at.returns-then-not-is_allowed c).After-is_allowed,
      not-true t.is_allowed.result (ap not c.if-not-is_allowed.true),
    )

pub mark_at-requires : goal.mark_at-requires
mark_at-requires c =
    record {
      ranged = (form-area _ _ c.requires.form_with).ranged;
      r_lt_runs = c.requires.r_lt_runs;
    }

pub job_of-job-requires : goal.job_of-job-requires
job_of-job-requires c =
    let r = ready (goal.at.job_of-job-requires c).Else-not-is_allowed in
    record { used_run = r.0; j_bound = r.1 }

pub is_unready-unready-requires : goal.is_unready-unready-requires
is_unready-unready-requires c = low (goal.at.is_unready-unready-requires c).After-job_of-job

pub returns-then-off : goal.returns-then-off
unfolding refuse
returns-then-off c =
    let u = c.before in
    let off : u.is_off_branch-off.result ≡ true = c.if-off.true in
    rw (tested (goal.at.returns-then-off c).After-is_unready-unready, off)

pub returns-then-unready : goal.returns-then-unready
unfolding refuse
returns-then-unready c =
    let u = c.before in
    let on : u.is_off_branch-off.result ≡ false = c.if-off.false in
    rw (tested (goal.at.returns-then-unready c).After-is_unready-unready, on, c.if-unready.true)

pub returns : goal.returns
unfolding refuse
returns c = rw (
  tested (goal.at.returns c).After-is_unready-unready,
  c.if-off.false,
  c.if-unready.false,
)

pub offset_bounds-words-mark_at : goal.offset_bounds-words-mark_at
offset_bounds-words-mark_at c = omega (
  arith,
  (marked (goal.at.offset_bounds-words-mark_at
      c).After-mark_at).0,
)

pub bounds-words-mark_at : goal.bounds-words-mark_at
bounds-words-mark_at c = omega (arith, (marked (goal.at.bounds-words-mark_at c).After-mark_at).0)

pub overflow_cast-j : goal.overflow_cast-j
overflow_cast-j c = omega (arith, low (goal.at.overflow_cast-j c).After-job_of-job)

here : (c : After-run_at-at)
    → c.run_at-at.result + 28 ≤ length c.args.words.now
unfolding run_size
here c = rw c.run_at-at.ensures (omega (
  arith,
  ((let it : let a = c.args in
      RunKnown a.words.now a.z a.r = run-known _ _ _ c.requires.form_with
      c.requires.r_lt_runs in it)).area.fits,
))

pub offset_bounds-words-at : goal.offset_bounds-words-at
offset_bounds-words-at c = omega (arith, here (goal.at.offset_bounds-words-at c).After-run_at-at)

pub bounds-words-at : goal.bounds-words-at
bounds-words-at c = omega (arith, here (goal.at.bounds-words-at c).After-run_at-at)

pub overflow_add-jobs : goal.overflow_add-jobs
overflow_add-jobs c = omega (arith, here (goal.at.overflow_add-jobs c).After-run_at-at)

pub offset_bounds-words-at-2 : goal.offset_bounds-words-at-2
offset_bounds-words-at-2 c = omega (
  arith,
  here (goal.at.offset_bounds-words-at-2
      c).After-run_at-at,
)

pub bounds-words-at-2 : goal.bounds-words-at-2
bounds-words-at-2 c = omega (arith, here (goal.at.bounds-words-at-2 c).After-run_at-at)

pub overflow_add-done : goal.overflow_add-done
overflow_add-done c = omega (arith, here (goal.at.overflow_add-done c).After-run_at-at)

pub offset_bounds-words-at-3 : goal.offset_bounds-words-at-3
offset_bounds-words-at-3 c = omega (
  arith,
  here (goal.at.offset_bounds-words-at-3
      c).After-run_at-at,
)

pub bounds-words-at-3 : goal.bounds-words-at-3
bounds-words-at-3 c = omega (arith, here (goal.at.bounds-words-at-3 c).After-run_at-at)
