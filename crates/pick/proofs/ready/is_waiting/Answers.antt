-- `is_waiting` tests the state, and whether a job is ready.
-- Assumes nothing.
-- The state is the run's first word.
use native.Mathlib.Omega.{arith}
use mathlib.Core.Path.{◌≡◌, sym, ◌∙◌}
use Prim.Native.Nat.{◌+◌, ◌≤◌}
use lib.ListN.{length, get_or}
use Rattle.sizes.specs.Bounds.{run_size}
use Rattle.layout.specs.Reading.{store_of}
use Rattle.form.proofs.Known.{form-area}
use Rattle.status.proofs.Known.{RunKnown, run-known}
use Rattle.trial.specs.Jobs.{UsedRun}
use Rattle.trial.proofs.Known.{state_in}
use Rattle.pick.proofs.Known.{used_open}
use Rattle.pick.proofs.Waiting.{waiting-no, waiting-is}
use Rattle.pick.proofs.Searches.{is-below}
use Rattle.pick.proofs.ready.is_waiting.Goals as goal
use Rattle.pick.proofs.ready.is_waiting.Goals.{After-run_at-at, Else-words-at-ne-OPEN_STATE}

known : (c : After-run_at-at) → RunKnown c.args.words.now c.args.z c.args.r
known c = run-known _ _ _ c.requires.form_with c.requires.r_lt_runs

here : (c : After-run_at-at) → c.run_at-at.result + 28 ≤ length c.args.words.now
unfolding run_size
here c =
    rw c.run_at-at.ensures
    (omega (arith, (run-known _ _ _ c.requires.form_with c.requires.r_lt_runs).area.fits))

state : (c : After-run_at-at) → let a = c.args in
    ((store_of a.words.now).run a.r).state ≡ get_or a.words.now c.run_at-at.result 0
state c =
    let a = c.args in
    state_in a.words.now a.z a.r (run-known _ _ _ c.requires.form_with c.requires.r_lt_runs) _
    c.run_at-at.ensures

used : (c : Else-words-at-ne-OPEN_STATE) → UsedRun c.args.words.now c.args.z c.args.r
used c =
    let a = c.args in
    used_open _ _ c.requires.form_with _ c.requires.r_lt_runs
    (state_in a.words.now a.z a.r (run-known _ _ _ c.requires.form_with c.requires.r_lt_runs) _
    c.run_at-at.ensures ∙ c.if-words-at-ne-OPEN_STATE.false)

pub run_at-at-requires : goal.run_at-at-requires
run_at-at-requires c =
    record {
      ranged = (form-area _ _ c.requires.form_with).ranged;
      r_lt_runs = c.requires.r_lt_runs;
    }

pub returns-then-words-at-ne-OPEN_STATE : goal.returns-then-words-at-ne-OPEN_STATE
returns-then-words-at-ne-OPEN_STATE c =
    sym (waiting-no _ (λ e. c.if-words-at-ne-OPEN_STATE.true (sym
    (state (goal.at.returns-then-words-at-ne-OPEN_STATE c).After-run_at-at) ∙ e)))

pub returns : goal.returns
returns c =
    rw (c.is_some.ensures, c.ready_job.ensures)
    (is-below _ _
    ∙ sym (waiting-is _ (state (goal.at.returns c).After-run_at-at
    ∙ c.if-words-at-ne-OPEN_STATE.false)))

pub offset_bounds-words-at : goal.offset_bounds-words-at
offset_bounds-words-at c = omega (arith, here (goal.at.offset_bounds-words-at c).After-run_at-at)

pub bounds-words-at : goal.bounds-words-at
bounds-words-at c = omega (arith, here (goal.at.bounds-words-at c).After-run_at-at)

pub ready_job-requires : goal.ready_job-requires
ready_job-requires c = used (goal.at.ready_job-requires c).Else-words-at-ne-OPEN_STATE
