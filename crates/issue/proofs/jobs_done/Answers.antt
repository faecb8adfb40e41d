-- `jobs_done` tests the done mask of a run against its number of jobs.
-- Assumes nothing.
use Prim.Native.Nat.{◌+◌, ◌≤◌}
use native.Mathlib.Omega.{arith}
use lib.ListN.{length}
use Rattle.form.proofs.Known.{form-area}
use Rattle.issue.proofs.Known.{jobs-word, done-word, run-words, jobs-high}
use Rattle.issue.proofs.jobs_done.Goals as goal
use Rattle.issue.proofs.jobs_done.Goals.{After-run_at-at}

here : (c : After-run_at-at)
    → c.run_at-at.result + 28 ≤ length c.args.words.now
here c =
    let a = c.args in
    rw c.run_at-at.ensures (run-words a.words.now a.z c.requires.form_with a.r
    c.requires.r_lt_runs)

pub run_at-at-requires : goal.run_at-at-requires
run_at-at-requires c =
    record {
      ranged = (form-area c.args.words.now c.args.z c.requires.form_with).ranged;
      r_lt_runs = c.requires.r_lt_runs;
    }

pub has_all-requires : goal.has_all-requires
has_all-requires c =
    let a = c.args in
    let l = a.words.now in
    rw (c.run_at-at.ensures, ← jobs-word l a.z c.requires.form_with a.r c.requires.r_lt_runs)
    (jobs-high l a.z c.requires.form_with a.r c.requires.r_lt_runs)

pub returns : goal.returns
returns c =
    let a = c.args in
    let l = a.words.now in
    rw (
      jobs-word l a.z c.requires.form_with a.r c.requires.r_lt_runs,
      done-word l a.z c.requires.form_with a.r c.requires.r_lt_runs,
      ← c.run_at-at.ensures,
    )
    c.has_all.ensures

pub overflow_add-at : goal.overflow_add-at
overflow_add-at c = omega (arith, here (goal.at.overflow_add-at c).After-run_at-at)

pub offset_bounds-words-at : goal.offset_bounds-words-at
offset_bounds-words-at c = omega (arith, here (goal.at.offset_bounds-words-at c).After-run_at-at)

pub bounds-words-at : goal.bounds-words-at
bounds-words-at c = omega (arith, here (goal.at.bounds-words-at c).After-run_at-at)

pub overflow_add-at-2 : goal.overflow_add-at-2
overflow_add-at-2 c = omega (arith, here (goal.at.overflow_add-at-2 c).After-run_at-at)

pub offset_bounds-words-at-2 : goal.offset_bounds-words-at-2
offset_bounds-words-at-2 c = omega (
  arith,
  here (goal.at.offset_bounds-words-at-2
      c).After-run_at-at,
)

pub bounds-words-at-2 : goal.bounds-words-at-2
bounds-words-at-2 c = omega (arith, here (goal.at.bounds-words-at-2 c).After-run_at-at)
