-- `read_mask` reads the fourth word of a run.
-- Assumes nothing.
use Prim.Native.Nat.{◌+◌, ◌≤◌}
use native.Mathlib.Omega.{arith}
use lib.ListN.{length}
use Rattle.form.proofs.Known.{form-area}
use Rattle.issue.proofs.Known.{read_word, run-words}
use Rattle.issue.proofs.read_mask.Goals as goal
use Rattle.issue.proofs.read_mask.Goals.{After-run_at-at}

here : (c : After-run_at-at)
    → c.run_at-at.result + 28 ≤ length c.args.words.now
here c =
    let a = c.args in
    rw c.run_at-at.ensures (run-words a.words.now a.z c.requires.form_with a.r
    c.requires.r_lt_runs)

pub run_at-at-requires : goal.run_at-at-requires
run_at-at-requires c =
    record {
      ranged = (form-area c.args.words.now c.args.z c.requires.form_with).ranged;
      r_lt_runs = c.requires.r_lt_runs;
    }

pub overflow_add-result : goal.overflow_add-result
overflow_add-result c = omega (arith, here (goal.at.overflow_add-result c).After-run_at-at)

pub offset_bounds-words-at : goal.offset_bounds-words-at
offset_bounds-words-at c = omega (arith, here (goal.at.offset_bounds-words-at c).After-run_at-at)

pub bounds-words-at : goal.bounds-words-at
bounds-words-at c = omega (arith, here (goal.at.bounds-words-at c).After-run_at-at)

pub returns : goal.returns
returns c =
    let a = c.args in
    rw (
      read_word a.words.now a.z c.requires.form_with a.r c.requires.r_lt_runs,
      ← c.run_at-at.ensures,
    )
