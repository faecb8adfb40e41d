-- `job_count` reads the second word of the run.
-- Assumes nothing.
use mathlib.Core.Path.{ap, ◌∙◌}
use Prim.Native.Nat.{ℕ, ◌+◌, ◌≤◌}
use native.Mathlib.Omega.{arith}
use lib.ListN.{length, get_or}
use Rattle.sizes.specs.Runs.{snapshot_offset}
use Rattle.trial.proofs.Known.{jobs-known, run_index, count_word}
use Rattle.trial.proofs.jobs.job_count.Goals as goal
use Rattle.trial.proofs.jobs.job_count.Goals.{After-run_at-at}

here : (c : After-run_at-at)
    → c.run_at-at.result + snapshot_offset ≤ length c.args.words.now
here c =
    let s = c in
    run_index s.args.words.now s.args.z s.args.r s.requires _ c.run_at-at.ensures

pub run_at-at-requires : goal.run_at-at-requires
run_at-at-requires c =
    let s = c in
    let a = s.args in
    record {
      ranged = (jobs-known a.words.now a.z a.r s.requires).area.ranged;
      r_lt_runs = s.requires.run;
    }

pub overflow_add-result : goal.overflow_add-result
overflow_add-result c = omega (arith, here (goal.at.overflow_add-result c).After-run_at-at)

pub offset_bounds-words-at : goal.offset_bounds-words-at
offset_bounds-words-at c = omega (arith, here (goal.at.offset_bounds-words-at c).After-run_at-at)

pub bounds-words-at : goal.bounds-words-at
bounds-words-at c = omega (arith, here (goal.at.bounds-words-at c).After-run_at-at)

pub returns : goal.returns
returns c =
    let n = c in
    let s = n in
    let l = s.args.words.now in
    ap (λ (i : ℕ). get_or l (i + 1) 0) n.run_at-at.ensures
    ∙ count_word l s.args.z s.args.r s.requires
