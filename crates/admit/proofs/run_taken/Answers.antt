-- `run_taken` asks for both snapshots of a run, with the keys of its plan.
-- Assumes nothing.
-- Where the first words of the run stand.
use mathlib.Core.Path.{◌≡◌, ap, ap₂, ◌∙◌}
use mathlib.Core.Bool.{Bool, ◌&&◌}
use Prim.Native.Nat.{ℕ, ◌+◌, ◌≤◌}
use native.Mathlib.Omega.{arith}
use lib.ListN.{length, get_or}
use Rattle.masks.specs.Mask.{test_bit}
use Rattle.sizes.specs.Bounds.{run_size, run_at_of}
use Rattle.sizes.specs.Runs.{snapshot_offset}
use Rattle.layout.specs.Reading.{read_place, read_jobs, read_run}
use Rattle.version.proofs.Stores.{snapshot-area}
use Rattle.form.specs.Parts.{reads_of}
use Rattle.form.proofs.Known.{form-area}
use Rattle.form.proofs.Stores.{run-area}
use Rattle.admit.specs.Parts.{place_taken}
use Rattle.admit.proofs.Words.{run-plan, run-most}
use Rattle.admit.proofs.run_taken.Goals as goal
use Rattle.admit.proofs.run_taken.Goals.{After-run_at-at}

here : (c : After-run_at-at)
    → c.run_at-at.result + snapshot_offset ≤ length c.args.words.now
unfolding run_size
here c =
    rw c.run_at-at.ensures
    (omega (
      arith,
      (run-area _ _ (form-area _ _ c.requires.form_with.0) _
          c.requires.r_lt_runs).fits,
    ))

pub reads_of-plan-requires : goal.reads_of-plan-requires
unfolding read_run
reads_of-plan-requires c =
    let most = run-most _ _ c.requires.form_with.0 _ c.requires.r_lt_runs in (
      omega (arith, here (goal.at.reads_of-plan-requires c).After-run_at-at),
      rw c.run_at-at.ensures most,
    )

pub place_taken-requires : goal.place_taken-requires
place_taken-requires c =
    let A = form-area _ _ c.requires.form_with.0 in (
      c.requires.form_with.1,
      rw c.snapshot_on-first.ensures
          (snapshot-area _ _ A.ranged A.fits c.args.r 0 c.requires.r_lt_runs),
    )

pub place_taken-requires-2 : goal.place_taken-requires-2
place_taken-requires-2 c =
    let A = form-area _ _ c.requires.form_with.0 in (
      c.requires.form_with.1,
      rw c.snapshot_on-second.ensures
          (snapshot-area _ _ A.ranged A.fits c.args.r 1 c.requires.r_lt_runs),
    )

pub returns : goal.returns
returns c =
    let a = c.args in
    let l = a.words.now in
    let taken : ℕ → ℕ → Bool = λ plan i.
    place_taken a.z (read_place a.z l a.master) a.last.0 (test_bit plan)
    (read_place a.z l i) in
    let plan : c.reads_of-plan.result
    ≡ reads_of (get_or l (run_at_of a.z a.r + 1) 0) (read_jobs l (run_at_of a.z a.r + 4)) 255 =
    c.reads_of-plan.ensures
    ∙ ap (λ (at : ℕ). reads_of (get_or l (at + 1) 0) (read_jobs l (at + 4)) 255)
    c.run_at-at.ensures in
    ap₂ ◌&&◌
    (c.place_taken.ensures ∙ ap₂ taken plan c.snapshot_on-first.ensures)
    (c.place_taken-2.ensures ∙ ap₂ taken plan c.snapshot_on-second.ensures)
    ∙ run-plan a.z l a.r (read_place a.z l a.master) a.last.0
    (run-most l a.z c.requires.form_with.0 a.r c.requires.r_lt_runs)

pub overflow_add-jobs : goal.overflow_add-jobs
overflow_add-jobs c = omega (arith, here (goal.at.overflow_add-jobs c).After-run_at-at)

pub offset_bounds-words-at : goal.offset_bounds-words-at
offset_bounds-words-at c = omega (arith, here (goal.at.offset_bounds-words-at c).After-run_at-at)

pub bounds-words-at : goal.bounds-words-at
bounds-words-at c = omega (arith, here (goal.at.bounds-words-at c).After-run_at-at)

pub overflow_add-at : goal.overflow_add-at
overflow_add-at c = omega (arith, here (goal.at.overflow_add-at c).After-run_at-at)
