-- What is known of run r of a buffer in form, where it is one of its runs.
-- RunKnown, run-known: where it lies, and its state. run-stored: another run stored there.
-- cause-..: the causes that calls on a run share, as the code tests them.
-- Assumes nothing.
use mathlib.Core.Path.{◌≡◌, sym, ap, ◌∙◌}
use mathlib.Core.Bool.{Bool, So, not}
use mathlib.Core.List.{List}
use Prim.Native.Nat.{ℕ, ◌≤◌, ◌<◌}
use native.Mathlib.Omega.{arith}
use lib.ListN.{length, get_or}
use Rattle.words.proofs.Bools.{le-leb, gt-leb, leb-gt}
use Rattle.sizes.specs.declared.Counts.{Counts}
use Rattle.sizes.specs.Bounds.{run_at_of}
use Rattle.model.specs.Store.{Run, with_run}
use Rattle.model.specs.Form.{run_formed}
use Rattle.model.specs.Outcome.{refuse, allowed, run_cause}
use Rattle.layout.specs.Reading.{counts_in, store_of, read_run}
use Rattle.layout.specs.Stored.{put_run}
use Rattle.layout.specs.Buffer.{written}
use Rattle.layout.proofs.RunUpdates.{put-run}
use Rattle.layout.proofs.Readings.{run_in}
use Rattle.model.proofs.Formed.{well-out}
use Rattle.model.proofs.Plans.{state-low}
use Rattle.layout.proofs.Follow.{form-fine}
use Rattle.model.proofs.Outcomes.{no-cause}
use Rattle.form.specs.Parts.{RunArea, FormWith}
use Rattle.form.proofs.Stores.{run-area}
use Rattle.form.proofs.Known.{form-area, form-counts, form-again}

-- ---- one run

pub record RunKnown (l : List ℕ) (z : Counts) (r : ℕ) : Type 0 where
  pub area : RunArea (length l) z (run_at_of z r)
  pub run : (store_of l).run r ≡ read_run z l (run_at_of z r)
  pub formed : So (run_formed z (read_run z l (run_at_of z r)))
  pub state : get_or l (run_at_of z r) 0 < 3

pub run-known : (l : List ℕ) (z : Counts) (r : ℕ) → FormWith l z → r < z.runs → RunKnown l z r
unfolding store_of read_run
run-known l z r H h =
    let run = run_in l z H.counts r h in
    let formed : So (run_formed z (read_run z l (run_at_of z r))) =
    rw (← run, H.counts) ((well-out (store_of l) (form-fine l H.form).formed).run r
    (rw (← H.counts) h)) in
    record {
      area = run-area (length l) z (form-area l z H) r h;
      run = run;
      formed = formed;
      state = state-low z (read_run z l (run_at_of z r)) formed;
    }

pub run-stored : (l : List ℕ) (z : Counts) (r : ℕ) (a : Run) → FormWith l z → r < z.runs
    → put_run z l (run_at_of z r) a ≡ written (with_run (store_of l) r a) l
unfolding store_of
run-stored l z r a H h =
    let y = counts_in l in
    rw H.counts
    (ap (λ (m : List ℕ). put_run y m (run_at_of y r) a) (sym (form-again l z H))
    ∙ put-run (store_of l) l r a (rw (← H.counts) h))

-- ---- causes

pub cause-high : (l : List ℕ) (z : Counts) (row r : ℕ) → FormWith l z → z.runs ≤ r
    → 3 ≡ run_cause (store_of l) row r 0
unfolding run_cause refuse
cause-high l z row r H h = rw (form-counts l z H, le-leb _ _ h)

-- b: what the code finds of the word at the run's index.
pub cause-state : (l : List ℕ) (z : Counts) (row r : ℕ) → FormWith l z → r < z.runs
    → (at : ℕ) (b : Bool) → at ≡ run_at_of z r → b ≡ allowed row (get_or l at 0)
    → refuse (not b) 4 0 ≡ run_cause (store_of l) row r 0
unfolding run_cause refuse read_run
cause-state l z row r H h at b e f =
    rw (form-counts l z H, gt-leb _ _ h, (run-known l z r H h).run, ← e, ← f)

-- Where they do not hold, run r is one of the runs.
pub cause-below : (l : List ℕ) (z : Counts) (row r : ℕ) → FormWith l z
    → run_cause (store_of l) row r 0 ≡ 0 → r < z.runs
unfolding run_cause
cause-below l z row r H e =
    rw (← form-counts l z H) (leb-gt _ _ (no-cause _ 3 _ (omega arith) e).0)
