-- The causes of fork and join, as the code tests them.
-- cause-run, cause-mark, cause-none: a cause found, or none. mark-below: without one there is such
-- a run.
-- Assumes nothing.
use mathlib.Core.Path.{◌≡◌}
use mathlib.Core.Bool.{not}
use mathlib.Core.Logic.{◌≢◌}
use mathlib.Core.List.{List}
use Prim.Native.Nat.{ℕ, ◌<◌}
use native.Mathlib.Omega.{arith}
use lib.Dec.{eqb}
use lib.ListN.{get_or}
use Rattle.words.proofs.Bools.{leb-gt, eq-eqb, ne_eqb}
use Rattle.sizes.specs.declared.Counts.{Counts}
use Rattle.sizes.specs.Bounds.{mark_at}
use Rattle.model.specs.Store.{Store}
use Rattle.model.specs.Outcome.{refuse, run_cause}
use Rattle.model.proofs.Outcomes.{no-cause, run-rest}
use Rattle.layout.specs.Reading.{store_of}
use Rattle.layout.proofs.Readings.{mark_in}
use Rattle.form.specs.Parts.{FormWith}
use Rattle.form.proofs.Known.{form-counts}
use Rattle.status.proofs.Known.{cause-below}

-- A call of a row of the table of states that asks for a mark.
abbrev pub mark_cause : Store → ℕ → ℕ → ℕ → ℕ
mark_cause s row mark r = run_cause s row r (refuse (not (eqb (s.run r).mark mark)) 14 0)

-- n: what the code finds of the run.
pub cause-run : (s : Store) (row mark r n : ℕ) → n ≡ run_cause s row r 0 → n ≢ 0
    → n ≡ mark_cause s row mark r
cause-run s row mark r n e h = rw (run-rest s row r _, ← e, ne_eqb n 0 h)

-- Where it finds nothing: the mark at an index.
module _ (l : List ℕ) (z : Counts) (row mark r : ℕ) (H : FormWith l z)
    (e : run_cause (store_of l) row r 0 ≡ 0) (at : ℕ) (p : at ≡ mark_at z r) where
  here : ((store_of l).run r).mark ≡ get_or l at 0
  here = rw p (mark_in l z H.counts r (cause-below l z row r H e))

  pub cause-mark : get_or l at 0 ≢ mark → 14 ≡ mark_cause (store_of l) row mark r
  unfolding refuse
  cause-mark h = rw (run-rest (store_of l) row r _, e, here, ne_eqb (get_or l at 0) mark h)

  pub cause-none : get_or l at 0 ≡ mark → 0 ≡ mark_cause (store_of l) row mark r
  unfolding refuse
  cause-none h = rw (run-rest (store_of l) row r _, e, here, eq-eqb (get_or l at 0) mark h)

-- Where there is none, run r is one of the runs.
pub mark-below : (l : List ℕ) (z : Counts) (row mark r : ℕ) → FormWith l z
    → mark_cause (store_of l) row mark r ≡ 0 → r < z.runs
unfolding run_cause
mark-below l z row mark r H e =
    rw (← form-counts l z H) (leb-gt _ _ (no-cause _ 3 _ (omega arith) e).0)
