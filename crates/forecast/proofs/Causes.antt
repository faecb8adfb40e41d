-- The causes of forecast, as the code tests them, and what is known where none holds.
-- total-found: the total. mark-index: where the mark is. cause-..: a cause found, or none. Free,
-- forecast-free: what was passed.
-- Assumes nothing.
use mathlib.Core.Path.{◌≡◌, refl, ap}
use mathlib.Core.Logic.{◌≢◌}
use mathlib.Core.List.{List}
use Prim.Native.Nat.{ℕ, ◌≤◌, ◌<◌}
use native.Mathlib.Omega.{arith}
use lib.Dec.{eqb}
use lib.ListN.{length, get_or}
use Rattle.words.proofs.Bools.{lt-ltb, ge-ltb, ltb-ge, leb-gt, eq-eqb, ne_eqb}
use Rattle.sizes.specs.declared.Counts.{Counts}
use Rattle.sizes.specs.declared.Sizes.{Sizes}
use Rattle.sizes.specs.Bounds.{max_total, sizes_of, total_of, mark_at}
use Rattle.sizes.proofs.Offsets.{ordered, run_lies, branch-mark-lies}
use Rattle.sizes.specs.Runs.{max_jobs}
use Rattle.model.specs.Store.{forked_mark}
use Rattle.model.specs.Outcome.{refuse, run_cause, forecast_row}
use Rattle.model.specs.Calls.Forecast.{forecast_cause}
use Rattle.model.proofs.Outcomes.{no-cause, no-lack, run-rest}
use Rattle.model.proofs.Turned.{forecast_open}
use Rattle.layout.specs.Reading.{store_of}
use Rattle.form.specs.Parts.{FormWith}
use Rattle.form.proofs.Known.{form-area, form-counts}
use Rattle.status.proofs.Known.{cause-below, run-known}
use Rattle.trial.specs.Jobs.{UsedRun}
use Rattle.trial.proofs.Known.{jobs-known, state_in, mark-found}

pub total-found : (z : Counts) (s : Sizes) → s ≡ sizes_of z → s.total ≡ total_of z
unfolding sizes_of
total-found z s e = ap (λ (s : Sizes). s.total) e

-- Where the mark of a run stands.
pub mark-index : (l : List ℕ) (z : Counts) (r : ℕ) → FormWith l z → r < z.runs
    → (mark_at z r < length l) × (mark_at z r < max_total)
mark-index l z r H h =
    let q = ordered z (form-area l z H).ranged in
    let s = run_lies z r h in
    let t = branch-mark-lies z r in
    ((mark-found l z r H h).0, omega arith)

module _ (l : List ℕ) (z : Counts) (room r : ℕ) (H : FormWith l z) where
  pub cause-short : room < total_of z → 1 ≡ forecast_cause (store_of l) room r
  unfolding forecast_cause refuse
  cause-short h = rw (form-counts l z H, lt-ltb room (total_of z) h)

  module _ (k : total_of z ≤ room) where
    rest : forecast_cause (store_of l) room r
        ≡ run_cause (store_of l) forecast_row r
        (refuse (eqb ((store_of l).run r).mark forked_mark) 14 0)
    unfolding forecast_cause refuse
    rest = rw (form-counts l z H, ge-ltb room (total_of z) k)

    -- n: what the code finds of the run.
    pub cause-run : (n : ℕ) → n ≡ run_cause (store_of l) forecast_row r 0 → n ≢ 0
        → n ≡ forecast_cause (store_of l) room r
    cause-run n e h = rw (rest, run-rest (store_of l) forecast_row r _, ← e, ne_eqb n 0 h)

    -- Where it finds nothing: the mark at an index.
    module _ (e : run_cause (store_of l) forecast_row r 0 ≡ 0) (at : ℕ) (p : at ≡ mark_at z r)
      where
        here : ((store_of l).run r).mark ≡ get_or l at 0
        here = rw p (mark-found l z r H (cause-below l z forecast_row r H e)).1

        pub cause-forked : get_or l at 0 ≡ forked_mark → 14 ≡ forecast_cause (store_of l) room r
        unfolding refuse
        cause-forked h =
            rw (
              rest,
              run-rest (store_of l) forecast_row r _,
              e,
              here,
              eq-eqb (get_or l at 0) forked_mark h,
            )

        pub cause-none : get_or l at 0 ≢ forked_mark → 0 ≡ forecast_cause (store_of l) room r
        unfolding refuse
        cause-none h =
            rw (
              rest,
              run-rest (store_of l) forecast_row r _,
              e,
              here,
              ne_eqb (get_or l at 0) forked_mark h,
            )

-- ---- where none holds

pub record Free (l : List ℕ) (z : Counts) (room r : ℕ) : Type 0 where
  pub fits : total_of z ≤ room
  pub used : UsedRun l z r
  pub few : ((store_of l).run r).jobs ≤ max_jobs

pub forecast-free : (l : List ℕ) (z : Counts) (room r : ℕ) → FormWith l z
    → forecast_cause (store_of l) room r ≡ 0 → Free l z room r
unfolding forecast_cause run_cause
forecast-free l z room r H e =
    let s = store_of l in
    let a = no-cause _ 1 _ (omega arith) e in
    let b = no-cause _ 3 _ (omega arith) a.1 in
    let c = no-lack _ 4 _ (omega arith) b.1 in
    let h : r < z.runs = rw (← form-counts l z H) (leb-gt _ _ b.0) in
    let K = run-known l z r H h in
    let low : (s.run r).state < 3 = rw (state_in l z r K _ refl) K.state in
    let o = forecast_open (s.run r).state low c.0 in
    let U : UsedRun l z r = record { form = H; run = h; used = omega arith } in
    record {
      fits = rw (← form-counts l z H) (ltb-ge _ _ a.0);
      used = U;
      few = (jobs-known l z r U).plan.jobs.high;
    }
