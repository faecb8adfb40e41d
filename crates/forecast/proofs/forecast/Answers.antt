-- `forecast` is refused for its cause, or walks over the jobs on a copy.
-- free: there is no cause. here: the jobs. same, formed: the copy's store.
-- Assumes nothing.
use mathlib.Core.Path.{◌≡◌, sym, ap, ◌∙◌}
use mathlib.Core.Bool.{So}
use Prim.Native.Nat.{ℕ, ◌+◌, ◌≤◌, ◌<◌}
use native.Mathlib.Omega.{arith}
use Rattle.std.proofs.lemmas.Result.{err_from_is_err_and}
use lib.ListN.{length, get_or}
use Rattle.sizes.specs.Bounds.{place_limit}
use Rattle.sizes.specs.Runs.{done_offset, snapshot_offset}
use Rattle.model.specs.Store.{Store}
use Rattle.layout.specs.Reading.{store_of}
use Rattle.layout.specs.Buffer.{in_form}
use Rattle.form.proofs.Known.{form-long, form-area}
use Rattle.trial.proofs.Known.{jobs-known, run_index, done-word}
use Rattle.forecast.proofs.Causes.{Free, forecast-free}
use Rattle.forecast.proofs.Calls.{forecast-refused, copy-form, copy-store, forecast-done}
use Rattle.forecast.proofs.forecast.Goals as goal
use Rattle.forecast.proofs.forecast.Goals.{After-copy_store, After-run_at-at, In_ok-forecast_cause}

free : (c : In_ok-forecast_cause)
    → Free c.args.words.now c.counts-z.result (length c.args.scratch.now) c.args.run
free c =
    forecast-free _ _ _ _ (record { form = c.requires; counts = c.counts-z.ensures })
    (sym c.in_ok-forecast_cause.ensures)

here : (c : After-run_at-at)
    → (c.run_at-at.result + snapshot_offset ≤ length c.args.words.now)
    × (c.run_at-at.result < place_limit)
here c =
    let u = (forecast-free _ _ _ _ (record { form = c.requires; counts = c.counts-z.ensures })
    (sym c.in_ok-forecast_cause.ensures)).used in (
      run_index _ _ _ u _ c.run_at-at.ensures,
      omega (arith, (jobs-known _ _ _ u).area.low, c.run_at-at.ensures),
    )

pub counts-z-requires : goal.counts-z-requires
counts-z-requires c = form-long _ c.requires

pub returns-in_err-forecast_cause : goal.returns-in_err-forecast_cause
returns-in_err-forecast_cause c =
    let p = err_from_is_err_and c.from_residual.result c.from_residual.ensures.1 in
    let r = forecast-refused _ _ _ c.requires _ c.in_err-forecast_cause.ensures in
    rw (p.1, p.2) (record { answers = r.0; leaves = r.1 })

pub copy_store-requires : goal.copy_store-requires
copy_store-requires c =
    let f = free (goal.at.copy_store-requires c).In_ok-forecast_cause in record {
      form_with = f.used.form;
      z_in_bounds = f.fits;
    }

pub job_count-jobs-requires : goal.job_count-jobs-requires
job_count-jobs-requires c = (free (goal.at.job_count-jobs-requires c).In_ok-forecast_cause).used

pub run_at-at-requires : goal.run_at-at-requires
run_at-at-requires c =
    let u = (free (goal.at.run_at-at-requires c).In_ok-forecast_cause).used in
    record {
      ranged = (form-area _ _ u.form).ranged;
      r_lt_runs = u.run;
    }

pub returns : goal.returns
returns c =
    let r = forecast-done _ _ _ c.requires (sym c.in_ok-forecast_cause.ensures) _ _ (rw
    c.copy_store.ensures at c.walk_jobs.ensures.answers) (rw
    c.copy_store.ensures at c.walk_jobs.ensures.leaves) in
    record { answers = r.0; leaves = r.1 }

pub overflow_add-at : goal.overflow_add-at
overflow_add-at c = omega (arith, here (goal.at.overflow_add-at c).After-run_at-at)

pub offset_bounds-words-at : goal.offset_bounds-words-at
offset_bounds-words-at c = omega (arith, here (goal.at.offset_bounds-words-at c).After-run_at-at)

pub bounds-words-at : goal.bounds-words-at
bounds-words-at c = omega (arith, here (goal.at.bounds-words-at c).After-run_at-at)

same : (c : After-copy_store) → store_of c.copy_store.new.scratch ≡ store_of c.args.words.now
same c = ap store_of c.copy_store.ensures ∙ copy-store _ _ c.args.run c.requires

formed : (c : After-copy_store) → So (in_form c.copy_store.new.scratch)
formed c = rw c.copy_store.ensures (copy-form _ _ c.args.run c.requires)

pub walk_jobs-requires : goal.walk_jobs-requires
walk_jobs-requires c =
    let a = c.args in
    let f = free (goal.at.walk_jobs-requires c).In_ok-forecast_cause in
    let t = sym (same (goal.at.walk_jobs-requires c).After-copy_store) in
    let word : get_or a.words.now (c.run_at-at.result + done_offset) 0
    ≡ ((store_of a.words.now).run a.run).done =
    ap (λ (i : ℕ). get_or a.words.now (i + done_offset) 0) c.run_at-at.ensures
    ∙ done-word _ _ _ f.used in record {
      so = formed (goal.at.walk_jobs-requires c).After-copy_store;
      jobs_value = (
        c.job_count-jobs.ensures ∙ ap (λ (t : Store). (t.run a.run).jobs) t,
        word ∙ ap (λ (t : Store). (t.run a.run).done) t,
        rw c.job_count-jobs.ensures f.few,
      );
    }
