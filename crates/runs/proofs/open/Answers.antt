-- `open` refuses for its cause, or stores the jobs over the free run.
-- holds: a buffer in form, and the counts read from it. ready, known: no cause.
-- Assumes nothing.
use mathlib.Core.Path.{sym, ap, ◌∙◌}
use Prim.Native.Nat.{ℕ}
use native.Mathlib.Omega.{arith}
use Rattle.std.proofs.lemmas.Result.{err_from_is_err_and}
use Rattle.answers.specs.Refusals.{refusal_number}
use Rattle.answers.proofs.Refusals.{refusal_some}
use Rattle.sizes.specs.Bounds.{run_size}
use Rattle.form.specs.Parts.{FormWith}
use Rattle.form.proofs.Known.{form-long}
use Rattle.status.proofs.Known.{RunKnown, run-known}
use Rattle.runs.specs.Runs.{put_jobs}
use Rattle.runs.proofs.Opens.{OpenReady, open_ready, open_refused, open_done_lem}
use Rattle.runs.proofs.open.Goals as goal
use Rattle.runs.proofs.open.Goals.{After-counts-z, In_ok-open_cause}

holds : (c : After-counts-z) → FormWith c.args.words.now c.counts-z.result
holds c = record { form = c.requires; counts = c.counts-z.ensures }

ready : (c : In_ok-open_cause)
    → OpenReady c.args.words.now c.counts-z.result c.args.run c.args.jobs.now
ready c =
    let H : FormWith c.args.words.now c.counts-z.result =
    record { form = c.requires; counts = c.counts-z.ensures } in
    open_ready _ _ _ _ H (sym c.in_ok-open_cause.ensures)

known : (c : In_ok-open_cause) → RunKnown c.args.words.now c.counts-z.result c.args.run
known c =
    run-known _ _ _ (record { form = c.requires; counts = c.counts-z.ensures }) (ready c).run

pub counts-z-requires : goal.counts-z-requires
counts-z-requires c = form-long c.args.words.now c.requires

pub open_cause-requires : goal.open_cause-requires
open_cause-requires c = holds (goal.at.open_cause-requires c).After-counts-z

pub returns-in_err-open_cause : goal.returns-in_err-open_cause
returns-in_err-open_cause c =
    let p = err_from_is_err_and c.from_residual.result c.from_residual.ensures.1 in
    let e = c.in_err-open_cause.field-0.0 in
    let r = open_refused c.args.words.now c.args.run c.args.jobs.now (refusal_number e) c.requires
    c.in_err-open_cause.ensures (refusal_some e) in
    rw (p.1, p.2) (record { answers = r.0; leaves = r.1 })

pub run_at-at-requires : goal.run_at-at-requires
run_at-at-requires c =
    let e = (goal.at.run_at-at-requires c).In_ok-open_cause in
    record { ranged = (known e).area.ranged; r_lt_runs = (ready e).run }

pub put_jobs-n-requires : goal.put_jobs-n-requires
unfolding run_size
put_jobs-n-requires c =
    let e = (goal.at.put_jobs-n-requires c).In_ok-open_cause in
    let K = known e in
    let L = (ready e).listed in (
      rw c.run_at-at.ensures (omega (arith, K.area.fits)),
      omega (arith, L.whole, L.high),
    )

pub returns : goal.returns
returns c =
    let l = c.args.words.now in
    let jobs = c.args.jobs.now in
    let done = open_done_lem l c.counts-z.result _ jobs _
    (holds (goal.at.returns c).After-counts-z) (sym c.in_ok-open_cause.ensures)
    (c.put_jobs-n.ensures.stores
    ∙ ap (λ (k : ℕ). put_jobs l k jobs) c.run_at-at.ensures) in
    let r = rw (← c.put_jobs-n.ensures.number) at done in
    record { answers = r.0; leaves = r.1 }
