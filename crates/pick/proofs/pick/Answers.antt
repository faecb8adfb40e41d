-- `pick` answers the run at the first turn at which one waits, or nothing.
-- few, met, used, small: of a buffer in form, and of the run that is met.
-- Assumes nothing.
use native.Mathlib.Omega.{arith}
use mathlib.Core.Path.{◌≡◌, refl, sym, ◌∙◌}
use mathlib.Core.Bool.{So}
use mathlib.Core.List.{List}
use Prim.Native.Nat.{ℕ, ◌≤◌, ◌<◌}
use Rattle.std.specs.Prelude.{Some}
use Rattle.words.specs.Turns.{turn}
use Rattle.words.proofs.Bools.{lt-ltb}
use Rattle.sizes.specs.declared.Counts.{Counts}
use Rattle.sizes.specs.Bounds.{max_runs_of}
use Rattle.sizes.specs.Runs.{max_jobs}
use Rattle.model.specs.Calls.Pick.{waiting, ready_job, pick_turn}
use Rattle.layout.specs.Reading.{store_of}
use Rattle.form.specs.Parts.{FormWith}
use Rattle.form.proofs.Known.{form-long, form-area}
use Rattle.trial.specs.Jobs.{UsedRun}
use Rattle.trial.proofs.Known.{jobs-known}
use Rattle.pick.specs.Answers.{picked_words, if_below}
use Rattle.pick.proofs.Known.{round-low, used_open}
use Rattle.pick.proofs.Searches.{below-found, below-missed, is-below}
use Rattle.pick.proofs.Waiting.{waiting_open, ready-low, ready-few}
use Rattle.pick.proofs.Picks.{exact-words, picked-waits, pick-nothing, pick-done}
use Rattle.pick.proofs.pick.Goals as goal
use Rattle.pick.proofs.pick.Goals.{After-counts-z, After-turn_run-r, After-unwrap-j}

module _ (l : List ℕ) (z : Counts) (H : FormWith l z) where
  few : z.runs ≤ max_runs_of
  few = (form-area l z H).ranged.runs-high

  -- i: the turn that was found. r: the run that is met then.
  module _ (i last r : ℕ) (t : Some i ≡ if_below z.runs (pick_turn (store_of l)))
      (e : last ≡ (store_of l).tail.round) (f : r ≡ turn z.runs last i) where
    met : (r < z.runs) × So (waiting ((store_of l).run r))
    met =
        let p = below-found z.runs _ i t in
        picked-waits l z H i p.0 (omega (arith, p.0, p.1)) last r e f

    used : UsedRun l z r
    used = used_open l z H r met.0 (waiting_open _ met.1)

    small : (r < max_runs_of) × (ready_job ((store_of l).run r) < max_jobs)
    small =
        (omega (arith, met.0, few), ready-few _ met.1 (jobs-known l z r used).plan.jobs.high)

holds : (c : After-counts-z) → FormWith c.args.words.now c.counts-z.result
holds c = record { form = c.requires; counts = c.counts-z.ensures }

pub counts-z-requires : goal.counts-z-requires
counts-z-requires c = form-long _ c.requires

pub returns-in_err-i : goal.returns-in_err-i
unfolding picked_words
returns-in_err-i c =
    let z = c.counts-z.result in
    let h = below-missed z.runs _ c.in_err-i.ensures in
    let e = pick-nothing _ z (holds (goal.at.returns-in_err-i c).After-counts-z) _ refl h in
    rw c.from_residual.ensures
    record { answers = e.0; leaves = e.1; exact = exact-words _ c.requires _ e.0 }

pub turn_run-r-requires : goal.turn_run-r-requires
turn_run-r-requires c =
    let H = holds (goal.at.turn_run-r-requires c).After-counts-z in
    let l = c.args.words.now in
    let p = below-found c.counts-z.result.runs _ _ c.in_ok-i.ensures in (
      omega (arith, c.last_picked-last.ensures, round-low l _ H, few l _ H),
      omega (arith, p.0, p.1, few l _ H),
    )

pub ready_job-requires : goal.ready_job-requires
ready_job-requires c =
    used _ _ (holds (goal.at.ready_job-requires c).After-counts-z) _ _ _ c.in_ok-i.ensures
    c.last_picked-last.ensures c.turn_run-r.ensures

-- The run that is met waits: it has a job that is ready.
waits : (c : After-turn_run-r) →
    So (waiting ((store_of c.args.words.now).run c.turn_run-r.result))
waits c =
    (met _ _ (record { form = c.requires; counts = c.counts-z.ensures }) _ _ _ c.in_ok-i.ensures
    c.last_picked-last.ensures c.turn_run-r.ensures).1

pub unwrap-j-requires : goal.unwrap-j-requires
unwrap-j-requires c =
    rw c.ready_job.ensures
    (is-below _ _
    ∙ lt-ltb _ _ (ready-low _ (waits (goal.at.unwrap-j-requires c).After-turn_run-r)))

-- It is the lowest one.
job : (c : After-unwrap-j)
    → c.unwrap-j.result ≡ ready_job ((store_of c.args.words.now).run c.turn_run-r.result)
job c = (below-found _ _ _ (sym c.unwrap-j.ensures ∙ c.ready_job.ensures)).0

low : (c : After-unwrap-j) → (c.turn_run-r.result < max_runs_of) × (c.unwrap-j.result < max_jobs)
low c =
    let s =
    small _ _ (record { form = c.requires; counts = c.counts-z.ensures }) _ _ _ c.in_ok-i.ensures
    c.last_picked-last.ensures c.turn_run-r.ensures in
    (s.0, rw (below-found _ _ _ (sym c.unwrap-j.ensures ∙ c.ready_job.ensures)).0 s.1)

pub overflow_cast-run : goal.overflow_cast-run
overflow_cast-run c = omega (arith, low (goal.at.overflow_cast-run c).After-unwrap-j)

pub overflow_cast-result : goal.overflow_cast-result
overflow_cast-result c = omega (arith, low (goal.at.overflow_cast-result c).After-unwrap-j)

pub returns : goal.returns
unfolding picked_words
returns c =
    let p = below-found c.counts-z.result.runs _ _ c.in_ok-i.ensures in
    let x = pick-done _ _ (holds (goal.at.returns c).After-counts-z) _ p.0
    (omega (arith, p.0, p.1)) _ _ _ _ c.last_picked-last.ensures c.turn_run-r.ensures
    (job (goal.at.returns c).After-unwrap-j) c.store_round.ensures in
    record { answers = x.0; leaves = x.1; exact = exact-words _ c.requires _ x.0 }
