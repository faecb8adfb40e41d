-- Laws of a run that is waiting.
-- waiting-no, waiting-is: as the code finds it. ready-found, ready-first: its job.
-- ready-steps: the run alone refuses no step of that job.
-- Assumes nothing.
use mathlib.Core.Path.{◌≡◌, refl, sym, ◌∙◌}
use mathlib.Core.Bool.{Bool, false, not, So}
use mathlib.Core.Logic.{◌≢◌}
use Prim.Native.Nat.{ℕ, ◌≤◌, ◌<◌}
use native.Mathlib.Omega.{arith}
use lib.Dec.{eqb, leb, ltb}
use Rattle.words.specs.Tests.{any_below}
use Rattle.words.proofs.Bools.{and_left, and_right, not_elim, eqb-eq, eq-eqb, ne_eqb, ltb-lt, gt-leb}
use Rattle.words.specs.Turns.{first_below_of}
use Rattle.words.proofs.Firsts.{first_passes, first-least, first_any}
use Rattle.sizes.specs.Runs.{max_jobs}
use Rattle.model.specs.Store.{Run}
use Rattle.model.specs.Outcome.{refuse, allowed, step_row, open_state}
use Rattle.model.specs.Step.{not_ready, off_branch, job_limit, job_cause}
use Rattle.model.specs.Calls.Pick.{ready, waiting, ready_job}

-- By its state, and by its lowest ready job.
pub waiting-no : (a : Run) → a.state ≢ open_state → waiting a ≡ false
unfolding waiting
waiting-no a n = rw (ne_eqb a.state open_state n)

pub waiting-is : (a : Run) → a.state ≡ open_state → waiting a ≡ ltb (ready_job a) a.jobs
unfolding waiting ready_job
waiting-is a e = rw (eq-eqb a.state open_state e) (sym (first_any a.jobs (ready a)))

pub waiting_open : (a : Run) → So (waiting a) → a.state ≡ open_state
unfolding waiting
waiting_open a h =
    eqb-eq a.state open_state
    (and_left (eqb a.state open_state) (any_below a.jobs (ready a)) h)

pub ready-low : (a : Run) → So (waiting a) → ready_job a < a.jobs
unfolding waiting ready_job
ready-low a h =
    ltb-lt (first_below_of a.jobs (ready a)) a.jobs
    (first_any a.jobs (ready a)
    ∙ and_right (eqb a.state open_state) (any_below a.jobs (ready a)) h)

-- A run in form has at most 8 jobs.
pub ready-few : (a : Run) → So (waiting a) → a.jobs ≤ max_jobs → ready_job a < max_jobs
ready-few a h k = omega (arith, ready-low a h, k)

pub ready-found : (a : Run) → So (waiting a) → So (ready a (ready_job a))
unfolding ready_job
ready-found a h = first_passes a.jobs (ready a) (ready-low a h)

pub ready-first : (a : Run) (j : ℕ) → j < ready_job a → ready a j ≡ false
unfolding ready_job
ready-first a j h = first-least a.jobs (ready a) j h

passed : (b : Bool) (n rest : ℕ) → b ≡ false → refuse b n rest ≡ rest
unfolding refuse
passed b n rest e = rw e

limit_open : (n jobs : ℕ) → n ≡ open_state → job_limit n jobs ≡ jobs
unfolding job_limit
limit_open n jobs e = rw e

step_open : (n : ℕ) → n ≡ open_state → not (allowed step_row n) ≡ false
unfolding allowed
step_open n e = rw e

-- The rows that the run decides alone are passed, on line 0.
pub ready-steps : (a : Run) (rest : ℕ) → So (waiting a) → job_cause a (ready_job a) 0 rest ≡ rest
unfolding job_cause off_branch ready
ready-steps a rest h =
    let j = ready_job a in
    let late = not_ready a.done (a.job j).upstream j in
    let shut = not (allowed step_row a.state) in
    let o : a.state ≡ open_state = waiting_open a h in
    let top = job_limit a.state a.jobs in
    let e : top ≡ a.jobs = limit_open a.state a.jobs o in
    let line = off_branch a.mark 0 in
    passed (leb top j) 3 (refuse shut 4 (refuse line 14 (refuse late 6 rest)))
    (gt-leb top j (omega (arith, e, ready-low a h)))
    ∙ passed shut 4 (refuse line 14 (refuse late 6 rest)) (step_open a.state o)
    ∙ passed line 14 (refuse late 6 rest) refl
    ∙ passed late 6 rest (not_elim (ready-found a h))
