-- What open stores over a free run are the words of the run that it opens.
-- jobs-stored: they make the opened run of a free one.
-- Assumes nothing.
use mathlib.Core.Path.{◌≡◌, refl, sym, ap, ◌∙◌, fun_ext}
use mathlib.Core.Logic.{⊎_elim}
use mathlib.Core.List.{List, [], ◌∷◌, ◌++◌}
use Prim.Native.Nat.{ℕ, ◌+◌, ◌*◌, ◌≤◌, ◌<◌}
use native.Mathlib.Nat.{add-zero}
use native.Mathlib.Numerals.{add-one}
use native.Mathlib.Omega.{arith}
use lib.ListN.{length, set, length-append, get_or-eq_default}
use lib.Seq.{sets}
use Rattle.words.proofs.Tests.{below_or_not}
use Rattle.words.proofs.Lists.{upto-out}
use Rattle.words.proofs.Stores.{sets-left, sets_behind}
use Rattle.sizes.specs.declared.Counts.{Counts}
use Rattle.sizes.specs.Bounds.{run_size}
use Rattle.sizes.specs.Runs.{max_jobs, job_size, reads_offset, upstream_offset, jobs_offset, plan_offset, plan_size, snapshot_offset}
use Rattle.model.specs.Store.{Run, no_job, no_jobs, empty_place, no_branch, free_run}
use Rattle.model.specs.Outcome.{open_state}
use Rattle.model.specs.Runs.{listed_job, listed_count, listed_jobs, opened_run}
use Rattle.layout.specs.Words.{jobs_words, place_words, front_words, run_words}
use Rattle.layout.specs.Reading.{read_job, read_jobs, read_run}
use Rattle.layout.proofs.Codec.{into-first}
use Rattle.layout.proofs.Runs.{front-laws, rest-laws, run-laws}
use Rattle.layout.proofs.Jobs.{jobs-laws}
use Rattle.layout.proofs.Windows.{part-again, part-twice}
use Rattle.layout.proofs.Readings.{job-at}
use Rattle.layout.proofs.Rules.Open.{Listed, job_in_lem, job-out}
use Rattle.layout.specs.Stored.{put_run}
use Rattle.status.proofs.Copies.{put-list, sets-front}
use Rattle.status.proofs.Freed.{no-jobs-words}
use Rattle.runs.specs.Runs.{put_jobs}

-- ---- the list of jobs, as words

listed_in : (l : List ℕ) (i : ℕ) → listed_job l i ≡ read_job l (0 + i * job_size)
unfolding listed_job read_job
listed_in l i =
    let e : 0 + i * job_size ≡ i * job_size = omega arith in rw e

listed-out : (l : List ℕ) (at : ℕ) → length l ≤ at → no_job ≡ read_job l at
unfolding read_job
listed-out l at h =
    let a = get_or-eq_default l 0 h in
    let b = get_or-eq_default l 0 {n = at + reads_offset} (omega arith) in
    let c = get_or-eq_default l 0 {n = at + upstream_offset} (omega arith) in
    rw (a, b, c)

-- Its jobs are what is read from its words.
listed-read : (z : Counts) (l : List ℕ) → Listed z l → listed_jobs l ≡ read_jobs l 0
unfolding read_jobs
listed-read z l L = fun_ext (λ i. ⊎_elim (below i) (beyond i) (below_or_not i (listed_count l)))
  where
    below : (i : ℕ) → i < listed_count l → listed_jobs l i ≡ read_jobs l 0 i
    below i h =
        job_in_lem l i h ∙ listed_in l i ∙ sym (job-at l 0 i (omega (arith, L.high)))

    last : (i : ℕ) → max_jobs ≤ i → no_job ≡ read_jobs l 0 i
    last i h = sym (upto-out max_jobs no_job (λ i. read_job l (0 + i * job_size)) i h)

    beyond : (i : ℕ) → listed_count l ≤ i → listed_jobs l i ≡ read_jobs l 0 i
    beyond i h =
        job-out l i h
        ∙ ⊎_elim
        (λ k. listed-out l (0 + i * job_size) (omega (arith, L.whole)) ∙ sym (job-at l 0 i k))
        (last i) (below_or_not i max_jobs)

jobs-listed : (z : Counts) (l : List ℕ) → Listed z l
    → sets (jobs_words no_jobs) 0 l ≡ jobs_words (listed_jobs l)
jobs-listed z l L =
    ap (λ (t : List ℕ). sets t 0 l) no-jobs-words
    ∙ sets-front l plan_size (omega (arith, L.whole, L.high))
    ∙ sym (jobs-laws.round l 0) ∙ ap jobs_words (sym (listed-read z l L))

-- ---- the run

-- A run with its state and its number of jobs alone.
abbrev started : ℕ → Run
started n = record {
  state = open_state;
  jobs = n;
  done = 0;
  job = no_jobs;
  branch = no_branch;
  mark = 0;
  second = no_branch;
}

started-words : (z : Counts) (n : ℕ)
    → sets (run_words z free_run) 0 (open_state ∷ n ∷ []) ≡ run_words z (started n)
unfolding run_words
started-words z n = refl

opened-front : (z : Counts) (l : List ℕ) → Listed z l
    → sets (front_words z (started (listed_count l))) plan_offset l ≡ front_words z (opened_run l)
unfolding opened_run
opened-front z l L =
    let status = open_state ∷ listed_count l ∷ 0 ∷ 0 ∷ [] in
    let jobs = jobs_words no_jobs in
    let snapshot = place_words z empty_place in
    let h : 0 + length l ≤ length jobs =
    omega (arith, L.whole, L.high, jobs-laws.long no_jobs) in
    sets_behind status (jobs ++ snapshot) l 0 (rw length-append (omega arith))
    ∙ ap (λ (t : List ℕ). status ++ t) (sets-left l jobs snapshot 0 h
    ∙ ap (λ (t : List ℕ). t ++ snapshot) (jobs-listed z l L))

opened-words : (z : Counts) (l : List ℕ) → Listed z l
    → sets (run_words z (started (listed_count l))) plan_offset l ≡ run_words z (opened_run l)
unfolding run_words opened_run
opened-words z l L =
    into-first (front-laws z) (rest-laws z) (started (listed_count l)) (opened_run l) plan_offset l
    (omega (arith, L.whole, L.high)) (opened-front z l L) refl

-- ---- in a buffer

long-run : (z : Counts) → snapshot_offset ≤ run_size z
unfolding run_size
long-run z = omega arith

pub jobs-stored : (z : Counts) (l : List ℕ) (at : ℕ) (jobs : List ℕ) → Listed z jobs
    → at + run_size z ≤ length l → read_run z l at ≡ free_run
    → put_jobs l at jobs ≡ put_run z l at (opened_run jobs)
unfolding put_jobs
jobs-stored z l at jobs L h free =
    let R = run-laws z in
    let n = listed_count jobs in
    let x = open_state ∷ n ∷ [] in
    let size = long-run z in
    let again : put_run z l at free_run ≡ l = rw (← free) (part-again R l at) in
    let start : set (set l at open_state) (at + jobs_offset) n ≡ put_run z l at (started n) =
    ap (λ (k : ℕ). set (set l at open_state) k n) (add-one at)
    ∙ ap (λ (k : ℕ). sets l k x) (sym (add-zero at))
    ∙ ap (λ (t : List ℕ). sets t (at + 0) x) (sym again)
    ∙ part-twice R l at 0 x free_run (started n) h (omega arith) (started-words z n) in
    put-list (set (set l at open_state) (at + jobs_offset) n) jobs (at + plan_offset)
    ∙ ap (λ (t : List ℕ). sets t (at + plan_offset) jobs) start
    ∙ part-twice R l at plan_offset jobs (started n) (opened_run jobs) h
    (omega (arith, L.whole, L.high)) (opened-words z jobs L)
