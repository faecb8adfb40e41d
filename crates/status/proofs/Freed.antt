-- A free run: its words are zero, and a free run in form has no others.
-- no-jobs-words: the words of no jobs. zeros-free: zeros stored over a run. free-is: its form.
-- Assumes nothing.
use mathlib.Core.Path.{◌≡◌, sym, ap, ◌∙◌, fun_ext}
use mathlib.Core.Bool.{So, ◌&&◌}
use mathlib.Core.Logic.{⊎_elim}
use mathlib.Core.List.{List, []}
use Prim.Native.Nat.{ℕ}
use lib.Dec.{eqb}
use lib.Seq.{sets}
use Rattle.words.specs.Tests.{all_below}
use Rattle.words.specs.Lists.{window, upto}
use Rattle.words.specs.Words.{put}
use Rattle.words.proofs.Bools.{and_left, and_right, eqb-eq, eq-eqb}
use Rattle.words.proofs.Tests.{below_or_not, all-at}
use Rattle.sizes.specs.declared.Counts.{Counts}
use Rattle.sizes.specs.Bounds.{run_size}
use Rattle.sizes.specs.Runs.{max_jobs, plan_size}
use Rattle.model.specs.Version.{Version, unheld}
use Rattle.model.specs.Store.{Job, Branch, Run, no_job, no_jobs, empty_place, no_branch, free_run}
use Rattle.model.specs.Form.{zero_job, zero_branch, free_formed, run_formed}
use Rattle.model.proofs.Branches.{vacant-out}
use Rattle.layout.specs.Words.{jobs_words, run_words}
use Rattle.layout.specs.Reading.{read_clock, read_past_of, read_version, read_place, read_job, read_jobs, read_run}
use Rattle.layout.proofs.Runs.{FitRun, run-laws}
use Rattle.layout.proofs.Jobs.{FitJobs, jobs-laws}
use Rattle.layout.proofs.Parts.{FitPlace}
use Rattle.layout.proofs.Merges.{unheld-is}
use Rattle.version.proofs.Versions.{upto_all, nothing_read}
use Rattle.layout.specs.Stored.{put_run}
use Rattle.status.proofs.Copies.{put-zeros}

-- ---- what is read where there are no words

upto-one : {A : Type 0} (n : ℕ) (x : A) → upto n x (λ _. x) ≡ (λ _. x)
upto-one n x = fun_ext (λ i. upto_all n x i)

no_place : (z : Counts) (at : ℕ) → read_place z [] at ≡ empty_place
unfolding read_place read_version read_past_of read_clock
no_place z at =
    ap (λ (v : Version). upto z.keys unheld (λ k. v)) (nothing_read z)
    ∙ upto-one z.keys unheld

no-jobs : (at : ℕ) → read_jobs [] at ≡ no_jobs
unfolding read_jobs read_job
no-jobs at = upto-one max_jobs no_job

no_run : (z : Counts) (at : ℕ) → read_run z [] at ≡ free_run
unfolding read_run
no_run z at =
    let job = no-jobs _ in
    let snapshot = no_place z _ in
    let second = no_place z _ in
    λ i. record {
      state = 0;
      jobs = 0;
      done = 0;
      job = job i;
      branch = record { read = 0; snapshot = snapshot i };
      mark = 0;
      second = record { read = 0; snapshot = second i };
    }

-- ---- zeros

pub no-jobs-words : jobs_words no_jobs ≡ window [] 0 plan_size
no-jobs-words = ap jobs_words (sym (no-jobs 0)) ∙ jobs-laws.round [] 0

pub zeros-free : (z : Counts) (l : List ℕ) (at : ℕ)
    → put l at (run_size z) (λ _. 0) ≡ put_run z l at free_run
zeros-free z l at =
    put-zeros l at (run_size z)
    ∙ ap (sets l at) (sym ((run-laws z).round [] 0) ∙ ap (run_words z) (no_run z 0))

-- ---- a free run in form

job_is : (j : Job) → So (zero_job j) → j ≡ no_job
unfolding zero_job
job_is j p =
    let a = eqb j.site 0 in
    let b = eqb j.reads 0 in
    let c = eqb j.upstream 0 in
    let q = and_right a (b && c) p in
    let x = eqb-eq _ _ (and_left a (b && c) p) in
    let y = eqb-eq _ _ (and_left b c q) in
    let w = eqb-eq _ _ (and_right b c q) in
    λ i. record { site = x i; reads = y i; upstream = w i }

jobs-are : (f : ℕ → Job) → FitJobs f → So (all_below max_jobs (λ i. zero_job (f i))) → f ≡ no_jobs
jobs-are f F p =
    fun_ext (λ i. ⊎_elim (λ h. job_is (f i) (all-at max_jobs (λ i. zero_job (f i)) p i h))
    (F.rest i) (below_or_not i max_jobs))

branch-is : (z : Counts) (b : Branch) → FitPlace z b.snapshot → So (zero_branch z b)
    → b ≡ no_branch
branch-is z b F p =
    let E = vacant-out z b p in
    let read = E.read in
    let snapshot : b.snapshot ≡ empty_place = fun_ext (λ k. ⊎_elim
    (λ h. unheld-is z (b.snapshot k) (F.each k h) (E.none k h) (E.zeros k h))
    (F.rest k) (below_or_not k z.keys)) in
    λ i. record { read = read i; snapshot = snapshot i }

pub free-is : (z : Counts) (a : Run) → FitRun z a → So (run_formed z a) → a.state ≡ 0 → a ≡
    free_run
unfolding run_formed free_formed
free-is z a F p e =
    let q : So (free_formed z a) = rw (eq-eqb a.state 0 e) at p in
    let jobs = eqb a.jobs 0 in
    let done = eqb a.done 0 in
    let job = all_below max_jobs (λ i. zero_job (a.job i)) in
    let first = zero_branch z a.branch in
    let mark = eqb a.mark 0 in
    let second = zero_branch z a.second in
    let rest = job && (first && (mark && second)) in
    let q₁ = and_right jobs (done && rest) q in
    let q₂ = and_right done rest q₁ in
    let q₃ = and_right job (first && (mark && second)) q₂ in
    let q₄ = and_right first (mark && second) q₃ in
    let x = eqb-eq _ _ (and_left jobs (done && rest) q) in
    let y = eqb-eq _ _ (and_left done rest q₁) in
    let f = jobs-are a.job F.job (and_left job (first && (mark && second)) q₂) in
    let b = branch-is z a.branch F.snapshot (and_left first (mark && second) q₃) in
    let m = eqb-eq _ _ (and_left mark second q₄) in
    let c = branch-is z a.second F.second (and_right mark second q₄) in
    λ i. record {
      state = e i;
      jobs = x i;
      done = y i;
      job = f i;
      branch = b i;
      mark = m i;
      second = c i;
    }
