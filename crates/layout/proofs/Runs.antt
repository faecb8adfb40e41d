-- The laws of the runs.
-- FitRun, FitRuns: nothing of a run stands outside of the counts; fit-branch: a card of it.
-- front-laws, rest-laws: the two segments of a run. run-laws, runs-laws: its words are read back.
-- Assumes nothing.
use mathlib.Core.Path.{◌≡◌, sym, ap, ap₂, ◌∙◌}
use mathlib.Core.List.{List, ◌∷◌, ◌++◌}
use Prim.Native.Nat.{ℕ, suc, ◌+◌, ◌*◌}
use native.Mathlib.Nat.{add-zero}
use native.Mathlib.Omega.{arith}
use lib.ListN.{length-append}
use Rattle.words.specs.Lists.{window, upto}
use Rattle.words.proofs.Lists.{append-same, window-add}
use Rattle.sizes.specs.declared.Counts.{Counts}
use Rattle.sizes.specs.Bounds.{place_size, run_front, run_rest, run_size}
use Rattle.sizes.specs.Runs.{jobs_offset, done_offset, read_offset, plan_offset, plan_size, snapshot_offset, second_read_offset, second_offset}
use Rattle.model.specs.Store.{Run, branch_of, free_run}
use Rattle.model.proofs.Branches.{on_both}
use Rattle.layout.specs.Words.{front_words, rest_words, run_words, runs_words}
use Rattle.layout.specs.Reading.{read_word_of, read_run}
use Rattle.layout.proofs.Codec.{Laws, FitMany, many, Segment, two-laws}
use Rattle.layout.proofs.Jobs.{cons_same, FitJobs, jobs-laws}
use Rattle.layout.proofs.Parts.{FitPlace, place-laws}

-- ---- the front

pub record FitRun (z : Counts) (r : Run) : Type 0 where
  pub job : FitJobs r.job
  pub snapshot : FitPlace z r.branch.snapshot
  pub second : FitPlace z r.second.snapshot

-- The card of either branch.
pub fit-branch : {z : Counts} {a : Run} → FitRun z a → (n : ℕ)
    → FitPlace z (branch_of n a).snapshot
fit-branch {z} {a} F = on_both (λ b. FitPlace z b.snapshot) a F.snapshot F.second

-- Four words, and a window behind them.
abbrev four_words : List ℕ → ℕ → List ℕ → List ℕ
four_words l at t =
    read_word_of l at ∷ read_word_of l (at + jobs_offset)
    ∷ read_word_of l (at + done_offset) ∷ read_word_of l (at + read_offset) ∷ t

four : (l : List ℕ) (at n : ℕ)
    → four_words l at (window l (at + plan_offset) n) ≡ window l at (plan_offset + n)
unfolding window
four l at n =
    let e : plan_offset + n ≡ suc (suc (suc (suc n))) = omega arith in
    let d : at + 1 + 1 ≡ at + done_offset = omega arith in
    let r : at + done_offset + 1 ≡ at + read_offset = omega arith in
    let p : at + read_offset + 1 ≡ at + plan_offset = omega arith in
    rw (e, d, r, p)

front-round : (z : Counts) (l : List ℕ) (at : ℕ)
    → front_words z (read_run z l at) ≡ window l at (run_front z)
unfolding read_run
front-round z l at =
    let b = at + plan_offset in
    let e : at + snapshot_offset ≡ b + plan_size = omega arith in
    ap (four_words l at) (ap₂ ◌++◌ (jobs-laws.round l b)
    (rw e ((place-laws z).round l (b + plan_size)))
    ∙ sym (window-add l b plan_size (place_size z)))
    ∙ four l at (plan_size + place_size z) ∙ ap (window l at) (omega arith)

-- What is known of two runs of the same front.
pub record SameFront (a b : Run) : Type 0 where
  pub state : a.state ≡ b.state
  pub jobs : a.jobs ≡ b.jobs
  pub done : a.done ≡ b.done
  pub job : a.job ≡ b.job
  pub branch : a.branch ≡ b.branch

front_same : (z : Counts) (a b : Run) → FitRun z a → FitRun z b
    → front_words z a ≡ front_words z b → SameFront a b
front_same z a b F G e =
    let J = jobs-laws in
    let P = place-laws z in
    let c₁ = cons_same _ _ _ _ e in
    let c₂ = cons_same _ _ _ _ c₁.1 in
    let c₃ = cons_same _ _ _ _ c₂.1 in
    let c₄ = cons_same _ _ _ _ c₃.1 in
    let d = append-same _ _ _ _ (J.long a.job ∙ sym (J.long b.job)) c₄.1 in
    let s = c₄.0 in
    let u = P.same a.branch.snapshot b.branch.snapshot F.snapshot G.snapshot
    d.1 in
    record {
      state = c₁.0;
      jobs = c₂.0;
      done = c₃.0;
      job = J.same a.job b.job F.job G.job d.0;
      branch = λ i. record { read = s i; snapshot = u i };
    }

pub front-laws : (z : Counts)
    → Segment 0 (run_front z) (front_words z) (read_run z) (FitRun z) SameFront
front-laws z =
    let J = jobs-laws in
    let P = place-laws z in
    record {
      long = λ r.
          rw (length-append, J.long r.job, P.long r.branch.snapshot) (omega arith);
      round = λ l at.
          front-round z l at ∙ ap (λ (j : ℕ). window l j (run_front z)) (sym (add-zero at));
      same = front_same z;
    }

-- ---- the rest

rest-round : (z : Counts) (l : List ℕ) (at : ℕ)
    → rest_words z (read_run z l at) ≡ window l (at + run_front z) (run_rest z)
unfolding read_run window
rest-round z l at =
    let b = at + run_front z in
    let e : run_rest z ≡ suc (suc (place_size z)) = omega arith in
    let r : at + (run_front z + second_read_offset) ≡ b + 1 = omega arith in
    let c : at + (run_front z + second_offset) ≡ b + 1 + 1 = omega arith in
    rw (e, r, c, (place-laws z).round l (b + 1 + 1))

-- What is known of two runs of the same rest.
pub record SameRest (a b : Run) : Type 0 where
  pub mark : a.mark ≡ b.mark
  pub second : a.second ≡ b.second

rest-same : (z : Counts) (a b : Run) → FitRun z a → FitRun z b
    → rest_words z a ≡ rest_words z b → SameRest a b
rest-same z a b F G e =
    let c₁ = cons_same _ _ _ _ e in
    let c₂ = cons_same _ _ _ _ c₁.1 in
    let s = c₂.0 in
    let u = (place-laws z).same a.second.snapshot b.second.snapshot F.second G.second
    c₂.1 in
    record { mark = c₁.0; second = λ i. record { read = s i; snapshot = u i } }

pub rest-laws : (z : Counts)
    → Segment (run_front z) (run_rest z) (rest_words z) (read_run z) (FitRun z) SameRest
rest-laws z = record {
  long = λ r. rw ((place-laws z).long r.second.snapshot) (omega arith);
  round = rest-round z;
  same = rest-same z;
}

-- ---- both

run-one : (a b : Run) → SameFront a b → SameRest a b → a ≡ b
run-one a b F G =
    let p = F.state in let q = F.jobs in let r = F.done in
    let t = F.job in
    let u = F.branch in
    let m = G.mark in
    let v = G.second in
    λ i. record {
      state = p i;
      jobs = q i;
      done = r i;
      job = t i;
      branch = u i;
      mark = m i;
      second = v i;
    }

pub run-laws : (z : Counts) → Laws (run_size z) (run_words z) (read_run z) (FitRun z)
unfolding run_size run_words read_run
run-laws z =
    two-laws (front-laws z) (rest-laws z)
    (λ l at. record {
      job = jobs-laws.fits l _;
      snapshot = (place-laws z).fits l _;
      second = (place-laws z).fits l _;
    }) run-one

abbrev pub FitRuns : Counts → (ℕ → Run) → Type 0
FitRuns z = FitMany z.runs free_run (FitRun z)

abbrev read_runs : Counts → List ℕ → ℕ → ℕ → Run
read_runs z l at = upto z.runs free_run (λ r. read_run z l (at + r * run_size z))

pub runs-laws : (z : Counts) → Laws (z.runs * run_size z) (runs_words z) (read_runs z) (FitRuns z)
unfolding runs_words
runs-laws z = many z.runs (run-laws z) free_run
