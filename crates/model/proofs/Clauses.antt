-- Form by examples: for each clause of document 01's "in form" stores that lack just it, each
-- beside a well formed one that differs in nothing else.
-- formed: is a store with this run well formed? tells: the first of two is, the second isn't.
-- placed: the same for a version, on the master, two shelves and both cards of a run.
-- Clauses, clauses: each clause tells; those of two lines (CR 10): Clauses/Lines.
-- Assumes nothing.
use mathlib.Core.Path.{◌≡◌, refl}
use mathlib.Core.Bool.{Bool, true, false, not, ◌&&◌}
use mathlib.Core.List.{List, [], ◌∷◌, ◌++◌, map}
use Prim.Native.Nat.{ℕ}
use lib.ListN.{get_or, replicate}
use Rattle.words.specs.Tests.{any_below, all_below}
use Rattle.words.specs.Numbers.{when, count_below}
use Rattle.words.specs.Lists.{put_at}
use Rattle.masks.specs.Mask.{test_bit, with_bit, with_if, mask_below}
use Rattle.clock.specs.Clock.{exceeds, standing, present}
use Rattle.sizes.specs.Bounds.{counts_of, between}
use Rattle.model.specs.Algebra.{Place}
use Rattle.model.specs.Version.{Version, unheld, held}
use Rattle.model.specs.Tail.{barred}
use Rattle.model.specs.Store.{Job, Run, no_job, no_jobs, empty_place, free_run, fresh, planned, done_reads, site_with, with_master, with_sites, with_cache, with_run, with_tail_of, with_round, run_with}
use Rattle.model.specs.Allowance.{held_count, over}
use Rattle.model.specs.Form.{zero_rows, zero_version, leaders_formed, version_formed, place_formed, valid_job, zero_job, zero_branch, free_formed, jobs_formed, masks_formed, mark_formed, snapshot_formed, branches_formed, run_formed, site_formed, rights_formed, tail_formed, well_formed}
use Rattle.model.specs.Marks.{is_stale, stale_mask}
use Rattle.model.proofs.Readings.{led, version, place, unforked}
pub mod Lines

-- ---- a store with 2 sheets, 2 writers, 2 offices and 2 runs, the last of them given

abbrev pub formed : Run → Bool
formed a = well_formed (with_run (fresh (counts_of 2 2 2 2)) 1 a)

abbrev pub tells : Run → Run → Bool
tells a b = formed a && not (formed b)

abbrev pub job : ℕ → ℕ → ℕ → Job
job o m u = record { site = o; reads = m; upstream = u }

-- State, number of jobs, done mask, read mask, jobs, card.
abbrev pub run : ℕ → ℕ → ℕ → ℕ → (ℕ → Job) → Place Version → Run
run state n finished read jobs card =
    unforked state n finished jobs (record { read = read; snapshot = card })

-- The same run with a mark, a second read mask and a second card.
abbrev pub lined : Run → ℕ → ℕ → Place Version → Run
lined a mark read card =
    run_with a a.state a.done a.branch mark (record { read = read; snapshot = card })

-- An open run of n jobs, nothing done, all its words zero but for one job's.
abbrev pub jobbed : ℕ → ℕ → Job → Run
jobbed n i x = run 1 n 0 0 (put_at no_jobs i x) empty_place

-- Job 0 reads sheet 0, job 1 sheet 1.
abbrev pub two : ℕ → Job
two i = get_or (job 0 1 0 ∷ job 1 2 0 ∷ []) i no_job

-- Sheet 0 alone, sheet 1 alone, both.
abbrev zeroth : Version
zeroth = version 1 ((1 ∷ 0 ∷ []) ∷ [])

abbrev other : Version
other = version 1 ([] ∷ (1 ∷ 0 ∷ []) ∷ [])

abbrev pub card_0 : Place Version
card_0 = place (zeroth ∷ [])

abbrev pub card_1 : Place Version
card_1 = place (unheld ∷ other ∷ [])

abbrev pub card-both : Place Version
card-both = place (zeroth ∷ other ∷ [])

-- ---- "an unheld version has only zero words and a held one a non-zero own row"

-- Version v of sheet 1 on the master, on the first and the last shelf, and on each card of a run
-- with a job that reads sheet 1.
abbrev placed : Version → List Bool
placed v =
    let s = fresh (counts_of 2 2 2 2) in
    let p = place (unheld ∷ v ∷ []) in
    let jobs = put_at no_jobs 0 (job 0 2 0) in
    well_formed (with_master s p) ∷ well_formed (with_cache s 0 p) ∷ well_formed (with_cache s 1 p)
    ∷ formed (run 1 1 0 0 jobs p) ∷ formed (lined (run 1 1 0 0 jobs empty_place) 1 0 p) ∷ []

-- Held, of writer 0 alone, with a mask.
abbrev ruled : ℕ → Version
ruled m = led m 1 ([] ∷ (1 ∷ 0 ∷ []) ∷ [])

pub record Versions : Type 0 where
  pub nothing : placed unheld ≡ replicate 5 true
  pub alone : placed (version 1 ([] ∷ (0 ∷ 1 ∷ []) ∷ [])) ≡ replicate 5 true
  pub needing : placed (version 1 ((0 ∷ 1 ∷ []) ∷ (0 ∷ 1 ∷ []) ∷ [])) ≡ replicate 5 true
  -- Unheld with a count in its own row, in another row; held with no own row.
  pub own-word : placed (led 0 0 ([] ∷ (0 ∷ 1 ∷ []) ∷ [])) ≡ replicate 5 false
  pub need-word : placed (led 0 0 ((0 ∷ 1 ∷ []) ∷ [])) ≡ replicate 5 false
  -- CR 3: of two writers any mask but 0, and none with a bit at 2 or above; none if unheld. A
  -- leader may have no count.
  pub masks : placed (ruled 2) ++ placed (ruled 3) ≡ replicate 10 true
  pub no-mask : placed (ruled 0) ≡ replicate 5 false
  pub high-mask : placed (ruled 4) ++ placed (ruled 7) ≡ replicate 10 false
  pub mask_word : placed (led 1 0 []) ≡ replicate 5 false
  pub no_row : placed (version 1 ((0 ∷ 1 ∷ []) ∷ [])) ≡ replicate 5 false

-- ---- "a free run is all zero": each word but the state, which is 0

abbrev free-jobs : List Bool
free-jobs =
    tells free_run (run 0 1 0 0 no_jobs empty_place) ∷ tells free_run (run 0 0 1 0 no_jobs
    empty_place)
    ∷ tells free_run (run 0 0 0 1 no_jobs empty_place)
    ∷ tells free_run (run 0 0 0 0 (put_at no_jobs 0 (job 1 0 0)) empty_place)
    ∷ tells free_run (run 0 0 0 0 (put_at no_jobs 0 (job 0 1 0)) empty_place)
    ∷ tells free_run (run 0 0 0 0 (put_at no_jobs 7 (job 0 0 1)) empty_place) ∷ []

-- Its card: a version, a count of an unheld one, and its mask.
abbrev free-card : List Bool
free-card =
    tells free_run (run 0 0 0 0 no_jobs card_1)
    ∷ tells free_run (run 0 0 0 0 no_jobs (place (led 0 0 ([] ∷ (0 ∷ 1 ∷ []) ∷ []) ∷ [])))
    ∷ tells free_run (run 0 0 0 0 no_jobs (place (unheld ∷ led 1 0 [] ∷ []))) ∷ []

-- Its mark, and its second read mask and card.
abbrev free-second : List Bool
free-second =
    map (λ a. tells free_run a)
    (lined free_run 1 0 empty_place ∷ lined free_run 2 0 empty_place ∷ lined free_run 0 1
    empty_place
    ∷ lined free_run 0 0 card_1
    ∷ lined free_run 0 0 (place (led 0 0 ([] ∷ (0 ∷ 1 ∷ []) ∷ []) ∷ []))
    ∷ lined free_run 0 0 (place (unheld ∷ led 1 0 [] ∷ [])) ∷ [])

-- ---- "any other run is in state 1 or 2 and has 1..8 jobs, zero words beyond them, valid jobs"

abbrev state : List Bool
state =
    tells (run 1 1 0 0 no_jobs empty_place) (run 3 1 0 0 no_jobs empty_place)
    ∷ tells (run 2 1 0 0 no_jobs empty_place) (run 0 1 0 0 no_jobs empty_place) ∷ []

abbrev number : List Bool
number =
    tells (jobbed 1 0 no_job) (jobbed 0 0 no_job) ∷ tells (jobbed 8 0 no_job) (jobbed 9 0 no_job)
    ∷ []

abbrev beyond : List Bool
beyond =
    tells (jobbed 2 1 (job 1 0 0)) (jobbed 1 1 (job 1 0 0))
    ∷ tells (jobbed 2 1 (job 0 3 0)) (jobbed 1 1 (job 0 3 0))
    ∷ tells (jobbed 2 1 (job 0 0 1)) (jobbed 1 1 (job 0 0 1))
    ∷ tells (jobbed 8 7 (job 1 0 0)) (jobbed 7 7 (job 1 0 0)) ∷ []

-- "A valid job has an office below N, reads among K sheets (0 allowed), and upstream bits only of
-- lower job numbers."
abbrev valid : List Bool
valid =
    tells (jobbed 1 0 (job 1 0 0)) (jobbed 1 0 (job 2 0 0))
    ∷ tells (jobbed 1 0 (job 0 3 0)) (jobbed 1 0 (job 0 4 0))
    ∷ tells (jobbed 1 0 (job 0 0 0)) (jobbed 1 0 (job 0 0 1))
    ∷ tells (jobbed 3 2 (job 0 0 3)) (jobbed 3 2 (job 0 0 4))
    ∷ tells (jobbed 8 7 (job 0 0 127)) (jobbed 8 7 (job 0 0 128)) ∷ []

-- ---- "a done mask below 2^jobs, a read mask that is just the done jobs' reads"

abbrev finished : List Bool
finished =
    tells (run 1 1 1 0 no_jobs empty_place) (run 1 1 2 0 no_jobs empty_place)
    ∷ tells (run 1 2 3 0 no_jobs empty_place) (run 1 2 4 0 no_jobs empty_place) ∷ []

-- Job 0 is done: too many, too few, the other one; then both.
abbrev read : List Bool
read =
    tells (run 1 2 1 1 two card-both) (run 1 2 1 3 two card-both)
    ∷ tells (run 1 2 1 1 two card-both) (run 1 2 1 0 two card-both)
    ∷ tells (run 1 2 1 1 two card-both) (run 1 2 1 2 two card-both)
    ∷ tells (run 1 2 3 3 two card-both) (run 1 2 3 1 two card-both) ∷ []

-- ---- "carried sheets among the plan's sheets, each read sheet on the card"

abbrev carried : List Bool
carried =
    tells (jobbed 1 0 (job 0 1 0)) (run 1 1 0 0 (put_at no_jobs 0 (job 0 1 0)) card_1)
    ∷ tells (run 1 1 0 0 (put_at no_jobs 0 (job 0 1 0)) card_0)
    (run 1 1 0 0 (put_at no_jobs 0 (job 0 1 0)) card-both) ∷ []

abbrev on-card : List Bool
on-card =
    tells (run 1 2 1 1 two card_0) (run 1 2 1 1 two empty_place)
    ∷ tells (run 1 2 1 1 two card_0) (run 1 2 1 1 two card_1)
    ∷ tells (run 1 2 2 2 two card_1) (run 1 2 2 2 two card_0) ∷ []

-- ---- CR 8: the last picked run is "below P in form"

abbrev rounds : List Bool
rounds = map (λ r. well_formed (with_round (fresh (counts_of 2 2 2 2)) r)) (0 ∷ 1 ∷ 2 ∷ [])

pub record Clauses : Type 0 where
  pub of-version : Versions
  pub of-free : free-jobs ≡ replicate 6 true
  pub of-free-card : free-card ≡ replicate 3 true
  pub of-free-second : free-second ≡ replicate 6 true
  pub of-state : state ≡ replicate 2 true
  pub of_number : number ≡ replicate 2 true
  pub of-beyond : beyond ≡ replicate 4 true
  pub of-valid : valid ≡ replicate 5 true
  pub of-finished : finished ≡ replicate 2 true
  pub of-read : read ≡ replicate 4 true
  pub of-carried : carried ≡ replicate 2 true
  pub of-card : on-card ≡ replicate 3 true
  pub of-round : rounds ≡ true ∷ true ∷ false ∷ []

pub clauses : Clauses
unfolding any_below all_below put_at test_bit with_bit with_if mask_below present between held
    fresh
    planned done_reads with_master with_sites with_cache with_run with_tail_of zero_rows
    zero_version
    leaders_formed version_formed place_formed valid_job zero_job zero_branch free_formed
    jobs_formed
    masks_formed mark_formed snapshot_formed branches_formed run_formed site_formed rights_formed
    tail_formed barred well_formed is_stale stale_mask site_with exceeds standing when count_below
    held_count over
clauses = record {
  of-version = record {
    nothing = refl;
    alone = refl;
    needing = refl;
    own-word = refl;
    need-word = refl;
    masks = refl;
    no-mask = refl;
    high-mask = refl;
    mask_word = refl;
    no_row = refl;
  };
  of-free = refl;
  of-free-card = refl;
  of-free-second = refl;
  of-state = refl;
  of_number = refl;
  of-beyond = refl;
  of-valid = refl;
  of-finished = refl;
  of-read = refl;
  of-carried = refl;
  of-card = refl;
  of-round = refl;
}
