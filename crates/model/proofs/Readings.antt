-- Document 01's "Readings that mislead" as tests: the ten marked ones as one list, and the others
-- on a store; then stores that no list of calls from new reaches.
-- `Computed` proves that each of them passes.
-- Assumes nothing.
use mathlib.Core.Bool.{Bool, true, false, not, ◌&&◌}
use mathlib.Core.List.{List, [], ◌∷◌}
use Prim.Native.Nat.{ℕ, zero, suc}
use lib.Dec.{eqb}
use lib.ListN.{get_or}
use Rattle.words.specs.Tests.{only}
use Rattle.words.specs.Lists.{put_at}
use Rattle.masks.specs.Mask.{test_bit, mask_below}
use Rattle.clock.specs.Clock.{Clock, standing, standing_number, dominates, concurrent}
use Rattle.clock.specs.Count.{max_word}
use Rattle.sizes.specs.Bounds.{counts_of}
use Rattle.model.specs.Algebra.{Place, causal_cut, overlapping_cut}
use Rattle.model.specs.Version.{Version, zero_past, unheld, dependency, supersedes, merge, versions}
use Rattle.model.specs.Sets.{evict_set}
use Rattle.model.specs.Store.{Store, Job, Branch, Run, no_job, no_jobs, no_branch, fresh, with_last, with_marks, with_master, with_cache, with_writer, with_run}
use Rattle.model.specs.Form.{well_formed}
use Rattle.model.specs.Outcome.{answer}
use Rattle.model.specs.Calls.Look.{row_numbers}
use Rattle.model.specs.Calls.{StoreCall, open_run, fetch, step, issue, ask, look, rule_of}
use Rattle.model.proofs.Scripts.{ok₁, ok₃, broke, not_taken}

-- ---- ways to write the examples

abbrev pub same : List ℕ → List ℕ → Bool
same [] [] = true
same [] (y ∷ ys) = false
same (x ∷ xs) [] = false
same (x ∷ xs) (y ∷ ys) = eqb x y && same xs ys

abbrev pub clock : List ℕ → Clock
clock l w = get_or l w 0

-- A version with this mask of leading writers and these rows, one after the other from key 0 on.
abbrev pub led : ℕ → ℕ → List (List ℕ) → Version
led m n rows = record { issue = n; leaders = m; past = λ d. clock (get_or rows d []) }

-- Writer 0 leads.
abbrev pub version : ℕ → List (List ℕ) → Version
version n rows = led 1 n rows

abbrev pub place : List Version → Place Version
place l k = get_or l k unheld

-- A run that was never forked: state, number of jobs, done mask, jobs, read mask and card.
abbrev pub unforked : ℕ → ℕ → ℕ → (ℕ → Job) → Branch → Run
unforked state n finished job branch = record {
  state = state;
  jobs = n;
  done = finished;
  job = job;
  branch = branch;
  mark = 0;
  second = no_branch;
}

abbrev pub alike : Version → Version → Bool
alike a b =
    eqb a.issue b.issue
    && (eqb a.leaders b.leaders
    && (same (row_numbers 2 (a.past 0)) (row_numbers 2 (b.past 0))
    && same (row_numbers 2 (a.past 1)) (row_numbers 2 (b.past 1))))

abbrev pub zero-zero : List ℕ
zero-zero = 0 ∷ 0 ∷ []

abbrev one-zero : List ℕ
one-zero = 1 ∷ 0 ∷ []

abbrev pub zero_one : List ℕ
zero_one = 0 ∷ 1 ∷ []

abbrev pub one-one : List ℕ
one-one = 1 ∷ 1 ∷ []

abbrev pub two-zero : List ℕ
two-zero = 2 ∷ 0 ∷ []

-- ---- the ten marked readings

-- The number of the standing of two clocks.
abbrev pub stands : List ℕ → List ℕ → ℕ → Bool
stands p q n = eqb (standing_number (standing 2 (clock p) (clock q))) n

-- "clock (1,0) doesn't cover (0,1), nor the reverse": they are rivals.
abbrev pub first : Bool
first =
    stands one-zero zero_one 3
    && (not (dominates 2 (clock one-zero) (clock zero_one))
    && not (dominates 2 (clock zero_one) (clock one-zero)))

-- "(1,1) covers both": it is newer.
abbrev pub second : Bool
second =
    stands one-one one-zero 2
    && (stands one-one zero_one 2
    && (dominates 2 (clock one-one) (clock one-zero)
    && dominates 2 (clock one-one) (clock zero_one)))

-- "equal clocks cover"
abbrev pub third : Bool
third = stands one-zero one-zero 0 && dominates 2 (clock one-zero) (clock one-zero)

-- "merge of rows (2,0) and (1,3) is (2,3)"
abbrev pub fourth : Bool
fourth =
    let a = version 1 (two-zero ∷ []) in
    let b = version 2 ((1 ∷ 3 ∷ []) ∷ []) in
    alike (merge 2 0 a b) (version 2 ((2 ∷ 3 ∷ []) ∷ []))

-- "merge with an unheld version is the other"
abbrev pub fifth : Bool
fifth =
    let a = version 3 (two-zero ∷ zero_one ∷ []) in
    alike (merge 2 0 a unheld) a && alike (merge 2 0 unheld a) a

-- "sheet u needs e at (1,0); the shelf's e is newer and needs k. Evicting k takes e and u, though
-- u doesn't need k": k is 0, e is 1 and u is 2.
abbrev evicting : Place Version
evicting =
    place (version 1 (one-zero ∷ []) ∷ version 2 (one-zero ∷ two-zero ∷ [])
    ∷ version 1 (zero-zero ∷ one-zero ∷ one-zero ∷ []) ∷ [])

abbrev pub sixth : Bool
sixth =
    eqb (mask_below 3 (evict_set (versions 2) 3 evicting (only 0))) 7
    && (dependency 2 2 (evicting 2) 1 && not (dependency 2 2 (evicting 2) 0))

-- A run whose card has sheet 0 at (1,0), read or not; the shelf has 0 at (2,0), and 1 that needs
-- 0 at a clock.
-- Job 0 reads sheet 0, job 1 sheet 1.
abbrev reading : ℕ → Job
reading m = record { site = 0; reads = m; upstream = 0 }

abbrev pub jobs : ℕ → Job
jobs i = get_or (reading 1 ∷ reading 2 ∷ []) i no_job

abbrev pub cache-of : List ℕ → Place Version
cache-of need = place (version 2 (two-zero ∷ []) ∷ version 2 (need ∷ two-zero ∷ []) ∷ [])

abbrev pub store_of : ℕ → List ℕ → Store
store_of read need =
    let master = with_master (fresh (counts_of 2 2 1 1)) (cache-of two-zero) in
    with_run (with_cache master 0 (cache-of need)) 0 (unforked 1 2 read jobs
    (record { read = read; snapshot = place (version 1 (one-zero ∷ []) ∷ []) }))

-- A call on a store that is in form.
abbrev pub answered : Store → StoreCall → List ℕ → Bool
answered s c expected = well_formed s && same (answer (rule_of c s)) expected

-- The step of job 1.
abbrev pub stepping : ℕ → List ℕ → List ℕ → Bool
stepping read need expected = answered (store_of read need) (step 0 1 0) expected

-- "sheet 0 was read at (1,0). The shelf has 0 at (2,0), and 1 that needs 0 at (1,0). A job
-- reading 1 goes through."
abbrev pub seventh : Bool
seventh = stepping 1 one-zero (ok₃ 0 2 0)

-- "if 1 needs 0 at (2,0), broken with mask 1"
abbrev pub eighth : Bool
eighth = stepping 1 two-zero (broke 1)

-- "if 0 is carried but not read, no break"
abbrev pub ninth : Bool
ninth = stepping 0 two-zero (ok₃ 0 2 0)

-- "an unheld sheet doesn't meet a need of (1,0)"
abbrev pub tenth : Bool
tenth = not (supersedes 2 0 unheld (clock one-zero))

abbrev pub marked : List Bool
marked =
    first ∷ second ∷ third ∷ fourth ∷ fifth ∷ sixth ∷ seventh ∷ eighth ∷ ninth ∷ tenth ∷ []

-- ---- unmarked ones (those about new are in crate layout)

-- "Document 001's "supersede" is read so; a rival doesn't meet a need."
abbrev pub concurrent-unmet : Bool
concurrent-unmet = not (supersedes 2 0 (version 1 (one-zero ∷ [])) (clock zero_one))

-- "(1,1) covers both": so it is no rival of (1,0), which is older.
abbrev pub not-concurrent : Bool
not-concurrent =
    not (concurrent 2 (clock one-one) (clock one-zero))
    && (stands one-zero one-one 1
    && (not (concurrent 2 (clock one-zero) (clock one-one))
    && concurrent 2 (clock one-zero) (clock zero_one)))

-- A causal cut: sixth's place is one, and without e it isn't one, nor with e older than u's need.
abbrev pub cut : Bool
cut =
    causal_cut (versions 2) 3 evicting
    && (not (causal_cut (versions 2) 3 (put_at evicting 1 unheld))
    && not (causal_cut (versions 2) 3 (put_at evicting 1 (version 1 (zero-zero ∷ zero_one ∷ [])))))

-- A keyset-overlapping cut for u and k: e may be missing, and nothing else may be held.
abbrev pub overlap : Bool
overlap =
    overlapping_cut (versions 2) 3 (test_bit 5) (put_at evicting 1 unheld)
    && not (overlapping_cut (versions 2) 3 (test_bit 5) evicting)

abbrev pub sentences : List Bool
sentences = concurrent-unmet ∷ not-concurrent ∷ cut ∷ overlap ∷ []

abbrev words : ℕ → List ℕ
words zero = []
words (suc n) = 0 ∷ 1 ∷ 0 ∷ words n

-- On a new store: "Open takes 8 jobs; 9 give 5. Step 0 0 on a free run gives 4." "list length not
-- 3 per job" is 5 too, and a look at the card of a free run 8.
abbrev pub unmarked : List Bool
unmarked =
    let s = fresh (counts_of 2 2 1 1) in
    answered s (open_run 0 (words 8)) (ok₁ 8) ∷ answered s (open_run 0 (words 9)) (not_taken 5)
    ∷ answered s (open_run 0 (0 ∷ 1 ∷ 0 ∷ 0 ∷ [])) (not_taken 5)
    ∷ answered s (step 0 0 0) (not_taken 4) ∷ answered s (ask (look 2 0 0)) (not_taken 8) ∷ []

-- ---- stores that no list of calls from new reaches

-- A last issue number and writer 0's count; run 0 is done, and has read nothing.
abbrev counted-to : ℕ → ℕ → Store
counted-to last count =
    let s = with_last (fresh (counts_of 2 2 1 1)) last in
    with_run (with_writer s 0 (record { count = count; past = zero_past })) 0
    (unforked 1 1 1 no_jobs no_branch)

-- "Issue with S not empty": 9 before 10, both where both are reached; neither with S empty, nor
-- the count of another writer.
abbrev pub limits : List Bool
limits =
    let top = max_word in
    let below : ℕ = 4294967294 in
    answered (counted-to top top) (issue 0 0 1) (not_taken 9)
    ∷ answered (counted-to top top) (issue 0 0 0) (ok₁ 0)
    ∷ answered (counted-to top below) (issue 0 0 1) (not_taken 9)
    ∷ answered (counted-to below top) (issue 0 0 1) (not_taken 10)
    ∷ answered (counted-to below top) (issue 0 1 1) (ok₁ top)
    ∷ answered (counted-to below below) (issue 0 0 1) (ok₁ top) ∷ []

-- "A sheet to be fetched isn't held by the master", though the shelf has it; and if it is.
abbrev pub shelved : List Bool
shelved =
    let p = place (version 1 (one-zero ∷ []) ∷ []) in
    let s = with_cache (fresh (counts_of 2 2 1 1)) 0 p in
    answered s (fetch 0 0) (not_taken 7) ∷ answered (with_marks (with_master s p)) (fetch 0 0)
    (ok₁ 1) ∷ []
