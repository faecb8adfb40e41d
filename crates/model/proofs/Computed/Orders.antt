-- Which refusal comes first, which jobs a rule asks and which office it takes, by examples
-- (`Computed` proves that they pass).
-- orders-, upstream-, prepares-, fifth-, shelf-..: scripts, and what they answer. full-..: where
-- no number or count is left. cards: a broken run's card in form.
-- Assumes nothing.
use mathlib.Core.Bool.{Bool, not}
use mathlib.Core.List.{List, [], ◌∷◌, ◌++◌}
use Prim.Native.Nat.{ℕ}
use Rattle.clock.specs.Count.{max_word}
use Rattle.sizes.specs.Bounds.{counts_of}
use Rattle.words.specs.Lists.{put_at}
use Rattle.model.specs.Version.{Version, unheld}
use Rattle.model.specs.Store.{Store, no_jobs, fresh, with_last, with_writer, with_run}
use Rattle.model.specs.Form.{well_formed}
use Rattle.model.specs.Calls.{StoreCall, open_run, fetch, prepare, step, issue, drop_run, ask, look, explain}
use Rattle.model.proofs.Scripts.{answers, ok₁, ok₃, seen, not_taken}
use Rattle.model.proofs.Readings.{version, clock, place, unforked}
use Rattle.model.proofs.Computed.Explain.{edit, save, path}

-- ---- after `new 2 2 2 2`: 3 before 4, 4 before 6, 6 before 7

-- Run 0 has a job that reads nothing and one that reads a sheet that nobody saved.
abbrev pub orders_script : List StoreCall
orders_script =
    prepare 2 ∷ issue 2 0 1 ∷ issue 0 2 1 ∷ issue 0 0 5 ∷ prepare 0 ∷ issue 0 0 1
    ∷ open_run 0 (0 ∷ 0 ∷ 0 ∷ 0 ∷ 1 ∷ 0 ∷ []) ∷ prepare 0 ∷ issue 0 0 5 ∷ issue 0 2 1
    ∷ step 0 0 0 ∷ prepare 0 ∷ issue 0 0 1 ∷ issue 0 0 0 ∷ ask (look 0 0 2) ∷ ask (look 0 0 1) ∷ []

abbrev pub orders-answers : List (List ℕ)
orders-answers =
    not_taken 3 ∷ not_taken 3 ∷ not_taken 3 ∷ not_taken 3 ∷ not_taken 4 ∷ not_taken 4
    ∷ ok₁ 2 ∷ not_taken 7 ∷ not_taken 3 ∷ not_taken 3
    ∷ ok₃ 0 0 0 ∷ not_taken 6 ∷ not_taken 6 ∷ not_taken 6 ∷ not_taken 3 ∷ not_taken 8 ∷ []

-- ---- after `new 1 1 1 1`: a job whose upstream is job 2

abbrev pub upstream_script : List StoreCall
upstream_script =
    open_run 0 (0 ∷ 0 ∷ 0 ∷ 0 ∷ 0 ∷ 0 ∷ 0 ∷ 0 ∷ 0 ∷ 0 ∷ 0 ∷ 4 ∷ []) ∷ step 0 3 0 ∷ step 0 0 0
    ∷ step 0 1 0 ∷ step 0 3 0 ∷ step 0 2 0 ∷ step 0 3 0 ∷ []

abbrev pub upstream-answers : List (List ℕ)
upstream-answers =
    ok₁ 4 ∷ not_taken 6 ∷ ok₃ 0 0 0 ∷ ok₃ 0 0 0 ∷ not_taken 6 ∷ ok₃ 0 0 0 ∷ ok₃ 0 0 0 ∷ []

-- ---- after `new 2 2 2 2`: a prepare after job 1 alone was done; one that lacks job 1's read

abbrev pub prepares_script : List StoreCall
prepares_script =
    save 1 0 1 ++ open_run 0 (0 ∷ 1 ∷ 0 ∷ 0 ∷ 0 ∷ 0 ∷ []) ∷ step 0 1 0 ∷ prepare 0 ∷ drop_run 0
    ∷ open_run 0 (0 ∷ 1 ∷ 0 ∷ 1 ∷ 2 ∷ 0 ∷ []) ∷ prepare 0 ∷ ask (look 1 0 0)
    ∷ open_run 1 (0 ∷ 1 ∷ 0 ∷ []) ∷ prepare 1 ∷ []

abbrev pub prepares-answers : List (List ℕ)
prepares-answers =
    ok₁ 1 ∷ ok₃ 0 0 0 ∷ ok₁ 1 ∷ ok₁ 2 ∷ ok₃ 0 0 0 ∷ not_taken 6 ∷ ok₁ 0
    ∷ ok₁ 2 ∷ not_taken 7 ∷ not_taken 8 ∷ ok₁ 1 ∷ ok₁ 1 ∷ []

-- ---- after `new 1 2 2 2`: five jobs, of which the last one alone is at office 1, whose shelf is
-- ---- newer

abbrev pub fifth_script : List StoreCall
fifth_script =
    save 1 0 1 ++ fetch 0 0 ∷ (save 1 1 1 ++ fetch 1 0
    ∷ open_run 0 (0 ∷ 1 ∷ 0 ∷ 0 ∷ 0 ∷ 0 ∷ 0 ∷ 1 ∷ 0 ∷ 0 ∷ 0 ∷ 0 ∷ 1 ∷ 1 ∷ 0 ∷ [])
    ∷ prepare 0 ∷ ask (look 1 0 0) ∷ ask (look 2 0 0) ∷ [])

abbrev pub fifth-answers : List (List ℕ)
fifth-answers =
    ok₁ 1 ∷ ok₃ 0 0 0 ∷ ok₁ 1 ∷ ok₁ 1 ∷ ok₁ 1 ∷ ok₃ 0 0 0 ∷ ok₁ 2 ∷ ok₁ 1
    ∷ ok₁ 5 ∷ ok₁ 1 ∷ seen 1 1 1 0 1 ∷ seen 2 3 1 1 0 ∷ []

-- ---- after `new 3 4 2 2`: explain goes by the shelf's 2, which needs 1; the master's needs 0 too

abbrev pub shelf_before : List StoreCall
shelf_before =
    save 1 0 1 ++ open_run 0 (0 ∷ 1 ∷ 0 ∷ 1 ∷ 4 ∷ 0 ∷ 1 ∷ 2 ∷ 0 ∷ []) ∷ step 0 0 0
    ∷ (save 1 1 2 ++ edit 1 0 2 2 4 ++ edit 1 0 1 3 3 ++ fetch 1 2 ∷ edit 1 0 1 3 4)

abbrev pub shelf_calls : List StoreCall
shelf_calls = ask (explain 0 1 0) ∷ fetch 1 2 ∷ ask (explain 0 1 0) ∷ []

abbrev pub shelf_answers : List (List ℕ)
shelf_answers = path (2 ∷ 1 ∷ 0 ∷ []) ∷ ok₁ 4 ∷ path (2 ∷ 0 ∷ []) ∷ []

-- ---- 6 before 9, 9 before 10

abbrev full : ℕ → ℕ → Store
full last count =
    with_writer (with_last (fresh (counts_of 1 2 1 1)) last) 0
    (record { count = count; past = λ d. clock [] })

abbrev full-calls : List StoreCall
full-calls = open_run 0 (0 ∷ 0 ∷ 0 ∷ []) ∷ issue 0 0 1 ∷ step 0 0 0 ∷ issue 0 0 1 ∷ []

abbrev pub full-told : List (List (List ℕ))
full-told =
    answers full-calls (full max_word max_word) ∷ answers full-calls (full 1 max_word) ∷ []

abbrev pub full-answers : List (List (List ℕ))
full-answers =
    (ok₁ 1 ∷ not_taken 6 ∷ ok₃ 0 0 0 ∷ not_taken 9 ∷ [])
    ∷ (ok₁ 1 ∷ not_taken 6 ∷ ok₃ 0 0 0 ∷ not_taken 10 ∷ []) ∷ []

-- ---- form of a broken run: its card has each sheet that was read, and none outside of its plan

-- Its one job reads sheet 0. m: the done and the read mask.
abbrev broken : ℕ → List Version → Bool
broken m card =
    let job = put_at no_jobs 0 (record { site = 0; reads = 1; upstream = 0 }) in
    well_formed (with_run (fresh (counts_of 2 1 1 1)) 0
    (unforked 2 1 m job (record { read = m; snapshot = place card })))

abbrev pub cards : List Bool
cards =
    let one = version 1 ((1 ∷ []) ∷ []) in
    let other = version 1 ([] ∷ (1 ∷ []) ∷ []) in
    broken 0 [] ∷ broken 0 (one ∷ []) ∷ broken 1 (one ∷ []) ∷ not (broken 1 [])
    ∷ not (broken 0 (unheld ∷ other ∷ [])) ∷ not (broken 0 (other ∷ [])) ∷ []
