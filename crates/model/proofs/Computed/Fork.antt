-- CR 10's two lines of a run by examples (`Computed/Later` proves that they pass): scripts, and
-- what they answer; what a run's words are after them; lent stores.
-- joins-, marks-, twice-, rule-, own-, cards-, orders-, looks-..: scripts.
-- kept, unkept, leaders, lines: stores that are written down.
-- Assumes nothing.
use mathlib.Core.Bool.{Bool, not, ◌&&◌}
use mathlib.Core.List.{List, [], ◌∷◌, ◌++◌, map}
use Prim.Native.Nat.{ℕ}
use lib.ListN.{get_or}
use Rattle.sizes.specs.Bounds.{counts_of}
use Rattle.model.specs.Version.{Version, unheld}
use Rattle.model.specs.Store.{Store, Writer, Branch, Run, Job, no_job, no_branch, empty_place, fresh, with_last, with_master, with_cache, with_writer, with_run, run_with}
use Rattle.model.specs.Form.{well_formed}
use Rattle.model.specs.Calls.{StoreCall, open_run, fetch, prepare, step, issue, drop_run, pick, fork, join, ask, look, explain, admit}
use Rattle.model.proofs.Scripts.{ok₁, ok₃, broke, not_taken}
use Rattle.model.proofs.Readings.{same, clock, led, version, place, unforked, answered}
use Rattle.model.proofs.Computed.Explain.{leaving, edit, save, clear, path}

-- Run 0 with a job at office 0 that reads sheet 0, and one at office 1 that reads the sheets of m.
abbrev two : ℕ → StoreCall
two m = open_run 0 (0 ∷ 1 ∷ 0 ∷ 1 ∷ m ∷ 0 ∷ [])

abbrev stepped : List ℕ
stepped = ok₃ 0 0 0

-- ---- after `new 2 2 2 1`: a join goes through; what is refused for the mark

abbrev pub joins-before : List StoreCall
joins-before = save 0 0 3 ++ fetch 0 0 ∷ fetch 1 1 ∷ two 2 ∷ []

abbrev pub joins-calls : List StoreCall
joins-calls =
    fork 0 ∷ step 0 0 0 ∷ step 0 1 1 ∷ issue 0 1 1 ∷ prepare 0 ∷ join 0 ∷ fork 0 ∷ join 0
    ∷ step 0 0 1 ∷ issue 0 1 1 ∷ []

abbrev pub joins-answers : List (List ℕ)
joins-answers =
    ok₁ 0 ∷ ok₃ 0 1 0 ∷ ok₃ 0 2 0 ∷ not_taken 14 ∷ not_taken 14 ∷ ok₁ 0 ∷ not_taken 14
    ∷ not_taken 14 ∷ not_taken 14 ∷ ok₁ 2 ∷ []

-- The same run: forked with nothing done, it is refused for that before its jobs; a join, and it
-- is taken. 3 and 4 come first.
abbrev pub marks-calls : List StoreCall
marks-calls =
    join 0 ∷ ask (explain 0 0 1) ∷ fork 0 ∷ fork 0 ∷ issue 0 1 1 ∷ prepare 0 ∷ issue 0 1 4
    ∷ issue 0 2 1 ∷ fork 1 ∷ join 1 ∷ join 0 ∷ prepare 0 ∷ step 0 1 0 ∷ drop_run 0 ∷ join 0
    ∷ fork 0 ∷ two 2 ∷ fork 0 ∷ drop_run 0 ∷ two 2 ∷ prepare 0 ∷ []

abbrev pub marks-answers : List (List ℕ)
marks-answers =
    not_taken 14 ∷ not_taken 14 ∷ ok₁ 0 ∷ not_taken 14 ∷ not_taken 14 ∷ not_taken 14
    ∷ not_taken 3 ∷ not_taken 3 ∷ not_taken 3 ∷ not_taken 3 ∷ ok₁ 0 ∷ ok₁ 3 ∷ ok₃ 2 0 0 ∷ ok₁ 0
    ∷ not_taken 4 ∷ not_taken 4 ∷ ok₁ 2 ∷ ok₁ 0 ∷ ok₁ 0 ∷ ok₁ 2 ∷ ok₁ 3 ∷ []

-- ---- after `new 2 1 2 2`: one sheet in two versions; line 0 stays as it was

abbrev pub twice-before : List StoreCall
twice-before = save 0 0 1 ++ fetch 0 0 ∷ (save 0 0 1 ++ fetch 1 0 ∷ two 1 ∷ [])

abbrev pub twice-calls : List StoreCall
twice-calls =
    fork 0 ∷ step 0 0 0 ∷ step 0 1 1 ∷ join 0 ∷ ask (look 2 0 0) ∷ join 0 ∷ fork 0 ∷ step 0 0 1
    ∷ drop_run 0 ∷ open_run 0 (0 ∷ 1 ∷ 0 ∷ []) ∷ fork 0 ∷ []

abbrev pub twice-answers : List (List ℕ)
twice-answers =
    ok₁ 0 ∷ ok₃ 0 1 0 ∷ ok₃ 0 1 0 ∷ broke 1 ∷ (0 ∷ 1 ∷ 1 ∷ 1 ∷ 1 ∷ []) ∷ not_taken 4
    ∷ not_taken 4 ∷ not_taken 4 ∷ ok₁ 0 ∷ ok₁ 1 ∷ ok₁ 0 ∷ []

-- ---- after `new 2 1 2 1`: a join breaks by its rule; without a fork the steps go through

abbrev pub rule_before : List StoreCall
rule_before =
    save 0 0 1 ++ fetch 0 0 ∷ (edit 0 0 1 0 2 ++ save 0 0 1 ++ fetch 1 1 ∷ two 2 ∷ [])

abbrev pub rule_calls : List StoreCall
rule_calls = fork 0 ∷ step 0 0 0 ∷ step 0 1 1 ∷ join 0 ∷ []

abbrev pub rule_answers : List (List ℕ)
rule_answers = ok₁ 0 ∷ ok₃ 0 1 0 ∷ ok₃ 0 2 0 ∷ broke 1 ∷ []

abbrev pub unforked-calls : List StoreCall
unforked-calls = step 0 0 0 ∷ step 0 1 0 ∷ []

abbrev pub unforked-answers : List (List ℕ)
unforked-answers = ok₃ 0 1 0 ∷ ok₃ 0 2 0 ∷ []

-- ---- after `new 3 1 2 1`: each line by its own reads

-- Office 0 has the first save of 0, office 1 the second, and 1 with it.
abbrev pub own-before : List StoreCall
own-before = save 0 0 1 ++ fetch 0 0 ∷ (save 0 0 3 ++ fetch 1 1 ∷ [])

abbrev pub own-calls : List StoreCall
own-calls =
    open_run 0 (0 ∷ 1 ∷ 0 ∷ 1 ∷ 2 ∷ 0 ∷ 0 ∷ 4 ∷ 0 ∷ []) ∷ fork 0 ∷ step 0 0 1
    ∷ ask (explain 0 1 1) ∷ ask (explain 0 1 0) ∷ step 0 1 0 ∷ join 0 ∷ drop_run 0
    ∷ two 2 ∷ step 0 0 0 ∷ fork 0 ∷ step 0 1 1 ∷ step 0 1 0 ∷ []

abbrev pub own-answers : List (List ℕ)
own-answers =
    ok₁ 3 ∷ ok₁ 0 ∷ ok₃ 0 1 0 ∷ path (1 ∷ 0 ∷ []) ∷ clear ∷ ok₃ 0 2 0 ∷ broke 1 ∷ ok₁ 0
    ∷ ok₁ 2 ∷ ok₃ 0 1 0 ∷ ok₁ 0 ∷ broke 1 ∷ not_taken 4 ∷ []

-- By its own card: line 0's 0 would meet the need of 1, line 1's doesn't.
abbrev pub cards-calls : List StoreCall
cards-calls =
    open_run 0 (0 ∷ 1 ∷ 0 ∷ 1 ∷ 1 ∷ 0 ∷ 1 ∷ 2 ∷ 0 ∷ []) ∷ fork 0 ∷ step 0 0 1 ∷ step 0 1 0
    ∷ ask (explain 0 2 1) ∷ ask (explain 0 2 0) ∷ ask (look 2 0 0) ∷ step 0 2 1 ∷ []

abbrev pub cards-answers : List (List ℕ)
cards-answers =
    ok₁ 3 ∷ ok₁ 0 ∷ ok₃ 0 1 0 ∷ ok₃ 0 1 0 ∷ path (1 ∷ 0 ∷ []) ∷ clear
    ∷ (0 ∷ 2 ∷ 1 ∷ 2 ∷ 0 ∷ []) ∷ broke 1 ∷ []

-- ---- after `new 2 2 2 2`: 3, 4, 14, 6; the done mask is shared

abbrev pub orders-calls : List StoreCall
orders-calls =
    step 0 0 7 ∷ step 0 8 7 ∷ open_run 0 (0 ∷ 0 ∷ 0 ∷ 0 ∷ 0 ∷ 1 ∷ []) ∷ step 0 2 7 ∷ step 0 1 7
    ∷ ask (explain 0 1 7) ∷ step 0 0 1 ∷ ask (look 2 0 1) ∷ step 0 1 0 ∷ fork 0 ∷ step 0 0 2
    ∷ step 0 0 1 ∷ step 0 0 0 ∷ pick ∷ step 0 1 0 ∷ fork 1 ∷ fork 2 ∷ join 2 ∷ []

abbrev pub orders-answers : List (List ℕ)
orders-answers =
    not_taken 4 ∷ not_taken 3 ∷ ok₁ 2 ∷ not_taken 3 ∷ not_taken 14
    ∷ not_taken 14 ∷ not_taken 14 ∷ not_taken 8 ∷ not_taken 6 ∷ ok₁ 0 ∷ not_taken 14
    ∷ stepped ∷ not_taken 6 ∷ (0 ∷ 0 ∷ 1 ∷ []) ∷ stepped ∷ not_taken 4 ∷ not_taken 3
    ∷ not_taken 3 ∷ []

-- ---- after `new 1 1 1 1`: a look shows line 0

abbrev pub looks_script : List StoreCall
looks_script =
    save 0 0 1 ++ open_run 0 (0 ∷ 1 ∷ 0 ∷ 0 ∷ 1 ∷ 0 ∷ []) ∷ fork 0 ∷ step 0 0 1 ∷ ask (look 2 0 0)
    ∷ []

abbrev pub looks-answers : List (List ℕ)
looks-answers = ok₁ 1 ∷ stepped ∷ ok₁ 1 ∷ ok₁ 2 ∷ ok₁ 0 ∷ ok₃ 0 0 1 ∷ not_taken 8 ∷ []

-- ---- stores that no list of calls from new reaches

abbrev wrote : ℕ → List (List ℕ) → Writer
wrote n rows = record { count = n; past = λ d. clock (get_or rows d []) }

abbrev reads : List ℕ → ℕ → Job
reads l j = get_or (map (λ m. record { site = 0; reads = m; upstream = 0 }) l) j no_job

-- A forked run with jobs of these reads and this done mask.
abbrev forked : ℕ → List ℕ → ℕ → Branch → Branch → Run
forked n l finished b second =
    let a = unforked 1 n finished (reads l) b in
    run_with a 1 finished b 1 second

-- ---- words, of one sheet and one writer

abbrev branch_words : Branch → List ℕ
branch_words b =
    let v = b.snapshot 0 in
    b.read ∷ v.issue ∷ v.leaders ∷ v.past 0 0 ∷ []

-- State, number of jobs, done mask, line 0's read mask and card, mark, line 1's.
abbrev words : Run → List ℕ
words a =
    a.state ∷ a.jobs ∷ a.done ∷ (branch_words a.branch ++ a.mark ∷ branch_words a.second)

-- The one sheet, read.
abbrev one : Branch
one = record { read = 1; snapshot = place (version 1 ((1 ∷ []) ∷ []) ∷ []) }

-- The master has it; run 0 is given.
abbrev holding : Run → Store
holding a =
    with_run (with_master (with_last (fresh (counts_of 1 1 1 1)) 1) one.snapshot) 0 a

-- What a call leaves of the run.
abbrev comes : Run → StoreCall → List ℕ → Bool
comes a c expected =
    let s = holding a in
    well_formed s && same (words ((leaving (c ∷ []) s).run 0)) expected

-- A step on line 1, and one on line 0; a join of what line 1 alone has read, and of what both
-- have; a fork copies what was read.
abbrev pub kept : List Bool
kept =
    let l : List ℕ = 1 ∷ 1 ∷ [] in
    comes (forked 2 l 0 no_branch no_branch) (step 0 0 1)
    (1 ∷ 2 ∷ 1 ∷ 0 ∷ 0 ∷ 0 ∷ 0 ∷ 1 ∷ 1 ∷ 1 ∷ 1 ∷ 1 ∷ [])
    ∷ comes (forked 2 l 1 no_branch one) (step 0 1 0)
    (1 ∷ 2 ∷ 3 ∷ 1 ∷ 1 ∷ 1 ∷ 1 ∷ 1 ∷ 1 ∷ 1 ∷ 1 ∷ 1 ∷ [])
    ∷ comes (forked 2 l 1 no_branch one) (join 0)
    (1 ∷ 2 ∷ 1 ∷ 1 ∷ 1 ∷ 1 ∷ 1 ∷ 2 ∷ 0 ∷ 0 ∷ 0 ∷ 0 ∷ [])
    ∷ comes (forked 2 l 3 one one) (join 0)
    (1 ∷ 2 ∷ 3 ∷ 1 ∷ 1 ∷ 1 ∷ 1 ∷ 2 ∷ 0 ∷ 0 ∷ 0 ∷ 0 ∷ [])
    ∷ comes (unforked 1 2 1 (reads l) one) (fork 0)
    (1 ∷ 2 ∷ 1 ∷ 1 ∷ 1 ∷ 1 ∷ 1 ∷ 1 ∷ 1 ∷ 1 ∷ 1 ∷ 1 ∷ []) ∷ []

-- After the step on line 1: the mark, line 0's read mask, line 1's.
abbrev changed : ℕ → ℕ → ℕ → Bool
changed m first second =
    let a = unforked 1 2 1 (reads (1 ∷ 1 ∷ [])) no_branch in
    well_formed (holding (run_with a 1 1 (record { read = first; snapshot = empty_place }) m
    (record { read = second; snapshot = one.snapshot })))

abbrev pub unkept : List Bool
unkept =
    changed 1 0 1 ∷ map not (changed 0 0 1 ∷ changed 2 0 1 ∷ changed 3 0 1 ∷ changed 1 1 1
    ∷ changed 1 0 0 ∷ [])

-- Rows are equal, but the merge has leaders 3: it breaks, and only the state changes.
abbrev leading : ℕ → Branch
leading m = record { read = 1; snapshot = place (led m 2 ((1 ∷ 1 ∷ []) ∷ []) ∷ []) }

abbrev rivals : Store
rivals =
    let p = place (led 3 2 ((1 ∷ 1 ∷ []) ∷ []) ∷ []) in
    let s = with_cache (with_master (with_last (fresh (counts_of 1 2 1 1)) 2) p) 0 p in
    with_run (with_writer (with_writer s 0 (wrote 1 ((1 ∷ 0 ∷ []) ∷ []))) 1 (wrote 1 [])) 0
    (forked 2 (1 ∷ 1 ∷ []) 3 (leading 1) (leading 2))

abbrev pub leaders : List Bool
leaders =
    let a = (leaving (join 0 ∷ []) rivals).run 0 in
    answered rivals (ask admit) (ok₁ 0) ∷ answered rivals (join 0) (broke 1)
    ∷ same (words a) (2 ∷ 2 ∷ 3 ∷ 1 ∷ 2 ∷ 1 ∷ 1 ∷ 1 ∷ 1 ∷ 2 ∷ 2 ∷ 1 ∷ []) ∷ []

-- Line 1 has sheet 1, which needs 0 at 1; the plan is m.
abbrev lent : ℕ → List Version → Store
lent m card =
    let p = place (version 1 ((1 ∷ []) ∷ []) ∷ version 2 ((1 ∷ []) ∷ (2 ∷ []) ∷ []) ∷ []) in
    let s = with_master (with_last (fresh (counts_of 2 1 1 1)) 2) p in
    with_run (with_writer s 0 (wrote 2 ((1 ∷ []) ∷ (2 ∷ []) ∷ []))) 0
    (forked 1 (m ∷ []) 0 no_branch (record { read = 0; snapshot = place card }))

-- Admission asks it of line 1: that the need is met; a number above the last; a row above the
-- master's.
abbrev pub lines : List Bool
lines =
    let one = version 1 ((1 ∷ []) ∷ []) in
    let other = version 2 ((1 ∷ []) ∷ (2 ∷ []) ∷ []) in
    map (λ s. answered s (ask admit) (ok₁ 0))
    (lent 3 (one ∷ other ∷ []) ∷ lent 2 (unheld ∷ other ∷ []) ∷ [])
    ++ map (λ s. answered s (ask admit) (not_taken 11))
    (lent 3 (unheld ∷ other ∷ []) ∷ lent 3 (version 3 ((1 ∷ []) ∷ []) ∷ [])
    ∷ lent 3 (version 1 ((2 ∷ []) ∷ []) ∷ []) ∷ [])
