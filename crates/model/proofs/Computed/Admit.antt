-- CR 6's admission by examples (`Computed` proves that they pass), on stores that no list of calls
-- from new reaches.
-- taken, turned_down: one store with one thing changed. listed-..: needs aren't chained through
-- another copy's list. past-..: a writer's past stands behind its next issue.
-- Assumes nothing.
use mathlib.Core.Bool.{Bool, ◌&&◌}
use mathlib.Core.List.{List, [], ◌∷◌, ◌++◌, map}
use Prim.Native.Nat.{ℕ}
use lib.ListN.{get_or}
use Rattle.sizes.specs.Bounds.{counts_of}
use Rattle.model.specs.Version.{Version, unheld}
use Rattle.model.specs.Store.{Store, Writer, Run, Job, no_job, fresh, with_last, with_marks, with_master, with_cache, with_writer, with_run}
use Rattle.model.specs.Calls.{StoreCall, fetch, step, issue, ask, look, explain, admit}
use Rattle.model.proofs.Computed.Explain.{leaving, save, clear, path}
use Rattle.model.proofs.Scripts.{ok₁, ok₃, broke, not_taken}
use Rattle.model.proofs.Readings.{same, clock, version, place, unforked, answered}

-- A writer with this count and these rows.
abbrev wrote : ℕ → List (List ℕ) → Writer
wrote n rows = record { count = n; past = λ d. clock (get_or rows d []) }

-- A run at office 0, a job for each mask of reads.
abbrev reads : List ℕ → ℕ → Job
reads l j = get_or (map (λ m. record { site = 0; reads = m; upstream = 0 }) l) j no_job

-- ---- one store, and one change each

-- Sheet 1 needs sheet 0 at 1; master and shelf have both, the card has 1 alone: 0 isn't planned.
abbrev both : ℕ → List Version
both n = version 1 ((n ∷ []) ∷ []) ∷ version 2 ((1 ∷ []) ∷ (2 ∷ []) ∷ []) ∷ []

-- A run in this state with one job, and this version of 1 on its card.
abbrev carrying : ℕ → ℕ → Version → Run
carrying state m v =
    unforked state 1 0 (reads (m ∷ []))
    (record { read = 0; snapshot = place (unheld ∷ v ∷ []) })

abbrev card : Version
card = version 2 ((1 ∷ []) ∷ (2 ∷ []) ∷ [])

abbrev desk : Store
desk =
    let s = with_master (with_last (fresh (counts_of 2 1 1 1)) 2) (place (both 1)) in
    with_run (with_writer (with_cache s 0 (place (both 1))) 0 (wrote 2
    ((1 ∷ []) ∷ (2 ∷ []) ∷ []))) 0
    (carrying 1 2 card)

-- The master's row of sheet 0 is n; the shelf's mark follows.
abbrev ahead : ℕ → Store
ahead n = with_marks (with_master desk (place (both n)))

-- As it is; the last number above all; a writer whose past lacks its own save; a larger issue
-- number on the shelf; the master ahead of the shelf.
abbrev pub taken : List Bool
taken =
    let shelf = place (version 2 ((1 ∷ []) ∷ []) ∷ version 2 ((1 ∷ []) ∷ (2 ∷ []) ∷ []) ∷ []) in
    map (λ s. answered s (ask admit) (ok₁ 0))
    (desk ∷ with_last desk 3 ∷ with_writer desk 0 (wrote 2 ([] ∷ (2 ∷ []) ∷ []))
    ∷ with_cache desk 0 shelf ∷ ahead 2 ∷ [])

-- 11, and no other call is refused for it.
abbrev only_here : Store → Bool
only_here s = answered s (ask admit) (not_taken 11) && answered s (fetch 0 0) (ok₁ 1)

-- A number above the last; a count above the writer's; a writer's past above the master's row; a
-- shelf that is no cut; a card that lacks a planned need, of an open and of a broken run; a number
-- and a row on the card; the master's own row above the writer's count.
abbrev pub turned_down : List Bool
turned_down =
    map only_here
    (with_last desk 1 ∷ with_writer desk 0 (wrote 1 ((1 ∷ []) ∷ (2 ∷ []) ∷ []))
    ∷ with_writer desk 0 (wrote 2 ((2 ∷ []) ∷ (2 ∷ []) ∷ []))
    ∷ with_cache desk 0 (place (unheld ∷ version 2 ((1 ∷ []) ∷ (2 ∷ []) ∷ []) ∷ []))
    ∷ with_run desk 0 (carrying 1 3 card) ∷ with_run desk 0 (carrying 2 3 card)
    ∷ with_run desk 0 (carrying 1 2 (version 3 ((1 ∷ []) ∷ (2 ∷ []) ∷ [])))
    ∷ with_run desk 0 (carrying 1 2 (version 2 ((2 ∷ []) ∷ (2 ∷ []) ∷ [])))
    ∷ ahead 3 ∷ [])

-- ---- not chained: the master's 1 needs 0 at 2, its 2 lists 1 and 0 at n

abbrev pub listed : ℕ → Store
listed n =
    let master = version 2 ((2 ∷ []) ∷ []) ∷ version 3 ((2 ∷ []) ∷ (1 ∷ []) ∷ [])
    ∷ version 1 ((n ∷ []) ∷ (1 ∷ []) ∷ (1 ∷ []) ∷ []) ∷ [] in
    let s = with_master (with_last (fresh (counts_of 3 1 1 1)) 3) (place master) in
    with_run (with_writer s 0 (wrote 2 [])) 0 (unforked 1 2 1 (reads (1 ∷ 4 ∷ []))
    (record { read = 1; snapshot = place (version 1 ((1 ∷ []) ∷ []) ∷ []) }))

abbrev pub listed-calls : List StoreCall
listed-calls =
    ask admit ∷ ask (explain 0 1 0) ∷ step 0 1 0 ∷ ask (look 2 0 0) ∷ issue 0 0 2 ∷ ask admit ∷ []

abbrev pub listed-answers : List (List ℕ)
listed-answers =
    ok₁ 0 ∷ clear ∷ ok₃ 0 0 4 ∷ (0 ∷ 1 ∷ 1 ∷ 1 ∷ 1 ∷ []) ∷ ok₁ 4 ∷ ok₁ 0 ∷ []

-- The rows of the master's 1 and of the writer's past after these calls.
abbrev pub listed-rows : List Bool
listed-rows =
    let s = leaving (step 0 1 0 ∷ issue 0 0 2 ∷ []) (listed 0) in
    let v = s.master 1 in
    let w = s.writer 0 in
    same (v.past 0 0 ∷ v.past 1 0 ∷ v.past 2 0 ∷ []) (2 ∷ 3 ∷ 1 ∷ [])
    ∷ same (w.past 0 0 ∷ w.past 1 0 ∷ w.past 2 0 ∷ []) (1 ∷ 3 ∷ 1 ∷ []) ∷ []

-- With 0 at 2 in the list of the master's 2 itself.
abbrev pub broken-calls : List StoreCall
broken-calls = ask admit ∷ ask (explain 0 1 0) ∷ step 0 1 0 ∷ []

abbrev pub broken-answers : List (List ℕ)
broken-answers = ok₁ 0 ∷ path (2 ∷ 0 ∷ []) ∷ broke 1 ∷ []

-- ---- a writer's past: writer 1 has seen sheet 0, writer 0's past is empty

abbrev pub written : Store
written =
    let s = with_master (with_last (fresh (counts_of 2 2 1 1)) 3)
    (place (version 3 ((2 ∷ 0 ∷ []) ∷ []) ∷ [])) in
    with_writer (with_writer s 0 (wrote 2 [])) 1 (wrote 1 ((2 ∷ 0 ∷ []) ∷ []))

-- Writer w saves sheet 1, which has read nothing.
abbrev pub past-calls : ℕ → List StoreCall
past-calls w = ask admit ∷ (save 0 w 2 ++ ask (look 0 0 1) ∷ fetch 0 1 ∷ [])

abbrev pub past-answers : List (List ℕ)
past-answers =
    ok₁ 0 ∷ ok₁ 1 ∷ ok₃ 0 0 0 ∷ ok₁ 4 ∷ (0 ∷ 4 ∷ 2 ∷ 0 ∷ 2 ∷ 0 ∷ []) ∷ ok₁ 3 ∷ []

abbrev pub own-answers : List (List ℕ)
own-answers =
    ok₁ 0 ∷ ok₁ 1 ∷ ok₃ 0 0 0 ∷ ok₁ 4 ∷ (0 ∷ 4 ∷ 1 ∷ 3 ∷ 0 ∷ 0 ∷ []) ∷ ok₁ 2 ∷ []
