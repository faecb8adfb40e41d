-- Scripts in which a job is explained, and the answers to their last calls: worked out by hand,
-- computed in module Computed.
-- told_after: the answers to some calls after others. passing .. refusing: the scripts.
-- Assumes nothing.
use mathlib.Core.List.{List, [], ◌∷◌, ◌++◌}
use Prim.Native.Nat.{ℕ}
use Rattle.model.specs.Store.{Store}
use Rattle.model.specs.Calls.{StoreCall, open_run, fetch, step, issue, ask, look, explain, rule_of}
use Rattle.model.proofs.Outcomes.{next_store}
use Rattle.model.proofs.Scripts.{answers, ok₁, ok₃, broke, not_taken}

abbrev pub leaving : List StoreCall → Store → Store
leaving [] s = s
leaving (c ∷ cs) s = leaving cs (next_store (rule_of c s) s)

-- The answers to some calls after others.
abbrev pub told_after : List StoreCall → List StoreCall → Store → List (List ℕ)
told_after before calls s = answers calls (leaving before s)

abbrev pub clear : List ℕ
clear = 3 ∷ []

abbrev pub path : List ℕ → List ℕ
path l = 4 ∷ l

-- A run reads the keys of m at site o, and issues S by writer w.
abbrev pub edit : ℕ → ℕ → ℕ → ℕ → ℕ → List StoreCall
edit r o m w S = open_run r (o ∷ m ∷ 0 ∷ []) ∷ step r 0 0 ∷ issue r w S ∷ []

-- The same, with nothing read.
abbrev pub save : ℕ → ℕ → ℕ → List StoreCall
save r w S = edit r 0 0 w S

-- ---- after `new 3 4 2 2`: 2 needs an older 1; the fetched 1 is newer and needs the new 0

abbrev pub passing-before : List ℕ → List StoreCall
passing-before jobs =
    save 1 0 1 ++ open_run 0 jobs ∷ step 0 0 0 ∷ (save 1 1 2 ++ edit 1 0 2 2 4 ++ edit 1 0 1 3 3)

abbrev pub passing-calls : List StoreCall
passing-calls =
    ask (explain 0 1 0) ∷ ask (explain 0 2 0) ∷ ask (look 1 1 2) ∷ step 0 1 0
    ∷ ask (explain 0 1 0) ∷ []

abbrev pub passing-answers : List (List ℕ)
passing-answers =
    path (2 ∷ 1 ∷ 0 ∷ []) ∷ path (1 ∷ 0 ∷ []) ∷ not_taken 8 ∷ broke 1 ∷ not_taken 4 ∷ []

-- Where 1 isn't in the plan, nothing is drawn.
abbrev pub unplanned-calls : List StoreCall
unplanned-calls = ask (explain 0 1 0) ∷ step 0 1 0 ∷ []

abbrev pub unplanned-answers : List (List ℕ)
unplanned-answers = clear ∷ ok₃ 0 0 4 ∷ []

-- ---- after `new 4 5 2 2`: of 3 1 0 and 3 2 0 the one whose keys are planned

abbrev pub planned-before : List StoreCall
planned-before =
    save 1 0 1 ++ open_run 0 (0 ∷ 1 ∷ 0 ∷ 1 ∷ 8 ∷ 0 ∷ 1 ∷ 4 ∷ 0 ∷ []) ∷ step 0 0 0
    ∷ (save 1 1 2 ++ save 1 2 4 ++ edit 1 0 6 3 8 ++ edit 1 0 1 4 7)

abbrev pub planned-calls : List StoreCall
planned-calls = ask (explain 0 1 0) ∷ step 0 1 0 ∷ []

abbrev pub planned-answers : List (List ℕ)
planned-answers = path (3 ∷ 2 ∷ 0 ∷ []) ∷ broke 1 ∷ []

-- ---- after `new 5 5 2 2`: of 3 2 0 and 3 1 4 the second

abbrev pub ends-before : List StoreCall
ends-before =
    save 1 0 1 ++ save 1 1 16
    ++ open_run 0 (0 ∷ 17 ∷ 0 ∷ 1 ∷ 8 ∷ 0 ∷ 1 ∷ 6 ∷ 0 ∷ []) ∷ step 0 0 0
    ∷ (save 1 2 2 ++ save 1 3 4 ++ edit 1 0 6 4 8 ++ edit 1 0 16 1 18 ++ edit 1 0 1 0 5)

abbrev pub ends-calls : List StoreCall
ends-calls = ask (explain 0 1 0) ∷ ask (explain 0 2 0) ∷ step 0 1 0 ∷ []

abbrev pub ends-answers : List (List ℕ)
ends-answers = path (3 ∷ 1 ∷ 4 ∷ []) ∷ path (1 ∷ 4 ∷ []) ∷ broke 17 ∷ []

-- ---- after `new 4 5 2 2`: 2 1 0 begins lower than 3 0 and is longer

abbrev pub longer-before : List StoreCall
longer-before =
    save 1 0 1 ++ open_run 0 (0 ∷ 1 ∷ 0 ∷ 1 ∷ 12 ∷ 0 ∷ 1 ∷ 2 ∷ 0 ∷ []) ∷ step 0 0 0
    ∷ (save 1 1 2 ++ edit 1 0 2 2 4 ++ edit 1 0 1 3 3 ++ edit 1 0 1 4 9)

abbrev pub longer-calls : List StoreCall
longer-calls = ask (explain 0 1 0) ∷ []

abbrev pub longer-answers : List (List ℕ)
longer-answers = path (3 ∷ 0 ∷ []) ∷ []

-- ---- after `new 3 4 2 2`: 2 needs 1 and the 0 that was read; that need is met, so 2 0 is no path

abbrev pub met-before : List StoreCall
met-before =
    save 1 0 1 ++ open_run 0 (0 ∷ 1 ∷ 0 ∷ 1 ∷ 4 ∷ 0 ∷ 1 ∷ 2 ∷ 0 ∷ []) ∷ step 0 0 0
    ∷ (save 1 1 2 ++ edit 1 0 3 2 4 ++ edit 1 0 1 3 3)

abbrev pub met-calls : List StoreCall
met-calls = ask (explain 0 1 0) ∷ step 0 1 0 ∷ []

abbrev pub met-answers : List (List ℕ)
met-answers = path (2 ∷ 1 ∷ 0 ∷ []) ∷ broke 1 ∷ []

-- ---- after `new 4 5 2 2`: through a key that is carried, unread and too old

-- After jobs 0 and 1 of the list.
abbrev pub carried-before : List ℕ → List StoreCall
carried-before jobs =
    save 1 0 1 ++ save 1 1 2 ++ edit 1 0 2 2 8
    ++ open_run 0 jobs ∷ step 0 0 0 ∷ step 0 1 0
    ∷ (save 1 1 2 ++ edit 1 1 2 3 4 ++ edit 1 0 1 4 3 ++ fetch 1 1 ∷ [])

abbrev pub carried-calls : List StoreCall
carried-calls = ask (explain 0 2 0) ∷ ask (explain 0 3 0) ∷ step 0 3 0 ∷ []

abbrev pub carried-answers : List (List ℕ)
carried-answers = path (2 ∷ 1 ∷ 0 ∷ []) ∷ clear ∷ ok₃ 2 0 0 ∷ []

-- Where job 2 reads that key too, it isn't the first: the card doesn't lack it.
abbrev pub old-read-calls : List StoreCall
old-read-calls = ask (explain 0 2 0) ∷ step 0 2 0 ∷ []

abbrev pub old-read-answers : List (List ℕ)
old-read-answers = path (2 ∷ 1 ∷ 0 ∷ []) ∷ broke 1 ∷ []

-- ---- after `new 2 2 1 2`: what step refuses, by the same numbers

abbrev pub refusing-calls : List StoreCall
refusing-calls =
    ask (explain 0 7 0) ∷ ask (explain 0 8 0) ∷ ask (explain 2 0 0)
    ∷ open_run 0 (0 ∷ 1 ∷ 0 ∷ 0 ∷ 2 ∷ 1 ∷ []) ∷ ask (explain 0 0 0) ∷ ask (explain 0 1 0)
    ∷ ask (explain 0 2 0)
    ∷ open_run 1 (0 ∷ 0 ∷ 0 ∷ []) ∷ ask (explain 1 0 0) ∷ step 1 0 0 ∷ issue 1 0 1
    ∷ ask (explain 0 0 0) ∷ step 0 0 0 ∷ ask (explain 0 0 0) ∷ ask (explain 0 1 0) ∷ []

abbrev pub refusing-answers : List (List ℕ)
refusing-answers =
    not_taken 4 ∷ not_taken 3 ∷ not_taken 3 ∷ ok₁ 2
    ∷ not_taken 7 ∷ not_taken 6 ∷ not_taken 3
    ∷ ok₁ 1 ∷ clear ∷ ok₃ 0 0 0 ∷ ok₁ 1 ∷ clear
    ∷ ok₃ 0 0 1 ∷ not_taken 6 ∷ not_taken 7 ∷ []
