-- CR 12's forecasts by examples (`Computed/Foretold` proves that they pass): scripts, and what
-- they answer; what the steps leave.
-- breaks-, turned-, prepared-, joined-, order-..: scripts. left: what the steps leave.
-- Assumes nothing.
use mathlib.Core.Bool.{Bool}
use mathlib.Core.List.{List, [], ◌∷◌, ◌++◌}
use Prim.Native.Nat.{ℕ, zero, suc}
use Rattle.sizes.specs.Bounds.{counts_of}
use Rattle.model.specs.Store.{Store, Job, no_job, no_branch, fresh, site_allowed, with_last, with_master, with_site, with_cache, with_run}
use Rattle.model.specs.Form.{well_formed}
use Rattle.model.specs.Calls.Forecast.{forecast_walk}
use Rattle.model.specs.Calls.{StoreCall, open_run, fetch, prepare, step, issue, allow, mayhold, fork, join, ask, forecast}
use Rattle.model.proofs.Scripts.{ok₁, ok₃, not_taken}
use Rattle.model.proofs.Readings.{version, place, unforked, answered}
use Rattle.model.proofs.Computed.Explain.{save}

-- The answers.
abbrev through : List ℕ
through = 6 ∷ []

abbrev breaks : ℕ → ℕ → List ℕ
breaks j m = 7 ∷ j ∷ m ∷ []

abbrev turned : ℕ → ℕ → List ℕ
turned j n = 8 ∷ j ∷ n ∷ []

-- Office 0 has the first save of 0; the second one is of 0 and 1.
abbrev pub before : List StoreCall
before = save 0 0 1 ++ fetch 0 0 ∷ save 0 0 3

-- ---- after `new 3 1 2 1`, of 127 words

-- Job 1 would break, and job 2 be turned down, but later; another order goes through, and nothing
-- was fetched by the forecast.
abbrev pub breaks-calls : List StoreCall
breaks-calls =
    open_run 0 (0 ∷ 1 ∷ 0 ∷ 1 ∷ 2 ∷ 0 ∷ 1 ∷ 4 ∷ 0 ∷ []) ∷ ask (forecast 127 0) ∷ step 0 1 0
    ∷ ask (forecast 127 0) ∷ step 0 0 0 ∷ []

abbrev pub breaks-answers : List (List ℕ)
breaks-answers = ok₁ 3 ∷ breaks 1 1 ∷ ok₃ 0 0 2 ∷ turned 2 7 ∷ ok₃ 1 0 0 ∷ []

-- Turned down before the break at job 2.
abbrev pub turned-calls : List StoreCall
turned-calls =
    open_run 0 (1 ∷ 4 ∷ 0 ∷ 0 ∷ 1 ∷ 0 ∷ 1 ∷ 2 ∷ 0 ∷ []) ∷ ask (forecast 127 0) ∷ step 0 1 0
    ∷ step 0 2 0 ∷ []

abbrev pub turned-answers : List (List ℕ)
turned-answers = ok₁ 3 ∷ turned 0 7 ∷ ok₃ 0 1 0 ∷ (1 ∷ 1 ∷ []) ∷ []

-- ---- after `new 2 1 2 2`, of 137 words

abbrev two : List ℕ
two = 0 ∷ 1 ∷ 0 ∷ 1 ∷ 2 ∷ 1 ∷ []

-- A prepared run goes through, or lacks a right; none left; not open; no such run.
abbrev pub prepared-calls : List StoreCall
prepared-calls =
    open_run 0 two ∷ prepare 0 ∷ ask (forecast 137 0) ∷ mayhold 1 0 ∷ ask (forecast 137 0)
    ∷ mayhold 1 3 ∷ step 0 0 0 ∷ step 0 1 0 ∷ ask (forecast 137 0) ∷ issue 0 0 0
    ∷ ask (forecast 137 0) ∷ ask (forecast 137 2) ∷ []

abbrev pub prepared-answers : List (List ℕ)
prepared-answers =
    ok₁ 2 ∷ ok₁ 3 ∷ through ∷ ok₁ 0 ∷ turned 1 13 ∷ ok₁ 0 ∷ ok₃ 1 0 0 ∷ ok₃ 2 0 0 ∷ through
    ∷ ok₁ 0 ∷ not_taken 4 ∷ not_taken 3 ∷ []

-- A forked run is refused, a joined one isn't; no room.
abbrev pub joined-calls : List StoreCall
joined-calls =
    open_run 0 (0 ∷ 3 ∷ 0 ∷ []) ∷ fork 0 ∷ ask (forecast 137 0) ∷ join 0 ∷ ask (forecast 137 0)
    ∷ allow 0 1 ∷ ask (forecast 137 0) ∷ []

abbrev pub joined-answers : List (List ℕ)
joined-answers =
    ok₁ 1 ∷ ok₁ 0 ∷ not_taken 14 ∷ ok₁ 0 ∷ through ∷ ok₁ 0 ∷ turned 0 12 ∷ []

-- 1 before 3, 4 and 14, 4 before 14: a scratch one word short, one of the total, one with more.
abbrev pub order-calls : List StoreCall
order-calls =
    ask (forecast 136 2) ∷ ask (forecast 136 0) ∷ ask (forecast 137 0) ∷ open_run 0 two
    ∷ ask (forecast 136 0) ∷ ask (forecast 138 0) ∷ fork 0 ∷ ask (forecast 0 0)
    ∷ ask (forecast 137 0) ∷ step 0 1 0 ∷ []

abbrev pub order-answers : List (List ℕ)
order-answers =
    not_taken 1 ∷ not_taken 1 ∷ not_taken 4 ∷ ok₁ 2 ∷ not_taken 1 ∷ breaks 1 1 ∷ ok₁ 0
    ∷ not_taken 1 ∷ not_taken 14 ∷ not_taken 6 ∷ []

-- ---- after `new 2 1 2 1`: what the steps leave

-- The store after `before`, but for its writer: office 1 has nothing. Job 1 of run 0 would break.
abbrev jobs : ℕ → Job
jobs zero = record { site = 0; reads = 1; upstream = 0 }
jobs (suc zero) = record { site = 1; reads = 2; upstream = 0 }
jobs (suc (suc j)) = no_job

abbrev opened : ℕ → Store
opened room =
    let new = version 2 ((2 ∷ []) ∷ (2 ∷ []) ∷ []) in
    let s = with_master (with_last (fresh (counts_of 2 1 2 1)) 2) (place (new ∷ new ∷ [])) in
    let t = with_cache s 0 (place (version 1 ((1 ∷ []) ∷ []) ∷ [])) in
    with_run (with_site t 1 (site_allowed (t.site 1) room)) 0 (unforked 1 2 0 jobs no_branch)

-- State, number of jobs, done mask, read mask, the numbers of 0 and 1 on the card, and on the
-- shelf of office 1.
abbrev words : Store → List ℕ
words s =
    let a = s.run 0 in
    let p = a.branch.snapshot in
    let q = (s.site 1).cache in
    a.state ∷ a.jobs ∷ a.done ∷ a.branch.read ∷ (p 0).issue ∷ (p 1).issue ∷ (q 0).issue
    ∷ (q 1).issue ∷ []

-- A break leaves state 2, and nothing of the fetch; a job that is turned down (12 here) what the
-- one before it left.
abbrev pub left : List (List ℕ)
left = words (forecast_walk 0 (opened 2)).store ∷ words (forecast_walk 0 (opened 1)).store ∷ []

abbrev pub left-words : List (List ℕ)
left-words =
    (2 ∷ 2 ∷ 1 ∷ 1 ∷ 1 ∷ 0 ∷ 0 ∷ 0 ∷ []) ∷ (1 ∷ 2 ∷ 1 ∷ 1 ∷ 1 ∷ 0 ∷ 0 ∷ 0 ∷ []) ∷ []

abbrev pub left-formed : List Bool
left-formed =
    well_formed (opened 2) ∷ answered (opened 2) (ask (forecast 102 0)) (breaks 1 1)
    ∷ answered (opened 1) (ask (forecast 102 0)) (turned 1 12) ∷ []
