-- CR 7's allowances by examples (`Computed` proves that they pass).
-- hidden-, held-, jobs-, any-, first-, sites-, kept-..: scripts, and what they answer. bounded:
-- stores in form or not.
-- Assumes nothing.
use mathlib.Core.Bool.{Bool, not}
use mathlib.Core.List.{List, [], ◌∷◌, ◌++◌}
use Prim.Native.Nat.{ℕ}
use Rattle.sizes.specs.Bounds.{counts_of}
use Rattle.model.specs.Store.{fresh, site_allowed, with_master, with_site, with_cache}
use Rattle.model.specs.Form.{well_formed}
use Rattle.model.specs.Calls.{StoreCall, open_run, fetch, evict, prepare, step, issue, allow, ask, look, explain}
use Rattle.model.proofs.Scripts.{ok₁, ok₃, broke, not_taken}
use Rattle.model.proofs.Readings.{version, place}

-- Run r reads nothing, and writer w saves the sheets of S.
abbrev saves : ℕ → ℕ → ℕ → List StoreCall
saves r w S = open_run r (0 ∷ 0 ∷ 0 ∷ []) ∷ step r 0 0 ∷ issue r w S ∷ []

abbrev saved : ℕ → List (List ℕ)
saved n = ok₁ 1 ∷ ok₃ 0 0 0 ∷ ok₁ n ∷ []

-- After `new 2 1 2 2`: a step whose fetch doesn't fit is refused though it would break, and its
-- run stays open.
abbrev pub hidden_script : List StoreCall
hidden_script =
    saves 0 0 1 ++ open_run 0 (0 ∷ 1 ∷ 0 ∷ 1 ∷ 2 ∷ 0 ∷ []) ∷ step 0 0 0
    ∷ (saves 1 0 3 ++ allow 1 1 ∷ ask (explain 0 1 0) ∷ step 0 1 0 ∷ fetch 1 1
    ∷ allow 1 2 ∷ ask (explain 0 1 0) ∷ step 0 1 0 ∷ ask (look 1 1 1) ∷ [])

abbrev pub hidden-answers : List (List ℕ)
hidden-answers =
    saved 1 ++ ok₁ 2 ∷ ok₃ 0 0 1
    ∷ (saved 2 ++ ok₁ 0 ∷ not_taken 12 ∷ not_taken 12 ∷ not_taken 12
    ∷ ok₁ 0 ∷ (4 ∷ 1 ∷ 0 ∷ []) ∷ broke 1 ∷ not_taken 8 ∷ [])

-- After `new 3 1 1 2`: what would be held counts, not T; an evict frees places.
abbrev pub held_script : List StoreCall
held_script =
    saves 0 0 3 ++ (saves 0 0 4 ++ allow 0 4 ∷ allow 1 0 ∷ allow 0 1 ∷ fetch 0 0 ∷ allow 0 2
    ∷ fetch 0 0 ∷ fetch 0 0 ∷ fetch 0 2 ∷ allow 0 1 ∷ allow 0 2 ∷ evict 0 1 ∷ allow 0 0 ∷ [])

abbrev pub held-answers : List (List ℕ)
held-answers =
    saved 1 ++ (saved 2 ++ not_taken 3 ∷ not_taken 3 ∷ ok₁ 0 ∷ not_taken 12 ∷ ok₁ 0
    ∷ ok₁ 3 ∷ ok₁ 1 ∷ not_taken 12 ∷ not_taken 12 ∷ ok₁ 0 ∷ ok₁ 3 ∷ ok₁ 0 ∷ [])

-- After `new 4 2 2 2`: two jobs at an office, each of which would fit alone; 7 before 12.
abbrev pub jobs_script : List StoreCall
jobs_script =
    saves 0 0 1 ++ (saves 0 1 2 ++ allow 0 1 ∷ open_run 0 (0 ∷ 1 ∷ 0 ∷ 0 ∷ 2 ∷ 0 ∷ [])
    ∷ prepare 0 ∷ ask (look 1 0 0) ∷ step 0 0 0 ∷ step 0 1 0 ∷ evict 0 0 ∷ step 0 1 0
    ∷ open_run 1 (0 ∷ 4 ∷ 0 ∷ 0 ∷ 3 ∷ 0 ∷ []) ∷ prepare 1 ∷ fetch 0 3 ∷ [])

abbrev pub jobs-answers : List (List ℕ)
jobs-answers =
    saved 1 ++ (saved 2 ++ ok₁ 0 ∷ ok₁ 2 ∷ not_taken 12 ∷ not_taken 8 ∷ ok₃ 0 0 1 ∷ not_taken 12
    ∷ ok₁ 1 ∷ ok₃ 0 0 2 ∷ ok₁ 2 ∷ not_taken 7 ∷ not_taken 7 ∷ [])

-- After `new 2 1 2 1`: one office over its allowance, and no office takes a sheet; what another
-- shelf holds isn't asked of an allowance.
abbrev pub any_script : List StoreCall
any_script =
    saves 0 0 3 ++ allow 1 1 ∷ open_run 0 (0 ∷ 3 ∷ 0 ∷ 1 ∷ 3 ∷ 0 ∷ []) ∷ prepare 0
    ∷ ask (look 1 0 0) ∷ allow 1 2 ∷ prepare 0 ∷ evict 1 0 ∷ allow 1 0 ∷ []

abbrev pub any-answers : List (List ℕ)
any-answers =
    saved 1 ++ ok₁ 0 ∷ ok₁ 2 ∷ not_taken 12 ∷ not_taken 8 ∷ ok₁ 0 ∷ ok₁ 3 ∷ ok₁ 3 ∷ ok₁ 0 ∷ []

-- After `new 2 1 1 1`: 7 before 12 in a step, and where it is explained.
abbrev pub first_script : List StoreCall
first_script =
    saves 0 0 1 ++ allow 0 0 ∷ open_run 0 (0 ∷ 3 ∷ 0 ∷ []) ∷ ask (explain 0 0 0) ∷ step 0 0 0 ∷ []

abbrev pub first-answers : List (List ℕ)
first-answers = saved 1 ++ ok₁ 0 ∷ ok₁ 1 ∷ not_taken 7 ∷ not_taken 7 ∷ []

-- After `new 2 1 2 1`: 7 of one office before 12 of another.
abbrev pub sites_script : List StoreCall
sites_script =
    saves 0 0 1 ++ allow 0 0 ∷ open_run 0 (0 ∷ 1 ∷ 0 ∷ 1 ∷ 2 ∷ 0 ∷ []) ∷ prepare 0 ∷ []

abbrev pub sites-answers : List (List ℕ)
sites-answers = saved 1 ++ ok₁ 0 ∷ ok₁ 2 ∷ not_taken 7 ∷ []

-- After `new 2 1 1 2`: an issue, an evict and a prepare leave the allowance.
abbrev pub kept_script : List StoreCall
kept_script =
    allow 0 1 ∷ (saves 1 0 1 ++ fetch 0 0 ∷ (saves 1 0 2 ++ fetch 0 1 ∷ evict 0 0 ∷ fetch 0 1
    ∷ open_run 0 (0 ∷ 1 ∷ 0 ∷ []) ∷ prepare 0 ∷ fetch 0 1 ∷ []))

abbrev pub kept-answers : List (List ℕ)
kept-answers =
    ok₁ 0 ∷ (saved 1 ++ ok₁ 1 ∷ (saved 2 ++ not_taken 12 ∷ ok₁ 1 ∷ not_taken 12
    ∷ ok₁ 1 ∷ ok₁ 1 ∷ not_taken 12 ∷ []))

-- A shelf with a sheet of two: an allowance of 1 and of 2 are in form, 0 and 3 aren't.
abbrev allowed : ℕ → Bool
allowed n =
    let p = place (version 1 ((1 ∷ 0 ∷ []) ∷ []) ∷ []) in
    let s = with_cache (with_master (fresh (counts_of 2 2 2 1)) p) 1 p in
    well_formed (with_site s 1 (site_allowed (s.site 1) n))

abbrev pub bounded : List Bool
bounded = allowed 1 ∷ allowed 2 ∷ not (allowed 0) ∷ not (allowed 3) ∷ []
