-- CR 9's rights by examples (`Later` proves that they pass).
-- taken-, first-, lacked-, carried-, saved-, last-..: scripts, and what they answer. uncut-..: a
-- shelf that is no cut. order-, full-: which refusal comes first. mark-: the stale mark. second-:
-- the second office. formed: stores in form or not. words: masks of 32 sheets.
-- Assumes nothing.
use mathlib.Core.Bool.{Bool, not}
use mathlib.Core.List.{List, [], ◌∷◌, ◌++◌}
use Prim.Native.Nat.{ℕ}
use Rattle.masks.specs.Mask.{test_bit}
use Rattle.clock.specs.Count.{max_word}
use Rattle.sizes.specs.Bounds.{counts_of}
use Rattle.model.specs.Version.{unheld}
use Rattle.model.specs.Tail.{barred}
use Rattle.model.specs.Store.{Store, fresh, with_last, with_master, with_cache, with_may_hold, with_may_save}
use Rattle.model.specs.Form.{rights_formed, well_formed}
use Rattle.model.specs.Calls.{StoreCall, open_run, fetch, prepare, step, issue, drop_run, allow, pick, mayhold, maysave, ask, look, explain, stale}
use Rattle.model.proofs.Computed.Explain.{edit, save}
use Rattle.model.proofs.Scripts.{ok₁, ok₃, not_taken}
use Rattle.model.proofs.Readings.{version, place}

-- The answers to a save.
abbrev saved : ℕ → List (List ℕ)
saved n = ok₁ 1 ∷ ok₃ 0 0 0 ∷ ok₁ n ∷ []

-- A look at a version of one writer that is the master's: its number, and its count.
abbrev shown : ℕ → ℕ → List ℕ
shown n c = 0 ∷ n ∷ 1 ∷ c ∷ 0 ∷ []

-- After `new 3 1 2 1`: 0 is taken from office 0, where 1 and 2 need it; the other office keeps it;
-- given back, nothing is fetched by that.
abbrev pub taken_script : List StoreCall
taken_script =
    save 0 0 1 ++ (edit 0 0 1 0 2 ++ (save 0 0 4 ++ fetch 0 2 ∷ fetch 1 0 ∷ mayhold 0 6
    ∷ ask (look 1 0 2) ∷ ask (look 1 0 1) ∷ ask (look 1 1 0) ∷ mayhold 0 8 ∷ mayhold 2 0
    ∷ fetch 0 1 ∷ fetch 0 0 ∷ mayhold 0 7 ∷ ask (look 1 0 0) ∷ fetch 0 1 ∷ []))

abbrev pub taken-answers : List (List ℕ)
taken-answers =
    saved 1 ++ ok₁ 1 ∷ ok₃ 0 0 1 ∷ ok₁ 2 ∷ (saved 3 ++ ok₁ 6 ∷ ok₁ 1 ∷ ok₁ 0
    ∷ not_taken 8 ∷ not_taken 8 ∷ shown 1 1 ∷ not_taken 3 ∷ not_taken 3
    ∷ not_taken 13 ∷ not_taken 13 ∷ ok₁ 0 ∷ not_taken 8 ∷ ok₁ 3 ∷ [])

-- After `new 2 1 1 1`: 13 before 7 and 12, also where a later job has the 13 and an earlier one
-- the 7.
abbrev pub first_script : List StoreCall
first_script =
    mayhold 0 2 ∷ fetch 0 0 ∷ fetch 0 1 ∷ fetch 0 2 ∷ open_run 0 (0 ∷ 2 ∷ 0 ∷ 0 ∷ 1 ∷ 0 ∷ [])
    ∷ prepare 0 ∷ step 0 0 0 ∷ step 0 1 0 ∷ drop_run 0 ∷ allow 0 0
    ∷ (save 0 0 3 ++ fetch 0 1 ∷ mayhold 0 3 ∷ fetch 0 1 ∷ allow 0 2 ∷ fetch 0 1 ∷ [])

abbrev pub first-answers : List (List ℕ)
first-answers =
    ok₁ 0 ∷ not_taken 13 ∷ not_taken 7 ∷ not_taken 3 ∷ ok₁ 2
    ∷ not_taken 13 ∷ not_taken 7 ∷ not_taken 13 ∷ ok₁ 0 ∷ ok₁ 0
    ∷ (saved 1 ++ not_taken 13 ∷ ok₁ 0 ∷ not_taken 12 ∷ ok₁ 0 ∷ ok₁ 3 ∷ [])

-- After `new 1 1 1 1`: 6 before 13 in a step and a prepare; a right is asked when the call is
-- made, and an issue asks none of an office; 4 before 13.
abbrev pub order_script : List StoreCall
order_script =
    save 0 0 1 ++ open_run 0 (0 ∷ 1 ∷ 0 ∷ []) ∷ step 0 0 0 ∷ mayhold 0 0 ∷ step 0 0 0 ∷ prepare 0
    ∷ issue 0 0 1 ∷ step 0 0 0 ∷ prepare 0 ∷ []

abbrev pub order-answers : List (List ℕ)
order-answers =
    saved 1 ++ ok₁ 1 ∷ ok₃ 0 0 1 ∷ ok₁ 0 ∷ not_taken 6 ∷ not_taken 6 ∷ ok₁ 2 ∷ not_taken 4
    ∷ not_taken 4 ∷ []

-- 13 before 9: a store of one sheet whose last issue number is the largest.
abbrev pub full : Store
full = with_last (fresh (counts_of 1 1 1 1)) max_word

abbrev pub full-calls : List StoreCall
full-calls = maysave 0 0 ∷ save 0 0 1 ++ maysave 0 1 ∷ issue 0 0 1 ∷ issue 0 0 0 ∷ []

abbrev pub full-answers : List (List ℕ)
full-answers =
    ok₁ 0 ∷ ok₁ 1 ∷ ok₃ 0 0 0 ∷ not_taken 13 ∷ ok₁ 0 ∷ not_taken 9 ∷ ok₁ 0 ∷ []

-- After `new 1 1 1 1`: a sheet that is taken away leaves the stale mark.
abbrev pub mark_script : List StoreCall
mark_script =
    save 0 0 1 ++ fetch 0 0 ∷ (save 0 0 1 ++ ask (stale 0) ∷ mayhold 0 0 ∷ ask (stale 0) ∷ [])

abbrev pub mark-answers : List (List ℕ)
mark-answers = saved 1 ++ ok₁ 1 ∷ (saved 2 ++ ok₁ 1 ∷ ok₁ 0 ∷ ok₁ 0 ∷ [])

-- After `new 1 1 2 1`: the second office of a prepare; a pick leaves the rights.
abbrev pub second_script : List StoreCall
second_script =
    save 0 0 1 ++ mayhold 1 0 ∷ open_run 0 (0 ∷ 1 ∷ 0 ∷ 1 ∷ 1 ∷ 0 ∷ []) ∷ pick ∷ prepare 0
    ∷ mayhold 1 1 ∷ prepare 0 ∷ []

abbrev pub second-answers : List (List ℕ)
second-answers =
    saved 1 ++ ok₁ 0 ∷ ok₁ 2 ∷ (0 ∷ 0 ∷ 0 ∷ []) ∷ not_taken 13 ∷ ok₁ 0 ∷ ok₁ 1 ∷ []

-- After `new 3 1 1 1`: the master lacks a read, another draws in a barred sheet outside the plan.
abbrev pub lacked_script : List StoreCall
lacked_script =
    save 0 0 6 ++ mayhold 0 3 ∷ open_run 0 (0 ∷ 3 ∷ 0 ∷ []) ∷ step 0 0 0 ∷ prepare 0
    ∷ mayhold 0 7 ∷ step 0 0 0 ∷ prepare 0 ∷ []

abbrev pub lacked-answers : List (List ℕ)
lacked-answers =
    saved 1 ++ ok₁ 0 ∷ ok₁ 1 ∷ not_taken 13 ∷ not_taken 13
    ∷ ok₁ 0 ∷ not_taken 7 ∷ not_taken 7 ∷ []

-- After `new 2 1 2 1`: a sheet on the card, barred at the office of the next job that reads it.
abbrev pub carried_script : List StoreCall
carried_script =
    save 0 0 1 ++ open_run 0 (0 ∷ 1 ∷ 0 ∷ 1 ∷ 1 ∷ 0 ∷ []) ∷ step 0 0 0 ∷ mayhold 1 2
    ∷ ask (look 2 0 0) ∷ ask (explain 0 1 0) ∷ step 0 1 0 ∷ mayhold 1 1 ∷ step 0 1 0 ∷ []

abbrev pub carried-answers : List (List ℕ)
carried-answers =
    saved 1 ++ ok₁ 2 ∷ ok₃ 0 0 1 ∷ ok₁ 0
    ∷ shown 1 1 ∷ not_taken 13 ∷ not_taken 13 ∷ ok₁ 0 ∷ ok₃ 1 0 0 ∷ []

-- After `new 2 2 1 1`: 13 after 6; nothing saved needs no right; a writer reads what it may not
-- save.
abbrev pub saved_script : List StoreCall
saved_script =
    maysave 0 2 ∷ maysave 2 0 ∷ maysave 0 4 ∷ open_run 0 (0 ∷ 0 ∷ 0 ∷ []) ∷ issue 0 0 1 ∷ step 0 0
    0
    ∷ issue 0 0 1 ∷ issue 0 0 3 ∷ issue 0 0 0 ∷ (save 0 1 1 ++ edit 0 0 1 0 2)

abbrev pub saved-answers : List (List ℕ)
saved-answers =
    ok₁ 0 ∷ not_taken 3 ∷ not_taken 3 ∷ ok₁ 1 ∷ not_taken 6 ∷ ok₃ 0 0 0
    ∷ not_taken 13 ∷ not_taken 13 ∷ ok₁ 0 ∷ (saved 1 ++ ok₁ 1 ∷ ok₃ 0 0 1 ∷ ok₁ 2 ∷ [])

-- After `new 32 1 1 1`: sheet 31, whose bit is a word's last, taken and given back. (The rest of
-- it is left to a golden script: computed, it would cost as much as all the others.)
abbrev pub last_script : List StoreCall
last_script = mayhold 0 2147483647 ∷ fetch 0 31 ∷ mayhold 0 4294967295 ∷ fetch 0 31 ∷ []

abbrev pub last-answers : List (List ℕ)
last-answers = ok₁ 0 ∷ not_taken 13 ∷ ok₁ 0 ∷ not_taken 7 ∷ []

-- ---- stores

-- A shelf with 1 alone, which needs 0: 0 is taken away and isn't held, so nothing leaves.
abbrev pub uncut : Store
uncut =
    let one = version 2 ((1 ∷ []) ∷ (2 ∷ []) ∷ []) in
    let s = with_master (fresh (counts_of 2 1 1 1)) (place (version 1 ((1 ∷ []) ∷ []) ∷ one ∷ []))
    in
    with_cache s 0 (place (unheld ∷ one ∷ []))

abbrev pub uncut-calls : List StoreCall
uncut-calls = mayhold 0 2 ∷ ask (look 1 0 1) ∷ mayhold 0 1 ∷ ask (look 1 0 1) ∷ []

abbrev pub uncut-answers : List (List ℕ)
uncut-answers = ok₁ 0 ∷ shown 2 2 ∷ ok₁ 0 ∷ not_taken 8 ∷ []

-- The last office may hold the sheets of m; the last writer may save them.
abbrev holding : ℕ → Bool
holding m = well_formed (with_may_hold (fresh (counts_of 2 2 2 1)) 1 m)

abbrev saving : ℕ → Bool
saving m = well_formed (with_may_save (fresh (counts_of 2 2 2 1)) 1 m)

-- The last shelf holds sheet 0, and its office may hold the sheets of m.
abbrev shelving : ℕ → Bool
shelving m =
    let p = place (version 1 ((1 ∷ 0 ∷ []) ∷ []) ∷ []) in
    well_formed (with_may_hold (with_cache (with_master (fresh (counts_of 2 2 2 1)) p) 1 p) 1 m)

-- None, all, and a bit at K; a sheet that is held, and barred.
abbrev pub formed : List Bool
formed =
    holding 0 ∷ holding 3 ∷ not (holding 4) ∷ saving 0 ∷ saving 3 ∷ not (saving 4)
    ∷ shelving 1 ∷ shelving 3 ∷ not (shelving 2) ∷ not (shelving 0) ∷ []

-- Of 32 sheets: no bit, all, and one at K in a mask; saving sheet 31 with all bits but its own,
-- and with all.
abbrev pub words : List Bool
words =
    let below : ℕ → Bool = λ m. rights_formed (counts_of 32 1 1 1) 1 (λ i. m) in
    let lacks : ℕ → Bool = λ m. barred 32 m (test_bit 2147483648) in
    below 0 ∷ below 4294967295 ∷ not (below 4294967296) ∷ lacks 2147483647
    ∷ not (lacks 4294967295) ∷ []
