-- CR 4's stale mark by examples (`Computed` proves that they pass).
-- kept-, broken-, stepped-, others-..: scripts, and what they answer. lent-..: stores that no list
-- of calls
-- from new reaches. unmarked: marks that aren't the mask.
-- Assumes nothing.
use mathlib.Core.Bool.{Bool, not}
use mathlib.Core.List.{List, [], ◌∷◌, ◌++◌}
use Prim.Native.Nat.{ℕ}
use Rattle.sizes.specs.Bounds.{counts_of}
use Rattle.model.specs.Version.{Version}
use Rattle.model.specs.Store.{Store, no_branch, no_jobs, fresh, site_cached, site_marked, with_last, with_master, with_site, with_cache, with_writer, with_run}
use Rattle.model.specs.Form.{well_formed}
use Rattle.model.specs.Calls.{StoreCall, open_run, fetch, evict, prepare, step, issue, ask, explain, stale}
use Rattle.model.proofs.Scripts.{answers, ok₁, ok₃, broke, not_taken}
use Rattle.model.proofs.Readings.{led, version, clock, place, unforked, answered}

-- ---- scripts

-- Run r at office o reads the sheets of m, and writer w saves those of S from it.
abbrev edits : ℕ → ℕ → ℕ → ℕ → ℕ → List StoreCall
edits r o m w S = open_run r (o ∷ m ∷ 0 ∷ []) ∷ step r 0 0 ∷ issue r w S ∷ []

-- After `new 3 2 2 2`: an issue makes copies stale, evict and fetch clear the mark; prepare
-- doesn't
-- fetch again what is held; a sheet on no shelf is none.
abbrev pub kept_script : List StoreCall
kept_script =
    ask (stale 0) ∷ ask (stale 2) ∷ (edits 0 0 0 0 3 ++ fetch 0 0 ∷ fetch 1 1 ∷ ask (stale 0)
    ∷ (edits 0 0 1 1 1 ++ ask (stale 0) ∷ ask (stale 1) ∷ evict 1 0 ∷ ask (stale 1)
    ∷ fetch 1 1 ∷ ask (stale 1) ∷ open_run 0 (0 ∷ 3 ∷ 0 ∷ []) ∷ prepare 0 ∷ ask (stale 0)
    ∷ (edits 1 0 0 0 4 ++ ask (stale 0) ∷ ask (stale 1) ∷ [])))

abbrev pub kept-answers : List (List ℕ)
kept-answers =
    ok₁ 0 ∷ not_taken 3 ∷ ok₁ 1 ∷ ok₃ 0 0 0 ∷ ok₁ 1 ∷ ok₁ 3 ∷ ok₁ 3 ∷ ok₁ 0
    ∷ ok₁ 1 ∷ ok₃ 0 1 0 ∷ ok₁ 2 ∷ ok₁ 1 ∷ ok₁ 1 ∷ ok₁ 3 ∷ ok₁ 0
    ∷ ok₁ 3 ∷ ok₁ 0 ∷ ok₁ 1 ∷ ok₁ 3 ∷ ok₁ 1
    ∷ ok₁ 1 ∷ ok₃ 0 0 0 ∷ ok₁ 3 ∷ ok₁ 1 ∷ ok₁ 0 ∷ []

-- After `new 2 2 2 2`: a broken step leaves the mark, which its fetch would have cleared.
abbrev pub broken_script : List StoreCall
broken_script =
    edits 1 0 0 0 1 ++ fetch 1 0 ∷ open_run 0 (0 ∷ 1 ∷ 0 ∷ 1 ∷ 2 ∷ 0 ∷ []) ∷ step 0 0 0
    ∷ (edits 1 0 1 1 3 ++ ask (stale 1) ∷ ask (explain 0 1 0) ∷ step 0 1 0 ∷ ask (stale 1)
    ∷ fetch 1 1 ∷ ask (stale 1) ∷ [])

abbrev pub broken-answers : List (List ℕ)
broken-answers =
    ok₁ 1 ∷ ok₃ 0 0 0 ∷ ok₁ 1 ∷ ok₁ 1 ∷ ok₁ 2 ∷ ok₃ 0 0 1 ∷ ok₁ 1 ∷ ok₃ 0 1 0 ∷ ok₁ 2
    ∷ ok₁ 1 ∷ (4 ∷ 1 ∷ 0 ∷ []) ∷ broke 1 ∷ ok₁ 1 ∷ ok₁ 3 ∷ ok₁ 0 ∷ []

-- After `new 2 2 1 2`: a step whose fetch brings the stale sheet again.
abbrev pub stepped_script : List StoreCall
stepped_script =
    edits 1 0 0 0 1 ++ fetch 0 0 ∷ (edits 1 0 1 1 3 ++ ask (stale 0)
    ∷ open_run 0 (0 ∷ 2 ∷ 0 ∷ []) ∷ step 0 0 0 ∷ ask (stale 0) ∷ [])

abbrev pub stepped-answers : List (List ℕ)
stepped-answers =
    ok₁ 1 ∷ ok₃ 0 0 0 ∷ ok₁ 1 ∷ ok₁ 1 ∷ ok₁ 1 ∷ ok₃ 0 1 0 ∷ ok₁ 2 ∷ ok₁ 1
    ∷ ok₁ 1 ∷ ok₃ 0 0 2 ∷ ok₁ 0 ∷ []

-- After `new 3 2 2 2`: two sheets stale at once; a step, an evict, a fetch and a prepare that
-- leave
-- another one stale, at office 1, and office 0's mark as it is.
abbrev pub others_script : List StoreCall
others_script =
    edits 0 0 0 0 1 ++ (edits 0 0 0 1 2 ++ fetch 1 0 ∷ fetch 1 1 ∷ fetch 0 1
    ∷ (edits 0 0 0 0 1 ++ (edits 0 0 0 1 2 ++ ask (stale 1) ∷ ask (stale 0)
    ∷ (edits 0 0 0 1 4 ++ open_run 0 (1 ∷ 4 ∷ 0 ∷ []) ∷ step 0 0 0 ∷ ask (stale 1) ∷ ask (stale 0)
    ∷ evict 1 1 ∷ ask (stale 1) ∷ fetch 1 1 ∷ ask (stale 1)
    ∷ (edits 1 0 0 1 6 ++ ask (stale 1) ∷ open_run 1 (1 ∷ 4 ∷ 0 ∷ []) ∷ prepare 1
    ∷ ask (stale 1) ∷ ask (stale 0) ∷ [])))))

abbrev issued : ℕ → List (List ℕ)
issued n = ok₁ 1 ∷ ok₃ 0 0 0 ∷ ok₁ n ∷ []

abbrev pub others-answers : List (List ℕ)
others-answers =
    issued 1 ++ (issued 2 ++ ok₁ 1 ∷ ok₁ 2 ∷ ok₁ 2 ∷ (issued 3 ++ (issued 4 ++ ok₁ 3 ∷ ok₁ 2
    ∷ (issued 5 ++ ok₁ 1 ∷ ok₃ 0 0 4 ∷ ok₁ 1 ∷ ok₁ 2 ∷ ok₁ 6 ∷ ok₁ 1 ∷ ok₁ 2 ∷ ok₁ 1
    ∷ (issued 6 ++ ok₁ 3 ∷ ok₁ 1 ∷ ok₁ 4 ∷ ok₁ 1 ∷ ok₁ 2 ∷ [])))))

-- ---- stores that no list of calls from new reaches

-- A shelf ahead of the master: an issue brings the master up to it, and the mark is cleared.
abbrev ahead : Store
ahead =
    let one : List ℕ = 1 ∷ 0 ∷ [] in
    let two : List ℕ = 2 ∷ 0 ∷ [] in
    let s = with_last (fresh (counts_of 1 2 1 1)) 5 in
    let t = with_cache (with_master s (place (version 1 (one ∷ []) ∷ []))) 0
    (place (version 2 (two ∷ []) ∷ [])) in
    with_run (with_writer t 0 (record { count = 1; past = λ d. clock one })) 0
    (unforked 1 1 1 no_jobs no_branch)

abbrev pub lent-ahead : List (List ℕ)
lent-ahead = answers (ask (stale 0) ∷ issue 0 0 1 ∷ ask (stale 0) ∷ []) ahead

abbrev pub lent-answers : List (List ℕ)
lent-answers = ok₁ 1 ∷ ok₁ 6 ∷ ok₁ 0 ∷ []

-- Two sheets, the shelf's on office 1.
abbrev shelved : List Version → List Version → Store
shelved master shelf =
    with_cache (with_master (fresh (counts_of 2 2 2 1)) (place master)) 1 (place shelf)

-- Held on the shelf alone; on the master alone; a rival; other rows, numbers and leaders differ;
-- sheet 1 does.
abbrev pub lent : List Bool
lent =
    let v = version 1 ((1 ∷ 0 ∷ []) ∷ []) in
    let rival = version 1 ((0 ∷ 1 ∷ []) ∷ []) in
    let more = led 2 3 ((1 ∷ 0 ∷ []) ∷ (0 ∷ 4 ∷ []) ∷ []) in
    let first = version 1 ([] ∷ (1 ∷ 1 ∷ []) ∷ []) in
    let second = version 1 ([] ∷ (1 ∷ 0 ∷ []) ∷ []) in
    answered (shelved [] (v ∷ [])) (ask (stale 1)) (ok₁ 1)
    ∷ answered (shelved (v ∷ []) []) (ask (stale 1)) (ok₁ 0)
    ∷ answered (shelved (v ∷ []) (rival ∷ [])) (ask (stale 1)) (ok₁ 1)
    ∷ answered (shelved (v ∷ []) (more ∷ [])) (ask (stale 1)) (ok₁ 0)
    ∷ answered (shelved (v ∷ first ∷ []) (v ∷ second ∷ [])) (ask (stale 1)) (ok₁ 2)
    ∷ answered (shelved (v ∷ first ∷ []) (v ∷ second ∷ [])) (ask (stale 0)) (ok₁ 0)
    ∷ answered (shelved (v ∷ first ∷ []) (v ∷ second ∷ [])) (ask (stale 2)) (not_taken 3) ∷ []

-- ---- form: a mark with a bit less, a bit more, another one

abbrev taken : ℕ → Bool
taken m =
    let v = version 1 ((1 ∷ 0 ∷ []) ∷ []) in
    let w = version 1 ([] ∷ (1 ∷ 0 ∷ []) ∷ []) in
    let s = with_master (fresh (counts_of 2 2 2 1)) (place (v ∷ [])) in
    well_formed (with_site s 1 (site_marked (site_cached (s.site 1) (place (v ∷ w ∷ []))) m))

abbrev pub unmarked : List Bool
unmarked =
    taken 2 ∷ not (taken 0) ∷ not (taken 1) ∷ not (taken 3) ∷ not (taken 6) ∷ []
