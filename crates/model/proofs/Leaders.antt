-- CR 3's mask of leading writers by examples (`Computed` proves that they pass).
-- merged, masks: two versions merged. rival-, second-, chained-, beside-, twice-, other-,
-- pair-..: scripts, and what they answer.
-- folded.., alone, stepped: on stores that no list of calls from new reaches.
-- Assumes nothing.
use mathlib.Core.Bool.{Bool, ◌&&◌}
use mathlib.Core.List.{List, [], ◌∷◌, ◌++◌, map}
use Prim.Native.Nat.{ℕ}
use lib.Dec.{eqb}
use lib.ListN.{length, get_or}
use Rattle.sizes.specs.Bounds.{counts_of}
use Rattle.model.specs.Algebra.{Place}
use Rattle.model.specs.Version.{Version, merged_leaders, merge}
use Rattle.model.specs.Store.{Job, Store, no_branch, no_job, fresh, with_master, with_cache, with_run}
use Rattle.model.specs.Calls.{StoreCall, open_run, fetch, prepare, step, issue, ask, look}
use Rattle.model.proofs.Scripts.{answers, ok₁, ok₃, seen, saving}
use Rattle.model.proofs.Readings.{clock, led, place, unforked, alike, zero-zero, one-one, two-zero}

-- ---- merges, of key 0 but for the last

abbrev pub merged : List Bool
merged =
    let a = led 1 3 (two-zero ∷ []) in
    let b = led 2 5 ((1 ∷ 3 ∷ []) ∷ []) in
    let both = led 3 5 ((2 ∷ 3 ∷ []) ∷ []) in
    alike (merge 2 0 a b) both ∷ alike (merge 2 0 b a) both
    -- Nobody is named; a larger count than the other side has; both, with the same count.
    ∷ alike (merge 2 0 (led 1 1 (one-one ∷ [])) (led 2 2 (one-one ∷ [])))
    (led 3 2 (one-one ∷ []))
    ∷ alike (merge 2 0 (led 1 1 ((3 ∷ 0 ∷ []) ∷ [])) (led 1 2 (two-zero ∷ [])))
    (led 1 2 ((3 ∷ 0 ∷ []) ∷ []))
    ∷ alike (merge 2 0 (led 3 1 (one-one ∷ [])) (led 2 2 (one-one ∷ [])))
    (led 2 2 (one-one ∷ []))
    -- By the own row: row 0 would name writer 1 alone.
    ∷ alike (merge 2 1 (led 1 1 (zero-zero ∷ two-zero ∷ []))
    (led 2 2 ((5 ∷ 5 ∷ []) ∷ (1 ∷ 3 ∷ []) ∷ [])))
    (led 3 2 ((5 ∷ 5 ∷ []) ∷ (2 ∷ 3 ∷ []) ∷ [])) ∷ []

-- Who leads, either way round: of W writers, masks and own rows of both sides.
abbrev leads : ℕ → ℕ → List ℕ → ℕ → List ℕ → ℕ → Bool
leads W m p n q x =
    eqb (merged_leaders W m (clock p) n (clock q)) x
    && eqb (merged_leaders W n (clock q) m (clock p)) x

abbrev pub masks : List Bool
masks =
    -- Nobody is named: all with a count in the merged row, whoever led.
    leads 4 4 (2 ∷ 0 ∷ 1 ∷ 0 ∷ []) 1 (2 ∷ 1 ∷ 1 ∷ 0 ∷ []) 7
    -- A larger count leads only where its writer does.
    ∷ leads 3 4 (0 ∷ 0 ∷ 1 ∷ []) 2 (1 ∷ 1 ∷ 0 ∷ []) 6
    ∷ leads 2 1 (1 ∷ 0 ∷ []) 2 (2 ∷ 1 ∷ []) 2 ∷ leads 2 1 (1 ∷ 0 ∷ []) 3 (2 ∷ 1 ∷ []) 3
    -- Two sides that agree on a leader without a count.
    ∷ leads 2 2 (1 ∷ 0 ∷ []) 2 (1 ∷ 0 ∷ []) 2 ∷ []

-- ---- scripts

-- Writer w, with the sheets of m read at office o, saves those of S.
abbrev editing : ℕ → ℕ → ℕ → ℕ → List StoreCall
editing o m w S = open_run 0 (o ∷ m ∷ 0 ∷ []) ∷ step 0 0 0 ∷ issue 0 w S ∷ []

-- After `new 1 3 2 1`: two rivals lead, and neither does once a third has seen both.
abbrev pub rival_script : List StoreCall
rival_script =
    saving 1 ++ ask (look 0 0 0) ∷ fetch 0 0 ∷ (editing 0 0 1 1 ++ ask (look 0 0 0)
    ∷ ask (look 1 0 0) ∷ (editing 1 1 2 1 ++ ask (look 0 0 0) ∷ ask (look 1 1 0) ∷ []))

abbrev seen-three : ℕ → ℕ → ℕ → ℕ → ℕ → ℕ → List ℕ
seen-three n m a b c st = 0 ∷ n ∷ m ∷ a ∷ b ∷ c ∷ st ∷ []

abbrev pub rival_answers : List (List ℕ)
rival_answers =
    ok₁ 1 ∷ ok₃ 0 0 0 ∷ ok₁ 1 ∷ seen-three 1 1 1 0 0 0 ∷ ok₁ 1
    ∷ ok₁ 1 ∷ ok₃ 0 0 0 ∷ ok₁ 2 ∷ seen-three 2 3 1 1 0 0 ∷ seen-three 1 1 1 0 0 1
    ∷ ok₁ 1 ∷ ok₃ 0 0 1 ∷ ok₁ 3 ∷ seen-three 3 4 1 1 1 0 ∷ seen-three 2 3 1 1 0 1 ∷ []

-- After `new 1 2 2 1`: shelf 0 has the first save, shelf 1 both. The card is their merge: the
-- second save leads if it saw the first (m is 1), and both do if it didn't (m is 0).
abbrev pub second_script : ℕ → List StoreCall
second_script m =
    saving 1 ++ fetch 0 0 ∷ (editing 0 m 1 1 ++ fetch 1 0
    ∷ open_run 0 (0 ∷ 1 ∷ 0 ∷ 1 ∷ 1 ∷ 0 ∷ []) ∷ prepare 0 ∷ ask (look 2 0 0) ∷ [])

abbrev pub second-answers : ℕ → ℕ → List (List ℕ)
second-answers m leaders =
    ok₁ 1 ∷ ok₃ 0 0 0 ∷ ok₁ 1 ∷ ok₁ 1 ∷ ok₁ 1 ∷ ok₃ 0 m 0 ∷ ok₁ 2 ∷ ok₁ 1 ∷ ok₁ 2 ∷ ok₁ 1
    ∷ seen 2 leaders 1 1 0 ∷ []

-- After `new 2 3 1 1`: the first save of 0 stands behind the second by a chain through sheet 1.
abbrev pub chained_script : List StoreCall
chained_script =
    saving 1 ++ (editing 0 1 1 2 ++ (editing 0 2 2 1 ++ ask (look 0 0 0) ∷ []))

abbrev pub chained-answers : List (List ℕ)
chained-answers =
    ok₁ 1 ∷ ok₃ 0 0 0 ∷ ok₁ 1 ∷ ok₁ 1 ∷ ok₃ 0 0 1 ∷ ok₁ 2 ∷ ok₁ 1 ∷ ok₃ 0 0 2 ∷ ok₁ 3
    ∷ seen-three 3 4 1 0 1 0 ∷ []

-- After `new 1 3 1 1`: a rival beside one who has seen the first. After `new 1 2 1 1`: a writer
-- who
-- saves twice, and a rival between.
abbrev pub beside_script : List StoreCall
beside_script =
    saving 1 ++ (editing 0 1 1 1 ++ (editing 0 0 2 1 ++ ask (look 0 0 0) ∷ []))

abbrev pub beside-answers : List (List ℕ)
beside-answers =
    ok₁ 1 ∷ ok₃ 0 0 0 ∷ ok₁ 1 ∷ ok₁ 1 ∷ ok₃ 0 0 1 ∷ ok₁ 2 ∷ ok₁ 1 ∷ ok₃ 0 0 0 ∷ ok₁ 3
    ∷ seen-three 3 6 1 1 1 0 ∷ []

abbrev pub twice_script : List StoreCall
twice_script = saving 1 ++ (editing 0 0 1 1 ++ (saving 1 ++ ask (look 0 0 0) ∷ []))

abbrev pub twice-answers : List (List ℕ)
twice-answers =
    ok₁ 1 ∷ ok₃ 0 0 0 ∷ ok₁ 1 ∷ ok₁ 1 ∷ ok₃ 0 0 0 ∷ ok₁ 2 ∷ ok₁ 1 ∷ ok₃ 0 0 0 ∷ ok₁ 3
    ∷ seen 3 3 2 1 0 ∷ []

-- After `new 2 3 1 1`: rivals of sheet 1. After `new 2 2 1 1`: an issue of both sheets, and one
-- that
-- has read the other of them.
abbrev pub other_script : List StoreCall
other_script =
    saving 2 ++ (editing 0 0 1 2 ++ ask (look 0 0 1) ∷ (editing 0 2 2 2 ++ ask (look 0 0 1) ∷ []))

abbrev pub other-answers : List (List ℕ)
other-answers =
    ok₁ 1 ∷ ok₃ 0 0 0 ∷ ok₁ 1 ∷ ok₁ 1 ∷ ok₃ 0 0 0 ∷ ok₁ 2 ∷ seen-three 2 3 1 1 0 0
    ∷ ok₁ 1 ∷ ok₃ 0 0 2 ∷ ok₁ 3 ∷ seen-three 3 4 1 1 1 0 ∷ []

abbrev pub pair_script : List StoreCall
pair_script =
    saving 3 ++ ask (look 0 0 0) ∷ (editing 0 2 1 1 ++ ask (look 0 0 0) ∷ [])

abbrev pub pair-answers : List (List ℕ)
pair-answers =
    ok₁ 1 ∷ ok₃ 0 0 0 ∷ ok₁ 1 ∷ seen 1 1 1 0 0 ∷ ok₁ 1 ∷ ok₃ 0 0 2 ∷ ok₁ 2 ∷ seen 2 2 1 1 0 ∷ []

-- ---- stores that no list of calls from new reaches

-- Run 0 has a job at each office of a list, in order, that reads sheet 0.
abbrev collecting : List ℕ → Store → Store
collecting offices s =
    let job : ℕ → Job = λ o. record { site = o; reads = 1; upstream = 0 } in
    with_run s 0
    (unforked 1 (length offices) 0 (λ i. get_or (map job offices) i no_job) no_branch)

abbrev one : ℕ → List ℕ → Place Version
one m row = place (led m 1 (row ∷ []) ∷ [])

-- "lowest number first": the first two shelves agree on writer 0, and with the third nobody is
-- named. From the last one on it would be writer 0.
abbrev folded-store : ℕ → ℕ → Store
folded-store m n =
    let s = with_master (fresh (counts_of 1 2 3 1)) (one 1 one-one) in
    with_cache (with_cache (with_cache s 0 (one 1 one-one)) 1 (one m one-one)) 2 (one n one-one)

-- "With one side not held, the other", as it is: here a leader without a count.
abbrev alone-store : Store
alone-store =
    let row : List ℕ = 1 ∷ 0 ∷ [] in
    with_cache (with_master (fresh (counts_of 1 2 1 1)) (one 1 row)) 0 (one 2 row)

abbrev prepared : List ℕ → Store → List (List ℕ)
prepared offices s = answers (prepare 0 ∷ ask (look 2 0 0) ∷ []) (collecting offices s)

abbrev pub folded : List (List ℕ)
folded = prepared (0 ∷ 1 ∷ 2 ∷ []) (folded-store 1 2)

-- By office and not by job; "each once".
abbrev pub folded-jobs : List (List ℕ)
folded-jobs = prepared (2 ∷ 0 ∷ 1 ∷ []) (folded-store 1 2)

abbrev pub folded-once : List (List ℕ)
folded-once = prepared (0 ∷ 1 ∷ 1 ∷ []) (folded-store 2 1)

abbrev pub alone : List (List ℕ)
alone = prepared (0 ∷ []) alone-store

-- A step merges two held versions: the card's sheet 0, unread and too old for what sheet 1 needs,
-- with the shelf's.
abbrev stepping-store : Store
stepping-store =
    let shelf = place (led 2 5 ((1 ∷ 3 ∷ []) ∷ []) ∷ led 1 1 ((0 ∷ 3 ∷ []) ∷ (1 ∷ 0 ∷ []) ∷ []) ∷
    []) in
    let s = with_master (fresh (counts_of 2 2 1 1)) shelf in
    let job : ℕ → Job = λ m. record { site = 0; reads = m; upstream = 0 } in
    with_run (with_cache s 0 shelf) 0 (unforked 1 2 0 (λ i. get_or (job 2 ∷ job 1 ∷ []) i no_job)
    (record { read = 0; snapshot = place (led 1 3 (two-zero ∷ []) ∷ []) }))

abbrev pub stepped : List (List ℕ)
stepped = answers (step 0 0 0 ∷ ask (look 2 0 0) ∷ []) stepping-store
