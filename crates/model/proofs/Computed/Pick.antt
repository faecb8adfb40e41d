-- CR 8's pick by examples (`Computed` proves that they pass): scripts, and what they answer.
-- Assumes nothing.
use mathlib.Core.Bool.{Bool}
use mathlib.Core.List.{List, [], ◌∷◌, ◌++◌, map}
use Prim.Native.Nat.{ℕ, zero, suc}
use Rattle.model.specs.Store.{Job, no_branch}
use Rattle.model.specs.Calls.Pick.{ready}
use Rattle.model.specs.Calls.{StoreCall, open_run, step, issue, drop_run, pick}
use Rattle.model.proofs.Scripts.{ok₁, ok₃, broke, not_taken}
use Rattle.model.proofs.Readings.{unforked}

abbrev ok₂ : ℕ → ℕ → List ℕ
ok₂ r j = 0 ∷ r ∷ j ∷ []

abbrev nothing : List ℕ
nothing = 5 ∷ []

-- Run r with one job at office 0 that reads nothing.
abbrev opened : ℕ → StoreCall
opened r = open_run r (0 ∷ 0 ∷ 0 ∷ [])

abbrev stepped : List ℕ
stepped = ok₃ 0 0 0

-- Run r saves the sheets of S by writer w, having read nothing.
abbrev save : ℕ → ℕ → ℕ → List StoreCall
save r w S = opened r ∷ step r 0 0 ∷ issue r w S ∷ []

-- After `new 1 1 1 3`: the first run after the last picked; that one is tried last, and taken.
abbrev pub round_script : List StoreCall
round_script =
    pick ∷ open_run 0 (0 ∷ 0 ∷ 0 ∷ 0 ∷ 0 ∷ 1 ∷ []) ∷ opened 2 ∷ pick ∷ pick ∷ pick ∷ step 2 0 0
    ∷ pick ∷ step 0 0 0 ∷ pick ∷ step 0 1 0 ∷ pick ∷ opened 1 ∷ pick ∷ []

abbrev pub round-answers : List (List ℕ)
round-answers =
    nothing ∷ ok₁ 2 ∷ ok₁ 1 ∷ ok₂ 0 0 ∷ ok₂ 2 0 ∷ ok₂ 0 0 ∷ stepped ∷ ok₂ 0 0
    ∷ stepped ∷ ok₂ 0 1 ∷ stepped ∷ nothing ∷ ok₁ 1 ∷ ok₂ 1 0 ∷ []

-- The same: run 0 is tried first on a new desk.
abbrev pub first_script : List StoreCall
first_script = opened 1 ∷ opened 0 ∷ pick ∷ []

abbrev pub first-answers : List (List ℕ)
first-answers = ok₁ 1 ∷ ok₁ 1 ∷ ok₂ 0 0 ∷ []

-- After `new 1 1 1 2`: nothing leaves the round, and so does a drop of the last picked run.
abbrev pub left_script : List StoreCall
left_script =
    opened 0 ∷ pick ∷ step 0 0 0 ∷ pick ∷ drop_run 0 ∷ opened 1 ∷ opened 0 ∷ pick ∷ pick ∷ []

abbrev pub left-answers : List (List ℕ)
left-answers =
    ok₁ 1 ∷ ok₂ 0 0 ∷ stepped ∷ nothing ∷ ok₁ 0 ∷ ok₁ 1 ∷ ok₁ 1 ∷ ok₂ 1 0 ∷ ok₂ 0 0 ∷ []

-- After `new 2 1 2 3`: it isn't asked whether the job's reads can be fetched.
abbrev pub unfetched_script : List StoreCall
unfetched_script =
    open_run 2 (0 ∷ 1 ∷ 0 ∷ []) ∷ open_run 1 (0 ∷ 1 ∷ 0 ∷ 0 ∷ 0 ∷ 0 ∷ []) ∷ pick ∷ step 1 0 0 ∷
    pick
    ∷ pick ∷ drop_run 1 ∷ pick ∷ []

abbrev pub unfetched-answers : List (List ℕ)
unfetched-answers =
    ok₁ 1 ∷ ok₁ 2 ∷ ok₂ 1 0 ∷ not_taken 7 ∷ ok₂ 2 0 ∷ ok₂ 1 0 ∷ ok₁ 0 ∷ ok₂ 2 0 ∷ []

-- After `new 2 1 2 2`: a broken run isn't open, though its job 2 is ready.
abbrev pub broken_script : List StoreCall
broken_script =
    save 0 0 1 ++ open_run 0 (0 ∷ 1 ∷ 0 ∷ 1 ∷ 2 ∷ 0 ∷ 0 ∷ 0 ∷ 0 ∷ []) ∷ step 0 0 0
    ∷ (save 1 0 3 ++ pick ∷ step 0 1 0 ∷ pick ∷ opened 1 ∷ pick ∷ pick ∷ [])

abbrev pub broken-answers : List (List ℕ)
broken-answers =
    ok₁ 1 ∷ stepped ∷ ok₁ 1 ∷ ok₁ 3 ∷ ok₃ 0 0 1 ∷ ok₁ 1 ∷ stepped ∷ ok₁ 2
    ∷ ok₂ 0 1 ∷ broke 1 ∷ nothing ∷ ok₁ 1 ∷ ok₂ 1 0 ∷ ok₂ 1 0 ∷ []

-- After `new 1 1 1 1`: job 0 is picked before job 2, which waits for 0 and 1; then 2. On a desk
-- in form the lowest job that isn't done has its upstreams done, so the order of jobs gives this
-- alone: `ready_jobs` shows that the upstreams are asked.
abbrev pub upstream_script : List StoreCall
upstream_script =
    open_run 0 (0 ∷ 0 ∷ 0 ∷ 0 ∷ 0 ∷ 0 ∷ 0 ∷ 0 ∷ 3 ∷ []) ∷ step 0 1 0 ∷ pick ∷ step 0 0 0 ∷ pick ∷
    []

abbrev pub upstream-answers : List (List ℕ)
upstream-answers = ok₁ 3 ∷ stepped ∷ ok₂ 0 0 ∷ stepped ∷ ok₂ 0 2 ∷ []

-- Jobs 0, 1, 2 with upstreams 0, 0 and 3 (jobs 0 and 1), of which job 1 is done: 0 is ready, 1 is
-- done, 2 waits for 0.
abbrev upstreams : ℕ → ℕ
upstreams zero = 0
upstreams (suc zero) = 0
upstreams (suc (suc j)) = 3

abbrev pub ready_jobs : List Bool
ready_jobs =
    let job : ℕ → Job = λ j. record { site = 0; reads = 0; upstream = upstreams j } in
    map (ready (unforked 1 3 2 job no_branch)) (0 ∷ 1 ∷ 2 ∷ [])
