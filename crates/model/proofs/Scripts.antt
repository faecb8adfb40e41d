-- Scripts of calls on a store, and their answers: case A of document 01, and others by what they
-- show.
-- answers: of a list of calls carried out. case_a, longer ..: the scripts, and what they answer.
-- Assumes nothing.
use mathlib.Core.List.{List, [], ◌∷◌, ◌++◌}
use Prim.Native.Nat.{ℕ}
use Rattle.model.specs.Store.{Store}
use Rattle.model.specs.Outcome.{answer}
use Rattle.model.specs.Calls.{StoreCall, open_run, fetch, evict, prepare, step, issue, drop_run, ask, look, rule_of}
use Rattle.model.proofs.Outcomes.{next_store}

abbrev pub answers : List StoreCall → Store → List (List ℕ)
answers [] s = []
answers (c ∷ cs) s = answer (rule_of c s) ∷ answers cs (next_store (rule_of c s) s)

-- The ways to answer, as words.
abbrev pub ok₁ : ℕ → List ℕ
ok₁ a = 0 ∷ a ∷ []

abbrev pub ok₃ : ℕ → ℕ → ℕ → List ℕ
ok₃ a b c = 0 ∷ a ∷ b ∷ c ∷ []

-- A look at a version of two writers: its issue number, its leading writers, its own row, and the
-- standing.
abbrev pub seen : ℕ → ℕ → ℕ → ℕ → ℕ → List ℕ
seen n m a b st = 0 ∷ n ∷ m ∷ a ∷ b ∷ st ∷ []

abbrev pub broke : ℕ → List ℕ
broke m = 1 ∷ m ∷ []

abbrev pub not_taken : ℕ → List ℕ
not_taken n = 2 ∷ n ∷ []

-- ---- case A, after `new 2 2 2 1`

abbrev pub case_a_script : List StoreCall
case_a_script =
    open_run 0 (0 ∷ 0 ∷ 0 ∷ []) ∷ step 0 0 0 ∷ issue 0 0 3 ∷ fetch 0 0
    ∷ open_run 0 (0 ∷ 1 ∷ 0 ∷ []) ∷ step 0 0 0 ∷ issue 0 1 2
    ∷ open_run 0 (0 ∷ 1 ∷ 0 ∷ 1 ∷ 2 ∷ 1 ∷ []) ∷ step 0 1 0 ∷ step 0 0 0 ∷ step 0 1 0
    ∷ ask (look 2 0 1) ∷ fetch 1 1 ∷ evict 0 1 ∷ []

abbrev pub case_a_answers : List (List ℕ)
case_a_answers =
    ok₁ 1 ∷ ok₃ 0 0 0 ∷ ok₁ 1 ∷ ok₁ 3
    ∷ ok₁ 1 ∷ ok₃ 0 1 0 ∷ ok₁ 2
    ∷ ok₁ 2 ∷ not_taken 6 ∷ ok₃ 0 1 0 ∷ ok₃ 2 0 0 ∷ seen 1 1 1 0 1
    ∷ ok₁ 3 ∷ ok₁ 3 ∷ []

-- ---- a longer script, after `new 3 2 2 2`: rival writes merge, keys are evicted, a run is
-- prepared, a run breaks

abbrev pub longer_script : List StoreCall
longer_script =
    -- Writer 0 saves keys 0 and 1; writer 1, who has read nothing, saves 1: a rival, merged on
    -- the master.
    open_run 0 (0 ∷ 0 ∷ 0 ∷ []) ∷ step 0 0 0 ∷ issue 0 0 3
    ∷ open_run 1 (1 ∷ 0 ∷ 0 ∷ []) ∷ step 1 0 0 ∷ issue 1 1 2 ∷ ask (look 0 0 1)
    -- Site 0 takes 1, and 0 with it; evicting 0 takes 1 along.
    ∷ fetch 0 1 ∷ evict 0 0 ∷ ask (look 1 0 1) ∷ fetch 0 0 ∷ ask (look 1 0 0)
    -- Run 0 reads 0 at site 0. Writer 0, having read 0, saves 0 and 2; site 1 takes 2, which
    -- needs the new 0.
    ∷ open_run 0 (0 ∷ 1 ∷ 0 ∷ 1 ∷ 4 ∷ 0 ∷ []) ∷ step 0 0 0
    ∷ open_run 1 (0 ∷ 1 ∷ 0 ∷ []) ∷ step 1 0 0 ∷ issue 1 0 5 ∷ fetch 1 2
    -- Run 0 can't read 2 beside its older 0.
    ∷ step 0 1 0 ∷ step 0 1 0 ∷ step 0 2 0 ∷ drop_run 0
    -- The same jobs, prepared: site 0 fetches what it lacks, the card is the merge of both
    -- caches, and both go through.
    ∷ open_run 0 (0 ∷ 1 ∷ 0 ∷ 1 ∷ 4 ∷ 1 ∷ []) ∷ prepare 0 ∷ step 0 0 0 ∷ prepare 0 ∷ step 0 1 0
    ∷ ask (look 2 0 2)
    ∷ issue 0 1 7 ∷ ask (look 0 0 2) ∷ issue 0 1 0 ∷ []

abbrev pub longer-answers : List (List ℕ)
longer-answers =
    ok₁ 1 ∷ ok₃ 0 0 0 ∷ ok₁ 1
    ∷ ok₁ 1 ∷ ok₃ 0 0 0 ∷ ok₁ 2 ∷ seen 2 3 1 1 0
    ∷ ok₁ 3 ∷ ok₁ 3 ∷ not_taken 8 ∷ ok₁ 3 ∷ seen 1 1 1 0 0
    ∷ ok₁ 2 ∷ ok₃ 0 1 0
    ∷ ok₁ 1 ∷ ok₃ 0 1 0 ∷ ok₁ 3 ∷ ok₁ 7
    ∷ broke 1 ∷ not_taken 4 ∷ not_taken 3 ∷ ok₁ 0
    ∷ ok₁ 2 ∷ ok₁ 5 ∷ ok₃ 1 0 0 ∷ not_taken 6 ∷ ok₃ 4 0 0 ∷ seen 3 1 2 0 0
    ∷ ok₁ 4 ∷ seen 4 2 2 2 0 ∷ not_taken 4 ∷ []

-- ---- after `new 2 2 1 2`: refusals in the table's order; a key outside of the plan isn't
-- carried; an old version that meets the needs stays

abbrev pub refusals_script : List StoreCall
refusals_script =
    step 0 7 0 ∷ step 0 8 0 ∷ open_run 2 (0 ∷ 0 ∷ []) ∷ open_run 0 [] ∷ open_run 0 (1 ∷ 0 ∷ 0 ∷ [])
    ∷ open_run 0 (0 ∷ 4 ∷ 0 ∷ []) ∷ open_run 0 (0 ∷ 0 ∷ 1 ∷ []) ∷ open_run 0 (0 ∷ 1 ∷ 0 ∷ [])
    ∷ open_run 0 (0 ∷ 1 ∷ []) ∷ prepare 0 ∷ step 0 0 0 ∷ issue 0 0 4 ∷ issue 0 2 3 ∷ issue 0 0 3
    ∷ drop_run 0 ∷ drop_run 0 ∷ prepare 1 ∷ fetch 0 0 ∷ fetch 1 0 ∷ fetch 0 2 ∷ evict 0 0
    ∷ evict 0 2 ∷ open_run 0 (0 ∷ 0 ∷ 0 ∷ []) ∷ step 0 1 0 ∷ step 0 0 0 ∷ step 0 0 0 ∷ prepare 0
    ∷ issue 0 0 3 ∷ fetch 0 0 ∷ open_run 0 (0 ∷ 2 ∷ 0 ∷ []) ∷ step 0 0 0 ∷ ask (look 2 0 1)
    ∷ ask (look 2 0 0) ∷ ask (look 1 0 0) ∷ ask (look 0 1 0) ∷ ask (look 3 0 0)
    ∷ ask (look 2 2 0) ∷ issue 0 1 1 ∷ fetch 0 1 ∷ ask (look 1 0 0) ∷ fetch 0 0 ∷ []

abbrev pub refusals-answers : List (List ℕ)
refusals-answers =
    not_taken 4 ∷ not_taken 3 ∷ not_taken 3 ∷ not_taken 5 ∷ not_taken 5 ∷ not_taken 5
    ∷ not_taken 5 ∷ ok₁ 1 ∷ not_taken 4 ∷ not_taken 7 ∷ not_taken 7 ∷ not_taken 3
    ∷ not_taken 3 ∷ not_taken 6 ∷ ok₁ 0 ∷ not_taken 4 ∷ not_taken 4 ∷ not_taken 7
    ∷ not_taken 3 ∷ not_taken 3 ∷ not_taken 8 ∷ not_taken 3 ∷ ok₁ 1 ∷ not_taken 3 ∷ ok₃ 0 0 0
    ∷ not_taken 6 ∷ not_taken 6 ∷ ok₁ 1 ∷ ok₁ 3 ∷ ok₁ 1 ∷ ok₃ 0 2 0 ∷ seen 1 1 1 0 0 ∷ not_taken 8
    ∷ seen 1 1 1 0 0 ∷ not_taken 3 ∷ not_taken 3 ∷ not_taken 3 ∷ ok₁ 2 ∷ ok₁ 2 ∷ seen 1 1 1 0 1 ∷
    ok₁ 1
    ∷ []

-- ---- after `new 2 2 2 1`: what a run has read stands behind what it issues

abbrev pub reading_script : List StoreCall
reading_script =
    open_run 0 (0 ∷ 0 ∷ 0 ∷ []) ∷ step 0 0 0 ∷ issue 0 0 1 ∷ open_run 0 (0 ∷ 1 ∷ 0 ∷ [])
    ∷ step 0 0 0 ∷ issue 0 1 2 ∷ fetch 1 1 ∷ ask (look 1 1 1) ∷ evict 1 0 ∷ []

abbrev pub reading-answers : List (List ℕ)
reading-answers =
    ok₁ 1 ∷ ok₃ 0 0 0 ∷ ok₁ 1 ∷ ok₁ 1 ∷ ok₃ 0 0 1 ∷ ok₁ 2 ∷ ok₁ 3 ∷ seen 2 2 0 1 0 ∷ ok₁ 3 ∷ []

-- ---- after `new 2 2 1 1`: the shelf's 0 meets the need of the fetched 1 and counts as the
-- ---- shelf's; later it doesn't, comes again through T and counts as the master's

-- Writer 0, having read nothing, saves the sheets of S.
abbrev pub saving : ℕ → List StoreCall
saving S = open_run 0 (0 ∷ 0 ∷ 0 ∷ []) ∷ step 0 0 0 ∷ issue 0 0 S ∷ []

abbrev pub again_script : List StoreCall
again_script =
    saving 1 ++ fetch 0 0 ∷ (saving 2 ++ open_run 0 (0 ∷ 3 ∷ 0 ∷ []) ∷ step 0 0 0 ∷ drop_run 0
    ∷ evict 0 1 ∷ (saving 3 ++ open_run 0 (0 ∷ 3 ∷ 0 ∷ []) ∷ step 0 0 0 ∷ []))

abbrev pub again-answers : List (List ℕ)
again-answers =
    ok₁ 1 ∷ ok₃ 0 0 0 ∷ ok₁ 1 ∷ ok₁ 1 ∷ ok₁ 1 ∷ ok₃ 0 0 0 ∷ ok₁ 2 ∷ ok₁ 1 ∷ ok₃ 0 1 2 ∷ ok₁ 0
    ∷ ok₁ 2 ∷ ok₁ 1 ∷ ok₃ 0 0 0 ∷ ok₁ 3 ∷ ok₁ 1 ∷ ok₃ 0 0 3 ∷ []

-- ---- after `new 2 2 2 2`: a broken run; its shelf is as before the step, and only drop is taken

abbrev pub broken_script : List StoreCall
broken_script =
    saving 1 ++ open_run 0 (0 ∷ 1 ∷ 0 ∷ 1 ∷ 2 ∷ 0 ∷ []) ∷ step 0 0 0
    ∷ open_run 1 (0 ∷ 1 ∷ 0 ∷ []) ∷ step 1 0 0 ∷ issue 1 0 3
    ∷ step 0 1 0 ∷ ask (look 1 1 1) ∷ prepare 0 ∷ issue 0 0 1 ∷ issue 0 0 0 ∷ step 0 1 0
    ∷ step 0 0 0 ∷ step 0 2 0 ∷ open_run 0 (0 ∷ 0 ∷ 0 ∷ []) ∷ drop_run 0 ∷ drop_run 0 ∷ []

abbrev pub broken-answers : List (List ℕ)
broken-answers =
    ok₁ 1 ∷ ok₃ 0 0 0 ∷ ok₁ 1 ∷ ok₁ 2 ∷ ok₃ 0 0 1
    ∷ ok₁ 1 ∷ ok₃ 0 1 0 ∷ ok₁ 2
    ∷ broke 1 ∷ not_taken 8 ∷ not_taken 4 ∷ not_taken 4 ∷ not_taken 4 ∷ not_taken 4 ∷ not_taken 4
    ∷ not_taken 3 ∷ not_taken 4 ∷ ok₁ 0 ∷ not_taken 4 ∷ []

-- ---- after `new 1 2 2 1`: a shelf and a card fall behind the master

abbrev pub behind_script : List StoreCall
behind_script =
    saving 1 ++ ask (look 0 0 0) ∷ fetch 0 0 ∷ ask (look 1 0 0)
    ∷ open_run 0 (0 ∷ 0 ∷ 0 ∷ []) ∷ step 0 0 0 ∷ issue 0 1 1 ∷ ask (look 1 0 0) ∷ ask (look 0 0 0)
    ∷ open_run 0 (0 ∷ 1 ∷ 0 ∷ []) ∷ step 0 0 0 ∷ fetch 0 0 ∷ ask (look 1 0 0)
    ∷ ask (look 2 0 0) ∷ []

abbrev pub behind-answers : List (List ℕ)
behind-answers =
    ok₁ 1 ∷ ok₃ 0 0 0 ∷ ok₁ 1 ∷ seen 1 1 1 0 0 ∷ ok₁ 1 ∷ seen 1 1 1 0 0
    ∷ ok₁ 1 ∷ ok₃ 0 0 0 ∷ ok₁ 2 ∷ seen 1 1 1 0 1 ∷ seen 2 3 1 1 0
    ∷ ok₁ 1 ∷ ok₃ 0 1 0 ∷ ok₁ 1 ∷ seen 2 3 1 1 0 ∷ seen 1 1 1 0 1 ∷ []
