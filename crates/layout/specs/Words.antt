-- The words of a store, in document 01's order ("Size and layout"). Sizes and offsets: crate
-- sizes.
-- ..Words: the words of a part. store_words: all of them.
-- Assumes nothing.
use Rattle.std.specs.Prelude.{List, [], ◌∷◌, ◌++◌, ℕ}
use Rattle.words.specs.Lists.{blocks}
use Rattle.clock.specs.Clock.{Clock}
use Rattle.sizes.specs.Bounds.{master_at, sites_at, writers_at, runs_at, total_of}
use Rattle.sizes.specs.Runs.{max_jobs}
use Rattle.sizes.specs.declared.Counts.{Counts}
use Rattle.model.specs.Algebra.{Place}
use Rattle.model.specs.Version.{Version}
use Rattle.model.specs.Tail.{Tail}
use Rattle.model.specs.Store.{Writer, Job, Run, Site, Store}

unfoldable pub clock_words : Counts → Clock → List ℕ
clock_words z c = blocks z.writers (λ w. c w ∷ [])

unfoldable pub past_words : Counts → (ℕ → Clock) → List ℕ
past_words z p = blocks z.keys (λ d. clock_words z (p d))

-- "issue number, then row 0, row 1 and so on"; CR 3: "the mask follows the issue number"
unfoldable pub version_words : Counts → Version → List ℕ
version_words z v = v.issue ∷ v.leaders ∷ past_words z v.past

unfoldable pub place_words : Counts → Place Version → List ℕ
place_words z p = blocks z.keys (λ k. version_words z (p k))

-- CR 4: "Each shelf gets one stored word after its versions"; CR 7: "one word after its stale
-- mark"
unfoldable pub site_words : Counts → Site → List ℕ
site_words z x = place_words z x.cache ++ (x.stale ∷ x.allowance ∷ [])

unfoldable pub sites_words : Counts → (ℕ → Site) → List ℕ
sites_words z f = blocks z.sites (λ o. site_words z (f o))

-- "a writer's count, then its past"
unfoldable pub writer_words : Counts → Writer → List ℕ
writer_words z x = x.count ∷ past_words z x.past

unfoldable pub writers_words : Counts → (ℕ → Writer) → List ℕ
writers_words z f = blocks z.writers (λ w. writer_words z (f w))

-- "office, reads mask, upstream mask"
unfoldable pub job_words : Job → List ℕ
job_words j = j.site ∷ j.reads ∷ j.upstream ∷ []

unfoldable pub jobs_words : (ℕ → Job) → List ℕ
jobs_words f = blocks max_jobs (λ i. job_words (f i))

-- "state, number of jobs, done mask, read mask, 8 jobs of 3 words, then the card, K versions"
abbrev pub front_words : Counts → Run → List ℕ
front_words z r =
    r.state ∷ r.jobs ∷ r.done ∷ r.branch.read
    ∷ (jobs_words r.job ++ place_words z r.branch.snapshot)

-- CR 10: "at their end a mark .., a second read mask and a second card"
abbrev pub rest_words : Counts → Run → List ℕ
rest_words z r = r.mark ∷ r.second.read ∷ place_words z r.second.snapshot

unfoldable pub run_words : Counts → Run → List ℕ
run_words z r = front_words z r ++ rest_words z r

unfoldable pub runs_words : Counts → (ℕ → Run) → List ℕ
runs_words z f = blocks z.runs (λ r. run_words z (f r))

-- The masks of n offices or writers.
unfoldable pub masks_words : ℕ → (ℕ → ℕ) → List ℕ
masks_words n f = blocks n (λ i. f i ∷ [])

-- Behind the runs. CR 8: "The last picked run is one stored word at the desk's end"; CR 9: "the
-- words follow the round's, offices first"
unfoldable pub tail_words : Counts → Tail → List ℕ
tail_words z t =
    t.round ∷ (masks_words z.sites t.may_hold ++ masks_words z.writers t.may_save)

-- "Header, 10 words: K, W, N, P, last issue number, then the offsets in words of master, shelves,
-- writers and runs, then the total."
unfoldable pub header_words : Counts → ℕ → List ℕ
header_words z last =
    z.keys ∷ z.writers ∷ z.sites ∷ z.runs ∷ last
    ∷ master_at z ∷ sites_at z ∷ writers_at z ∷ runs_at z ∷ total_of z ∷ []

-- "The areas follow in that order without gaps."
unfoldable pub store_words : Store → List ℕ
store_words s =
    let z = s.counts in
    header_words z s.last
    ++ place_words z s.master
    ++ sites_words z s.site
    ++ writers_words z s.writer
    ++ runs_words z s.run
    ++ tail_words z s.tail
