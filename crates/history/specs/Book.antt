-- The history model (document 01: "the book"), fed each call with its arguments and whether it
-- was answered ok.
-- BookBranch, BookRun, book_branch, Book, fresh_book; book_step: one call.
-- Assumes nothing.
use Rattle.std.specs.Prelude.{Bool, cond, ◌&&◌, ◌||◌, List, [], ◌∷◌, ℕ, eqb, length}
use Rattle.words.specs.Tests.{Items, only, none}
use Rattle.words.specs.Lists.{put_at}
use Rattle.masks.specs.Mask.{test_bit}
use Rattle.sizes.specs.Bounds.{counts_of}
use Rattle.sizes.specs.declared.Counts.{Counts}
use Rattle.model.specs.Algebra.{Place}
use Rattle.model.specs.Sets.{fetched, evicted, pulled}
use Rattle.model.specs.Store.{Job, planned, no_jobs}
use Rattle.model.specs.Runs.{listed_count, listed_jobs}
use Rattle.model.specs.Prepare.{prepared_caches, sites_merged, uses_site}
use Rattle.model.specs.Step.{read_start}
use Rattle.model.specs.Calls.Rights.{taken_away}
use Rattle.model.specs.Calls.Fork.{joined_place}
use Rattle.model.specs.Calls.{StoreCall, open_run, fetch, evict, prepare, step, issue, drop_run, allow, pick, mayhold, maysave, fork, join, ask}
use Rattle.layout.specs.Calls.{Call, new, audit, on}
use Rattle.history.specs.History.{Issue, History, in_past}
use Rattle.history.specs.Listing.{Base, no_base, BookCopy, plain_copy_of, merge_book, book_copies, read_copy}
use Rattle.history.specs.Lists.{list_of}

-- "read sheets", and the card's copies.
pub record BookBranch : Type 0 where
  pub read : Items
  pub snapshot : Place BookCopy

-- "each run's jobs and read sheets", and its card; of both its branches ("lines", CR 10).
pub record BookRun : Type 0 where
  pub jobs : ℕ
  pub job : ℕ → Job
  pub branch : BookBranch
  pub second : BookBranch

abbrev pub book_branch : ℕ → BookRun → BookBranch
book_branch n a = cond (eqb n 0) a.branch a.second

-- A run with the same jobs.
abbrev pub book_run_with : BookRun → BookBranch → BookBranch → BookRun
book_run_with a x y = record { jobs = a.jobs; job = a.job; branch = x; second = y }

-- base: what was admitted, if the book began so (CR 6).
pub record Book : Type 0 where
  pub counts : Counts
  pub base : Base
  pub history : History
  pub master : Place BookCopy
  pub cache : ℕ → Place BookCopy
  pub run : ℕ → BookRun

abbrev pub no_copies : Place BookCopy
no_copies k = plain_copy_of none

abbrev pub no_book_branch : BookBranch
no_book_branch = record { read = none; snapshot = no_copies }

abbrev pub no_run : BookRun
no_run = record { jobs = 0; job = no_jobs; branch = no_book_branch; second = no_book_branch }

-- "New: all empty."
unfoldable pub fresh_book : Counts → Book
fresh_book z = record {
  counts = z;
  base = no_base;
  history = [];
  master = no_copies;
  cache = λ o. no_copies;
  run = λ r. no_run;
}

unfoldable pub with_book_caches : Book → (ℕ → Place BookCopy) → Book
with_book_caches b f = record {
  counts = b.counts;
  base = b.base;
  history = b.history;
  master = b.master;
  cache = f;
  run = b.run;
}

unfoldable pub with_book_run : Book → ℕ → BookRun → Book
with_book_run b r x = record {
  counts = b.counts;
  base = b.base;
  history = b.history;
  master = b.master;
  cache = b.cache;
  run = put_at b.run r x;
}

-- ---- "Fetch, evict, prepare, step: the rules above on copies, T, E and C too."

-- "Open: the jobs are entered."
unfoldable pub book_open : ℕ → List ℕ → Book → Book
book_open r l b =
    with_book_run b r (record {
      jobs = listed_count l;
      job = listed_jobs l;
      branch = no_book_branch;
      second = no_book_branch;
    })

unfoldable pub book_fetch : ℕ → ℕ → Book → Book
book_fetch o k b =
    let K = b.counts.keys in
    let alg = book_copies K b.counts.writers b.history in
    with_book_caches b (put_at b.cache o (fetched alg K b.master (b.cache o) (only k)))

unfoldable pub book_evict : ℕ → ℕ → Book → Book
book_evict o k b =
    let K = b.counts.keys in
    let alg = book_copies K b.counts.writers b.history in
    with_book_caches b (put_at b.cache o (evicted alg K (b.cache o) (only k)))

-- CR 9: "Taking a sheet from an office evicts it there by the evict rule": E starts from the held
-- copies that the mask lacks.
unfoldable pub book_mayhold : ℕ → ℕ → Book → Book
book_mayhold o m b =
    let K = b.counts.keys in
    let alg = book_copies K b.counts.writers b.history in
    with_book_caches b
    (put_at b.cache o (evicted alg K (b.cache o) (taken_away alg (b.cache o) m)))

unfoldable pub book_prepare : ℕ → Book → Book
book_prepare r b =
    let K = b.counts.keys in
    let alg = book_copies K b.counts.writers b.history in
    let a = b.run r in
    let caches = prepared_caches alg K b.master a.job a.jobs b.cache in
    let plan = planned a.jobs a.job in
    with_book_run (with_book_caches b caches) r (book_run_with a (record {
      read = a.branch.read;
      snapshot = sites_merged alg b.counts.sites (uses_site a.jobs a.job) plan caches;
    }) a.second)

unfoldable pub book_step_job : ℕ → ℕ → ℕ → Book → Book
book_step_job r j n b =
    let K = b.counts.keys in
    let alg = book_copies K b.counts.writers b.history in
    let a = b.run r in
    let v = book_branch n a in
    let o = (a.job j).site in
    let reads = test_bit (a.job j).reads in
    let missing = read_start alg K v.snapshot (b.cache o) reads in
    let cache = fetched alg K b.master (b.cache o) missing in
    let next : BookBranch = record {
      read = λ k. v.read k || reads k;
      snapshot = pulled alg K (planned a.jobs a.job) v.snapshot cache reads;
    } in
    with_book_run (with_book_caches b (put_at b.cache o cache)) r
    (book_run_with a (cond (eqb n 0) next a.branch) (cond (eqb n 0) a.second next))

-- CR 10: "the card and read mask are copied".
unfoldable pub book_fork : ℕ → Book → Book
book_fork r b =
    let a = b.run r in
    with_book_run b r (book_run_with a a.branch a.branch)

-- "merges the cards sheet by sheet and unites the read masks"
unfoldable pub book_join : ℕ → Book → Book
book_join r b =
    let a = b.run r in
    let alg = book_copies b.counts.keys b.counts.writers b.history in
    with_book_run b r (book_run_with a (record {
      read = λ k. a.branch.read k || a.second.read k;
      snapshot = joined_place alg a.branch.snapshot a.second.snapshot;
    }) no_book_branch)

-- ---- issue

-- "writer, mask, the copies its run had read", on line 0: it isn't forked; CR 6: lists "pass on by
-- .. reading".
unfoldable pub entry : ℕ → ℕ → ℕ → Book → Issue
entry r w S b =
    let a = (b.run r).branch in
    record {
      writer = w;
      keys = test_bit S;
      read = λ k i. a.read k && (a.snapshot k).later i;
      rows = (read_copy b.counts.keys a.read a.snapshot).rows;
    }

-- "for each k in S the master's copy takes in what the new version includes": "its own save and
-- all saves of its sheet behind it"; CR 6: lists "pass on by .. issue".
unfoldable pub book_issue : ℕ → ℕ → ℕ → Book → Book
book_issue r w S b =
    let K = b.counts.keys in
    let h = entry r w S b ∷ b.history in
    let i = length b.history in
    let new : Place BookCopy =
    λ k. record { later = in_past K h i k; rows = list_of b.base h i; number = 0 } in
    record {
      counts = b.counts;
      base = b.base;
      history = h;
      master = λ k. cond (test_bit S k) (merge_book K h (b.master k) (new k)) (b.master k);
      cache = b.cache;
      run = put_at b.run r no_run;
    }

-- "Issue: if S isn't empty it is entered .. Any issue, and drop, clear the run."
unfoldable pub book_issued : ℕ → ℕ → ℕ → Book → Book
book_issued r w S b = cond (eqb S 0) (with_book_run b r no_run) (book_issue r w S b)

-- ---- one call answered ok

unfoldable pub book_rule : StoreCall → Book → Book
book_rule (open_run r l) b = book_open r l b
book_rule (fetch o k) b = book_fetch o k b
book_rule (evict o k) b = book_evict o k b
book_rule (prepare r) b = book_prepare r b
book_rule (step r j n) b = book_step_job r j n b
book_rule (issue r w S) b = book_issued r w S b
book_rule (drop_run r) b = with_book_run b r no_run
book_rule (allow o n) b = b
book_rule pick b = b
book_rule (mayhold o m) b = book_mayhold o m b
book_rule (maysave w m) b = b
book_rule (fork r) b = book_fork r b
book_rule (join r) b = book_join r b
book_rule (ask q) b = b

unfoldable pub book_ok : Call → Book → Book
book_ok (new k w n p) b = fresh_book (counts_of k w n p)
book_ok (audit v) b = b
book_ok (on c) b = book_rule c b

-- "Not ok, or look: nothing changes."
unfoldable pub book_step : Call → Bool → Book → Book
book_step c ok b = cond ok (book_ok c b) b
