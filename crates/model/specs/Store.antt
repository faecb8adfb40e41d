-- The store ("desk"): what a buffer of words stands for.
-- Writer, Job, Branch (read mask and card), Run, branch_of, Site (an office: its shelf, stale mark
-- and allowance), Store; planned ("plan's sheets"), done_reads; with..: one part changed.
-- Assumes nothing.
use Rattle.std.specs.Prelude.{cond, ◌&&◌, ℕ, eqb, ltb}
use Rattle.words.specs.Tests.{Items, any_below}
use Rattle.words.specs.Lists.{put_at}
use Rattle.masks.specs.Mask.{test_bit}
use Rattle.clock.specs.Clock.{Clock}
use Rattle.sizes.specs.declared.Counts.{Counts}
use Rattle.model.specs.Algebra.{Place}
use Rattle.model.specs.Version.{Version, zero_past, unheld}
use Rattle.model.specs.Marks.{stale_mask}
use Rattle.model.specs.Tail.{Tail, fresh_tail, tail_round, tail_hold, tail_save}

-- "a writer's count, then its past"
pub record Writer : Type 0 where
  pub count : ℕ
  pub past : ℕ → Clock

-- "office, reads mask, upstream mask"
pub record Job : Type 0 where
  pub site : ℕ
  pub reads : ℕ
  pub upstream : ℕ

-- "read mask", "card"
pub record Branch : Type 0 where
  pub read : ℕ
  pub snapshot : Place Version

-- "state (0 free, 1 open, 2 broken), number of jobs, done mask, read mask, 8 jobs, then the card"
-- CR 10: "a mark (0 never forked, 1 forked, 2 joined), a second read mask and a second card"
pub record Run : Type 0 where
  pub state : ℕ
  pub jobs : ℕ
  pub done : ℕ
  pub job : ℕ → Job
  pub branch : Branch
  pub mark : ℕ
  pub second : Branch

abbrev pub forked_mark : ℕ
forked_mark = 1

abbrev pub joined_mark : ℕ
joined_mark = 2

-- The branch ("line", 0 or 1) n of a run.
abbrev pub branch_of : ℕ → Run → Branch
branch_of n a = cond (eqb n 0) a.branch a.second

-- An office: its shelf, the mask of the sheets on it that are behind (CR 4), and how many it may
-- hold (CR 7).
pub record Site : Type 0 where
  pub cache : Place Version
  pub stale : ℕ
  pub allowance : ℕ

-- last: the last issue number.
pub record Store : Type 0 where
  pub counts : Counts
  pub last : ℕ
  pub master : Place Version
  pub site : ℕ → Site
  pub writer : ℕ → Writer
  pub run : ℕ → Run
  pub tail : Tail

-- ---- what stands where nothing does

abbrev pub empty_place : Place Version
empty_place k = unheld

abbrev pub no_writer : Writer
no_writer = record { count = 0; past = zero_past }

abbrev pub no_job : Job
no_job = record { site = 0; reads = 0; upstream = 0 }

abbrev pub no_jobs : ℕ → Job
no_jobs j = no_job

abbrev pub no_site : Site
no_site = record { cache = empty_place; stale = 0; allowance = 0 }

abbrev pub no_branch : Branch
no_branch = record { read = 0; snapshot = empty_place }

abbrev pub free_run : Run
free_run = record {
  state = 0;
  jobs = 0;
  done = 0;
  job = no_jobs;
  branch = no_branch;
  mark = 0;
  second = no_branch;
}

-- A site with another cache, mark or allowance: its other words stay.
abbrev pub site_cached : Site → Place Version → Site
site_cached x p = record { cache = p; stale = x.stale; allowance = x.allowance }

abbrev pub site_marked : Site → ℕ → Site
site_marked x m = record { cache = x.cache; stale = m; allowance = x.allowance }

abbrev pub site_allowed : Site → ℕ → Site
site_allowed x n = record { cache = x.cache; stale = x.stale; allowance = n }

-- A site of a fresh store. CR 7: "K on a new desk".
abbrev pub fresh_site : Counts → ℕ → Site
fresh_site z o = site_allowed no_site (cond (ltb o z.sites) z.keys 0)

-- "a fresh desk: nothing held, every run free, all counts zero"
unfoldable pub fresh : Counts → Store
fresh z = record {
  counts = z;
  last = 0;
  master = empty_place;
  site = fresh_site z;
  writer = λ w. no_writer;
  run = λ r. free_run;
  tail = fresh_tail z;
}

-- ---- what the jobs of a run read

-- "the plan's sheets (all its jobs' reads)", of n jobs.
unfoldable pub planned : ℕ → (ℕ → Job) → Items
planned n job k = any_below n (λ j. test_bit (job j).reads k)

-- What the jobs of a done mask read.
unfoldable pub done_reads : ℕ → (ℕ → Job) → ℕ → Items
done_reads n job done k = any_below n (λ j. test_bit done j && test_bit (job j).reads k)

-- ---- the store with one part changed

abbrev pub store_with :
    Counts → ℕ → Place Version → (ℕ → Site) → (ℕ → Writer) → (ℕ → Run) → Tail → Store
store_with z n master site writer run tail = record {
  counts = z;
  last = n;
  master = master;
  site = site;
  writer = writer;
  run = run;
  tail = tail;
}

unfoldable pub with_master : Store → Place Version → Store
with_master s p =
    store_with s.counts s.last p s.site s.writer s.run s.tail

unfoldable pub with_last : Store → ℕ → Store
with_last s n =
    store_with s.counts n s.master s.site s.writer s.run s.tail

unfoldable pub with_sites : Store → (ℕ → Site) → Store
with_sites s f =
    store_with s.counts s.last s.master f s.writer s.run s.tail

abbrev pub with_site : Store → ℕ → Site → Store
with_site s o x = with_sites s (put_at s.site o x)

-- The site x of a store with another cache: its mark is true.
unfoldable pub site_with : Store → Site → Place Version → Site
site_with s x p = site_marked (site_cached x p) (stale_mask s.counts s.master p)

unfoldable pub with_cache : Store → ℕ → Place Version → Store
with_cache s o p = with_site s o (site_with s (s.site o) p)

-- Another cache for each site.
unfoldable pub with_caches : Store → (ℕ → Place Version) → Store
with_caches s cache = with_sites s (λ o. site_with s (s.site o) (cache o))

-- The caches as they are, each with a true mark: for a master that has changed.
unfoldable pub with_marks : Store → Store
with_marks s = with_caches s (λ o. (s.site o).cache)

unfoldable pub with_writer : Store → ℕ → Writer → Store
with_writer s w x =
    store_with s.counts s.last s.master s.site (put_at s.writer w x) s.run
    s.tail

unfoldable pub with_run : Store → ℕ → Run → Store
with_run s r x =
    store_with s.counts s.last s.master s.site s.writer (put_at s.run r x)
    s.tail

unfoldable pub with_tail_of : Store → Tail → Store
with_tail_of s t =
    store_with s.counts s.last s.master s.site s.writer s.run t

abbrev pub with_round : Store → ℕ → Store
with_round s r = with_tail_of s (tail_round s.tail r)

abbrev pub with_may_hold : Store → ℕ → ℕ → Store
with_may_hold s o m = with_tail_of s (tail_hold s.tail o m)

abbrev pub with_may_save : Store → ℕ → ℕ → Store
with_may_save s w m = with_tail_of s (tail_save s.tail w m)

-- ---- a run with one part changed

-- A run with the same jobs.
abbrev pub run_with : Run → ℕ → ℕ → Branch → ℕ → Branch → Run
run_with a state done branch mark second = record {
  state = state;
  jobs = a.jobs;
  done = done;
  job = a.job;
  branch = branch;
  mark = mark;
  second = second;
}

unfoldable pub with_state : Run → ℕ → Run
with_state a x = run_with a x a.done a.branch a.mark a.second

-- Another snapshot, of branch 0.
unfoldable pub with_snapshot : Run → Place Version → Run
with_snapshot a p =
    run_with a a.state a.done (record { read = a.branch.read; snapshot = p }) a.mark
    a.second

-- The run after a job on branch n: its done mask, and that branch.
unfoldable pub with_job_done : Run → ℕ → ℕ → Branch → Run
with_job_done a n done b =
    run_with a a.state done (cond (eqb n 0) b a.branch) a.mark
    (cond (eqb n 0) a.second b)
