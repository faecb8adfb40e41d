-- A step on versions and on copies: the cache after its fetch, and the snapshot that it leaves.
-- copy_branch, copy_cache, copy_pull, copy_snapshot, copy_next, copy_run: the book's; book-step:
-- they are; either: a branch of both.
-- ..-related: the store's stand for them. ..-closed: they are cuts. ..-out: outside of C.
-- step-named: its merges name somebody.
-- Assumes nothing.
use mathlib.Core.Path.{◌≡◌, refl, sym, ap, ◌∙◌}
use mathlib.Core.Bool.{false, not, ◌||◌, cond}
use Prim.Native.Nat.{ℕ, ◌<◌}
use lib.Dec.{eqb}
use Rattle.words.specs.Tests.{Items}
use Rattle.words.proofs.Bools.{test}
use Rattle.words.specs.Lists.{put_at}
use Rattle.model.specs.Algebra.{Place}
use Rattle.model.specs.Sets.{fetched, pull_set, pulled}
use Rattle.model.specs.Store.{Branch, Run, branch_of, Store, with_job_done}
use Rattle.model.specs.Step.{read_start, step_branch, step_site, step_reads, step_start, step_cache, step_plan, step_pull, step_snapshot}
use Rattle.model.proofs.Draws.{pulled-out}
use Rattle.model.proofs.Steps.{Accepted, step-planned, stepped_branch, stepped_run}
use Rattle.layout.proofs.Rules.Step.{site}
use Rattle.layout.proofs.Follow.{Fine}
use Rattle.history.specs.Listing.{no_base, BookCopy, book_copies}
use Rattle.history.specs.Book.{Book, BookBranch, BookRun, book_branch, book_step_job, with_book_run, with_book_caches}
use Rattle.consistency.specs.Leading.{Named}
use Rattle.consistency.proofs.Simulation.{Agree, Related, read_start-same, fetched-rel, pull_set-same, pulled-rel}
use Rattle.consistency.proofs.Closing.{ClosedIn, ClosedAll}
use Rattle.consistency.proofs.ClosingSets.{fetched-closed, pulled-closed}
use Rattle.consistency.proofs.Invariant.{Follows}
use Rattle.consistency.proofs.Following.{Stands, now-simulates, now-laws, now-named, master-closed, master-related, cache-related, cache-part, snapshot-related, snapshot-closed}

-- Branch m of a run whose branch n has changed, of the store and of the book.
line_of {ℓ} : (P : Branch → BookBranch → Type ℓ) (m n : ℕ) (u : Branch) (w : BookBranch) (a : Run)
    (c : BookRun) → (eqb m 0 ≡ eqb n 0 → P u w)
    → (eqb m 0 ≡ not (eqb n 0) → P (branch_of m a) (book_branch m c))
    → P (cond (eqb m 0) (cond (eqb n 0) u a.branch) (cond (eqb n 0) a.second u))
    (cond (eqb m 0) (cond (eqb n 0) w c.branch) (cond (eqb n 0) c.second w))
line_of P m n u w a c f g =
    test (eqb m 0)
    (λ p. test (eqb n 0) (λ q. rw (p, q) (f (p ∙ sym q)))
    (λ q. let h = g (p ∙ sym (ap not q)) in rw (p, q) (rw p at h)))
    (λ p. test (eqb n 0) (λ q. let h = g (p ∙ sym (ap not q)) in rw (p, q) (rw p at h))
    (λ q. rw (p, q) (f (p ∙ sym q))))

-- ---- the book's run r and its cache after job j on branch n, with the store's counts and jobs

module _ (s : Store) (b : Book) (r j n : ℕ) where
  -- What the step goes by.
  abbrev pub copy_branch : BookBranch
  copy_branch = book_branch n (b.run r)

  unfoldable pub copy_cache : Place BookCopy
  copy_cache =
      let K = s.counts.keys in
      let alg = book_copies K s.counts.writers b.history in
      let cache = b.cache (step_site s r j n) in
      fetched alg K b.master cache
      (read_start alg K copy_branch.snapshot cache (step_reads s r j n))

  -- C
  unfoldable pub copy_pull : Items
  copy_pull =
      let K = s.counts.keys in
      pull_set (book_copies K s.counts.writers b.history) K (step_plan s r j n)
      copy_branch.snapshot copy_cache (step_reads s r j n)

  unfoldable pub copy_snapshot : Place BookCopy
  copy_snapshot =
      let K = s.counts.keys in
      pulled (book_copies K s.counts.writers b.history) K (step_plan s r j n)
      copy_branch.snapshot copy_cache (step_reads s r j n)

  -- That branch after it, and the run.
  unfoldable pub copy_next : BookBranch
  copy_next = record {
    read = λ k. copy_branch.read k || step_reads s r j n k;
    snapshot = copy_snapshot;
  }

  unfoldable pub copy_run : BookRun
  copy_run = record {
    jobs = (s.run r).jobs;
    job = (s.run r).job;
    branch = cond (eqb n 0) copy_next (b.run r).branch;
    second = cond (eqb n 0) (b.run r).second copy_next;
  }

  pub book-step : Follows s b → r < s.counts.runs
      → book_step_job r j n b
      ≡ with_book_run (with_book_caches b (put_at b.cache (step_site s r j n) copy_cache)) r
      copy_run
  unfolding book_step_job copy_run copy_next copy_snapshot copy_cache step_site step_reads
      step_plan
  book-step F l = rw (← F.counts, ← (F.run r l).jobs, ← (F.run r l).job)

  -- Branch m after the step on branch n, of the store and of the book: that branch, or as it was.
  pub either {ℓ} : (P : Branch → BookBranch → Type ℓ) (m : ℕ)
      → (eqb m 0 ≡ eqb n 0 → P (stepped_branch s r j n) copy_next)
      → (eqb m 0 ≡ not (eqb n 0) → P (branch_of m (s.run r)) (book_branch m (b.run r)))
      → P (branch_of m (stepped_run s r j n)) (book_branch m copy_run)
  unfolding with_job_done copy_run
  either P m f g =
      line_of P m n (stepped_branch s r j n) copy_next (s.run r) (b.run r) f g

-- ---- a step that is not refused

module _ {s : Store} {b : Book} {r j n : ℕ} (fine : Fine s) (F : Follows s b)
    (a : Accepted s r j n) where
  -- ---- the cache

  pub step_cache-related : Related s.counts.keys (Stands s b)
      (step_cache s r j n) (copy_cache s b r j n)
  unfolding step_cache step_start copy_cache
  step_cache-related =
      let L = now-simulates F in
      let o = step_site s r j n in
      let reads = step_reads s r j n in
      let rc = cache-related F o (site s r j n fine a) in
      fetched-rel L s.master (s.site o).cache b.master (b.cache o) _ _ (master-related F)
      rc
      (read_start-same L (step_branch s r j n).snapshot (s.site o).cache
      (copy_branch s b r j n).snapshot (b.cache o) reads reads
      (snapshot-related F r n a.run_in) rc (λ _ _. refl))

  pub step_cache-closed : ClosedAll s.counts.keys s.counts.writers b.history b.base
      (copy_cache s b r j n)
  unfolding copy_cache
  step_cache-closed =
      let o = step_site s r j n in
      let l = site s r j n fine a in
      fetched-closed (now-laws F) s.counts.keys b.master (b.cache o) _
      (cache-part F o l) (master-closed F) (F.closed o l)

  -- ---- C

  step_pull-same : Agree s.counts.keys (step_pull s r j n) (copy_pull s b r j n)
  unfolding step_pull copy_pull
  step_pull-same =
      let reads = step_reads s r j n in
      pull_set-same (now-simulates F) (step_plan s r j n) (step_plan s r j n)
      (step_branch s r j n).snapshot (step_cache s r j n) (copy_branch s b r j n).snapshot
      (copy_cache s b r j n) reads reads
      (λ _ _. refl) (snapshot-related F r n a.run_in) step_cache-related (λ _ _. refl)

  -- ---- the snapshot

  pub step_snapshot-related : Related s.counts.keys (Stands s b)
      (step_snapshot s r j n) (copy_snapshot s b r j n)
  unfolding step_snapshot copy_snapshot
  step_snapshot-related =
      let reads = step_reads s r j n in
      pulled-rel (now-simulates F) (step_plan s r j n) (step_plan s r j n)
      (step_branch s r j n).snapshot (step_cache s r j n) (copy_branch s b r j n).snapshot
      (copy_cache s b r j n) reads reads
      (λ _ _. refl) (snapshot-related F r n a.run_in) step_cache-related (λ _ _. refl)

  -- The merges that it takes name somebody.
  pub step-named : b.base ≡ no_base → (k : ℕ) → k < s.counts.keys
      → Named s.counts.writers k ((step_branch s r j n).snapshot k) (step_cache s r j n k)
  step-named e k l =
      now-named F e k ((step_branch s r j n).snapshot k) (step_cache s r j n k)
      ((copy_branch s b r j n).snapshot k) (copy_cache s b r j n k)
      (snapshot-related F r n a.run_in k l) (step_cache-related k l)

  pub step_snapshot-closed : ClosedIn s.counts.keys s.counts.writers b.history b.base
      (step_plan s r j n) (copy_snapshot s b r j n)
  unfolding copy_snapshot step_plan
  step_snapshot-closed =
      pulled-closed (now-laws F) s.counts.keys (step_plan s r j n)
      (copy_branch s b r j n).snapshot (copy_cache s b r j n) (step_reads s r j n)
      (snapshot-closed F r n a.run_in) step_cache-closed
      (λ k _. step-planned s r j n k a.job_in_lem)

  -- Outside of C the book's too is as it was.
  pub copy_snapshot-out : (k : ℕ) → k < s.counts.keys → step_pull s r j n k ≡ false
      → copy_snapshot s b r j n k ≡ (copy_branch s b r j n).snapshot k
  unfolding copy_snapshot copy_pull
  copy_snapshot-out k h e =
      pulled-out (book_copies s.counts.keys s.counts.writers b.history) s.counts.keys
      (step_plan s r j n) (copy_branch s b r j n).snapshot (copy_cache s b r j n)
      (step_reads s r j n) k
      (sym (step_pull-same k h) ∙ e)
