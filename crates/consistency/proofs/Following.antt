-- A store that follows its book: what the rules ask of its places, and with one part changed.
-- now-simulates: versions stand for copies. now-named: their merges name somebody.
-- master-, cache-, snapshot-..: what is asked of these.
-- empty-, free-follows: a run with nothing read. follows-..: a cache, all caches or a run changed.
-- Assumes nothing.
use mathlib.Core.Path.{◌≡◌, refl, ap, ap₂}
use mathlib.Core.Bool.{false≢true}
use Prim.Native.Nat.{ℕ, ◌≤◌, ◌<◌}
use lib.Dec.{eqb}
use Rattle.words.specs.Tests.{Items}
use Rattle.words.proofs.Bools.{test}
use native.Mathlib.Omega.{arith}
use Rattle.words.specs.Lists.{put_at}
use Rattle.words.proofs.Lists.{put_at_both}
use Rattle.masks.proofs.Bits.{test-none}
use Rattle.clock.specs.Clock.{Clock}
use Rattle.sizes.specs.declared.Counts.{Counts}
use Rattle.model.specs.Algebra.{Place}
use Rattle.model.specs.Version.{Version, versions}
use Rattle.model.specs.Store.{Job, Branch, Run, branch_of, Site, Store, no_jobs, no_branch, free_run, planned, with_sites, site_with, with_cache, with_run}
use Rattle.history.specs.History.{History}
use Rattle.history.specs.Listing.{Base, no_base, BookCopy, book_copies}
use Rattle.history.specs.Book.{BookBranch, BookRun, book_branch, Book, no_book_branch, no_run, with_book_caches, with_book_run}
use Rattle.history.proofs.Past.{past-laws}
use Rattle.history.proofs.Lists.{behind-is-list}
use Rattle.history.proofs.ListingMerged.{book-none}
use Rattle.history.proofs.BookWrites.{GoodBook}
use Rattle.consistency.specs.Leading.{Named}
use Rattle.consistency.specs.Listed.{Lists}
use Rattle.consistency.proofs.Simulation.{Simulates, Related}
use Rattle.consistency.proofs.CopyLaws.{CopyLaws, PartIn, empty-cut}
use Rattle.consistency.proofs.Closing.{book_writes, copy-laws, ClosedIn, ClosedAll, every-part, every-closed}
use Rattle.consistency.proofs.Counting.{StandsFor, masked-none, stands-named, counted-simulates, counted-related}
use Rattle.consistency.proofs.Invariant.{BranchFollows, RunFollows, Follows}

-- A version of a key and a copy, as this store and this book have them.
abbrev pub Stands : Store → Book → ℕ → Version → BookCopy → Type 0
Stands s b = StandsFor s.counts.writers s.counts.keys b.history b.base

module _ {s : Store} {b : Book} (F : Follows s b) where
  -- What holds with the store's counts holds with the book's.
  pub by-counts : (P : Counts → Type 0) → P s.counts → P b.counts
  by-counts P p = rw (← F.counts) p

  pub now-simulates :
      Simulates (versions s.counts.writers)
      (book_copies s.counts.keys s.counts.writers b.history)
      s.counts.keys (Stands s b)
  now-simulates =
      let K = s.counts.keys in
      counted-simulates K s.counts.writers b.history b.base (past-laws K b.history)
      F.based F.sound.writers

  pub now-laws : CopyLaws (book_copies s.counts.keys s.counts.writers b.history)
      (book_writes s.counts.keys s.counts.writers b.history b.base)
  now-laws = copy-laws s.counts.keys s.counts.writers b.history b.base

  -- In a merge of two versions of a key somebody is named, where nothing was admitted.
  pub now-named : b.base ≡ no_base → (k : ℕ) (v w : Version) (a c : BookCopy) → Stands s b k v a
      → Stands s b k w c
      → Named s.counts.writers k v w
  now-named e k v w a c r r' =
      let K = s.counts.keys in
      stands-named K s.counts.writers b.history b.base (past-laws K b.history)
      F.based F.sound.writers k v w a c r r' e

  -- What stands behind a copy is its list.
  pub lists-copy : {k : ℕ} {c : BookCopy}
      → GoodBook s.counts.keys s.counts.writers b.history b.base k c
      → Lists b.base b.history c
  lists-copy {c = c} g = record {
    behind = behind-is-list b.base b.history F.lists.carried s.counts.keys
        s.counts.writers F.sound c g.carries;
    admitted = g.listed.low;
    number = g.listed.number;
  }

  pub master-closed : ClosedAll s.counts.keys s.counts.writers b.history b.base
      b.master
  master-closed =
      every-closed b.master F.every (λ k l. (F.master k l).all) (λ k l. (F.master k l).good)

  pub master-related :
      Related s.counts.keys (Stands s b) s.master b.master
  master-related =
      counted-related (λ k l. (F.master k l).counts) F.led-master master-closed

  module _ (o : ℕ) (l : o < s.counts.sites) where
    pub cache-related :
        Related s.counts.keys (Stands s b) (s.site o).cache (b.cache o)
    cache-related = counted-related (F.cache o l) (F.led-cache o l) (F.closed o l)

    pub cache-part : PartIn
        (book_writes s.counts.keys s.counts.writers b.history b.base)
        s.counts.keys (b.cache o) b.master
    cache-part = every-part b.master F.every (λ k l. (F.master k l).all) (F.closed o l)

  -- Of the admitted saves too.
  pub cache-admitted : (o k u : ℕ) → o < s.counts.sites → k < s.counts.keys
      → u < s.counts.writers → (b.cache o k).rows k u ≤ (b.master k).rows k u
  cache-admitted o k u l h _ =
      omega (
        arith,
        ((F.closed o l).good k h).listed.low k u,
        ap (λ (p : Clock). p u) (F.master k h).all,
      )

  module _ (r n : ℕ) (l : r < s.counts.runs) where
    pub snapshot-related :
        Related s.counts.keys (Stands s b) (branch_of n (s.run r)).snapshot
        (book_branch n (b.run r)).snapshot
    snapshot-related =
        let G = (F.run r l).line n in
        counted-related G.snapshot G.led G.closed

-- The plan of a run is that of the book's.
pub plan-same : {W K : ℕ} {h : History} {B : Base} {a : Run} {c : BookRun}
    → RunFollows W K h B a c
    → planned a.jobs a.job ≡ planned c.jobs c.job
plan-same F = ap₂ planned F.jobs F.job

-- So the book's snapshot is a cut for the plan of the store's run.
pub snapshot-closed : {s : Store} {b : Book} → Follows s b → (r n : ℕ) → r < s.counts.runs
    → ClosedIn s.counts.keys s.counts.writers b.history b.base
    (planned (s.run r).jobs (s.run r).job) (book_branch n (b.run r)).snapshot
snapshot-closed F r n l = rw (plan-same (F.run r l)) ((F.run r l).line n).closed

-- A branch of a run and of the book's run: what holds of both branches holds of branch n.
pub on-lines {ℓ} : (P : Branch → BookBranch → Type ℓ) (a : Run) (c : BookRun)
    → P a.branch c.branch → P a.second c.second → (n : ℕ)
    → P (branch_of n a) (book_branch n c)
on-lines P a c p q n = test (eqb n 0) (λ y. rw y p) (λ y. rw y q)

-- A branch with nothing read and nothing on its snapshot; a run of two such.
pub none-follows : (W K : ℕ) (h : History) (B : Base) (plan : Items)
    → BranchFollows W K h B plan no_branch no_book_branch
none-follows W K h B plan = record {
  read = λ k _. test-none k;
  low = λ k p. absurd (false≢true p);
  snapshot = λ k _. book-none K h B;
  led = λ _ k _. masked-none W K h k;
  closed = empty-cut (copy-laws K W h B) plan;
}

pub empty-follows : (W K : ℕ) (h : History) (B : Base) (state jobs done : ℕ) (job : ℕ → Job)
    → RunFollows W K h B (record {
      state = state;
      jobs = jobs;
      done = done;
      job = job;
      branch = no_branch;
      mark = 0;
      second = no_branch;
    }) (record { jobs = jobs; job = job; branch = no_book_branch; second = no_book_branch })
empty-follows W K h B state jobs done job =
    let none = none-follows W K h B (planned jobs job) in
    record {
      jobs = refl;
      job = refl;
      line = λ n. test (eqb n 0) (λ y. rw y none) (λ y. rw y none);
    }

pub free-follows : (W K : ℕ) (h : History) (B : Base) → RunFollows W K h B free_run no_run
free-follows W K h B = empty-follows W K h B 0 0 0 no_jobs

-- ---- one part changed

module _ {s : Store} {b : Book} (F : Follows s b) where
  pub follows-caches : (f : ℕ → Site) (g : ℕ → Place BookCopy)
      → ((o : ℕ) → o < s.counts.sites → Related s.counts.keys (Stands s b) (f o).cache (g o)
      × ClosedAll s.counts.keys s.counts.writers b.history b.base (g o))
      → Follows (with_sites s f) (with_book_caches b g)
  unfolding with_sites with_book_caches
  follows-caches f g C = record {
    counts = F.counts;
    last = F.last;
    based = F.based;
    lists = F.lists;
    sound = F.sound;
    master = F.master;
    led-master = F.led-master;
    every = F.every;
    cache = λ o l k h. ((C o l).0 k h).counts;
    led-cache = λ o l e k h. ((C o l).0 k h).led e;
    closed = λ o l. (C o l).1;
    writer = λ w l. record { count = (F.writer w l).count; past = (F.writer w l).past };
    run = F.run;
  }

  pub follows-cache : (o : ℕ) (p : Place Version) (q : Place BookCopy)
      → Related s.counts.keys (Stands s b) p q
      → ClosedAll s.counts.keys s.counts.writers b.history b.base q
      → Follows (with_cache s o p) (with_book_caches b (put_at b.cache o q))
  unfolding with_cache site_with
  follows-cache o p q c d =
      let x = site_with s (s.site o) p in
      let K = s.counts.keys in
      follows-caches (put_at s.site o x) (put_at b.cache o q) (λ i l.
      put_at_both (λ (x : Site) (q : Place BookCopy). Related K (Stands s b) x.cache q
      × ClosedAll K s.counts.writers b.history b.base q) s.site b.cache o x q i
      (λ _. (c, d))
      (λ _. (cache-related F i l, F.closed i l)))

  pub follows-run : (r : ℕ) (a : Run) (c : BookRun)
      → RunFollows s.counts.writers s.counts.keys b.history b.base a c
      → Follows (with_run s r a) (with_book_run b r c)
  unfolding with_run with_book_run
  follows-run r a c G = record {
    counts = F.counts;
    last = F.last;
    based = F.based;
    lists = F.lists;
    sound = F.sound;
    master = F.master;
    led-master = F.led-master;
    every = F.every;
    cache = F.cache;
    led-cache = F.led-cache;
    closed = F.closed;
    writer = λ w l. record { count = (F.writer w l).count; past = (F.writer w l).past };
    run = λ q l.
        put_at_both (RunFollows s.counts.writers s.counts.keys b.history b.base)
        s.run b.run r a c q (λ _. G) (λ _. F.run q l);
  }
