-- What holds of store, book and reads after each call, and what a call has to show.
-- BranchFollows, RunFollows, WriterFollows, Follows: store and book. ReadAs, Entered: what a
-- finished job has read. Inv: all of it. Moves: after an outcome.
-- Assumes nothing.
use mathlib.Core.Path.{◌≡◌}
use mathlib.Core.Bool.{So, cond}
use mathlib.Core.List.{List}
use mathlib.Core.Logic.{◌⊎◌, ◌≢◌}
use Prim.Native.Nat.{ℕ, ◌+◌, ◌≤◌, ◌<◌}
use lib.Dec.{eqb}
use lib.ListN.{length}
use Rattle.words.specs.Tests.{Items}
use Rattle.words.specs.Numbers.{count_below}
use Rattle.masks.specs.Mask.{test_bit}
use Rattle.model.specs.Store.{Branch, Run, forked_mark, branch_of, Store, planned}
use Rattle.model.specs.Outcome.{Outcome, refused, broken, done, told}
use Rattle.model.specs.Calls.{StoreCall}
use Rattle.layout.specs.Calls.{on}
use Rattle.history.specs.History.{History, saved}
use Rattle.history.specs.Copies.{by_writer}
use Rattle.history.specs.Listing.{Base, BookCopy, counted_copy}
use Rattle.history.specs.Lists.{writer_list}
use Rattle.history.specs.Book.{Book, BookBranch, BookRun, book_branch, book_rule, book_step}
use Rattle.history.proofs.Notions.{Sound}
use Rattle.history.proofs.Listed.{Based}
use Rattle.history.proofs.Carrying.{ListsSound}
use Rattle.history.proofs.ListingEntered.{listed_as}
use Rattle.history.proofs.ListingIssued.{Whole}
use Rattle.consistency.specs.Trace.{ReadSet, finish, Among}
use Rattle.consistency.specs.Claim.{Counted}
use Rattle.consistency.proofs.Closing.{ClosedIn, ClosedAll}
use Rattle.consistency.proofs.Counting.{StandsFor, Masked}

-- A branch and the book's, for the keys of a plan.
pub record BranchFollows (W K : ℕ) (h : History) (B : Base) (plan : Items) (a : Branch)
    (c : BookBranch) : Type 0 where
  pub read : (k : ℕ) → k < K → test_bit a.read k ≡ c.read k
  pub low : (k : ℕ) → So (c.read k) → k < K
  pub snapshot : Counted K h B a.snapshot c.snapshot
  pub led : Masked W K h B a.snapshot c.snapshot
  pub closed : ClosedIn K W h B plan c.snapshot

-- A run and the book's.
pub record RunFollows (W K : ℕ) (h : History) (B : Base) (a : Run) (c : BookRun) : Type 0 where
  pub jobs : a.jobs ≡ c.jobs
  pub job : a.job ≡ c.job
  pub line : (n : ℕ)
      → BranchFollows W K h B (planned c.jobs c.job) (branch_of n a) (book_branch n c)

-- A writer's count, and its past: that of all its issues, with its list.
pub record WriterFollows (K : ℕ) (h : History) (B : Base) (s : Store) (w : ℕ) : Type 0 where
  pub count : (s.writer w).count ≡ B.count w + count_below (length h) (by_writer K h w)
  pub past : (s.writer w).past
      ≡ (counted_copy K h B (listed_as (by_writer K h w) (writer_list B h w))).past

pub record Follows (s : Store) (b : Book) : Type 0 where
  pub counts : s.counts ≡ b.counts
  pub last : s.last ≡ b.base.last + length b.history
  pub based : Based b.base
  pub lists : ListsSound b.base b.history
  pub sound : Sound s.counts.keys s.counts.writers b.history
  -- The master has every write, of later issues and admitted.
  pub master : (k : ℕ) → k < s.counts.keys
      → Whole s.counts.keys s.counts.writers b.history b.base k (s.master k)
      (b.master k)
  pub led-master : Masked s.counts.writers s.counts.keys b.history b.base
      s.master b.master
  pub every : (d i : ℕ) → d < s.counts.keys → So (saved b.history d i)
      → So ((b.master d).later i)
  pub cache : (o : ℕ) → o < s.counts.sites
      → Counted s.counts.keys b.history b.base (s.site o).cache (b.cache o)
  pub led-cache : (o : ℕ) → o < s.counts.sites
      → Masked s.counts.writers s.counts.keys b.history b.base (s.site o).cache
      (b.cache o)
  pub closed : (o : ℕ) → o < s.counts.sites
      → ClosedAll s.counts.keys s.counts.writers b.history b.base (b.cache o)
  pub writer : (w : ℕ) → w < s.counts.writers
      → WriterFollows s.counts.keys b.history b.base s w
  pub run : (r : ℕ) → r < s.counts.runs
      → RunFollows s.counts.writers s.counts.keys b.history b.base (s.run r)
      (b.run r)

-- A copy of key k as it was read, and as it is on the card: what it includes is the same, and what
-- stands behind it of the admitted saves, no more (a join may add what a later count hides).
pub record CopyAs (W k : ℕ) (c d : BookCopy) : Type 0 where
  pub later : (i : ℕ) → c.later i ≡ d.later i
  pub own : (u : ℕ) → u < W → c.rows k u ≡ d.rows k u
  pub rows : (e u : ℕ) → c.rows e u ≤ d.rows e u

-- What a finished job has read is still so on the snapshot of a branch.
pub record ReadAs (W K : ℕ) (a : Branch) (c : BookBranch) (x : ReadSet) : Type 0 where
  pub keys : (k : ℕ) → k < K → So (x.keys k) → So (c.read k)
  pub version : (k : ℕ) → k < K → So (x.keys k) → x.version k ≡ a.snapshot k
  pub copy : (k : ℕ) → k < K → So (x.keys k) → CopyAs W k (x.copy k) (c.snapshot k)

-- So it is on each line on which it stands: one of two, and in a run that isn't forked on line 0.
pub record Entered (W K : ℕ) (h : History) (B : Base) (a : Run) (c : BookRun) (x : ReadSet)
    : Type 0 where
  pub stands : (k : ℕ) → k < K → So (x.keys k) → StandsFor W K h B k (x.version k) (x.copy k)
  pub lines : (n : ℕ) → So (x.on n) → ReadAs W K (branch_of n a) (book_branch n c) x
  pub placed : So (x.on 0) ⊎ So (x.on 1)
  pub single : a.mark ≢ forked_mark → So (x.on 0)

-- All that branch n has read some finished job on it has read.
abbrev pub Covers : ℕ → Run → List ReadSet → Type 0
Covers K a xs =
    (n k : ℕ) → n < 2 → k < K → So (test_bit (branch_of n a).read k)
    → (x : ReadSet) × Among x xs × So (x.on n) × So (x.keys k)

pub record Inv (s : Store) (b : Book) (f : ℕ → List ReadSet) : Type 0 where
  pub follows : Follows s b
  pub reads : (r : ℕ) → r < s.counts.runs → (x : ReadSet) → Among x (f r)
      → Entered s.counts.writers s.counts.keys b.history b.base (s.run r)
      (b.run r) x
  pub covered : (r : ℕ) → r < s.counts.runs → Covers s.counts.keys (s.run r) (f r)
  pub no_run : (r : ℕ) → s.counts.runs ≤ r → (x : ReadSet) → Among x (f r) → ⊥

-- What a call has to show, by its outcome.
abbrev pub Moves : StoreCall → Store → Book → (ℕ → List ReadSet) → Outcome → Type 0
Moves c s b f (refused n) = Inv s b f
Moves c s b f (broken m t) = Inv t b f
Moves c s b f (done a t) = Inv t (book_rule c b) (finish (on c) t (book_rule c b) f)
Moves c s b f (told w a) =
    let after = book_step (on c) (eqb w 0) b in
    Inv s after (cond (eqb w 0) (finish (on c) s after f) f)
