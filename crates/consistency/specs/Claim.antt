-- Demand 3: one claim about a whole list of calls on the buffer that an accepted new left, or
-- that was admitted.
-- PastIsBefore ("stands behind"), Counted (b; masks: specs/Leading), Snapshot (c), NotAhead (no
-- copy is ahead of the master's), IsBehind (one is behind it), Pick, Works, BreakExact (d), Holds
-- (all of it at one point of the list), Consistent; Began, Demand3, AfterAdmission.
-- Assumes nothing.
use Rattle.std.specs.Prelude.{◌≡◌, Bool, true, false, cond, ◌↔◌, ◌⊎◌, ◌≢◌, List, ◌++◌, ℕ, ◌≤◌, ◌<◌}
use Rattle.std.proofs.Math.Bool.{So}
use Rattle.masks.specs.Mask.{test_bit}
use Rattle.clock.specs.declared.Standing.TheVariants.{Equal, Older}
use Rattle.clock.specs.Clock.{standing}
use Rattle.sizes.specs.declared.Counts.{Counts}
use Rattle.model.specs.Algebra.{Place, needs_met, causal_cut, overlapping_cut}
use Rattle.model.specs.Version.{Version, held, merge, unheld, versions}
use Rattle.model.specs.Marks.{stale_mask}
use Rattle.model.specs.Allowance.{held_count}
use Rattle.model.specs.Store.{forked_mark, branch_of, Store, planned}
use Rattle.model.specs.Outcome.{Outcome, refused, broken, done, told}
use Rattle.model.specs.Calls.Admit.{admissible}
use Rattle.model.specs.Calls.{step, admit, ask}
use Rattle.model.specs.Step.{step_branch, step_reads, step_cache, step_plan}
use Rattle.layout.specs.Reading.{store_of}
use Rattle.layout.specs.Buffer.{in_form}
use Rattle.layout.specs.Calls.{Call, on, call_on, new_on, is_ok_of}
use Rattle.history.specs.History.{History, HappensBefore, saved, in_past}
use Rattle.history.specs.Copies.{CountedAs}
use Rattle.history.specs.Listing.{Base, no_base, BookCopy, counted_copy}
use Rattle.history.specs.Lists.{IncludesAdmitted, ListedBehind}
use Rattle.history.specs.Book.{book_branch, Book}
use Rattle.consistency.specs.Trace.{ReadSet, Among, Trace, start, admitted, follow}
use Rattle.consistency.specs.Leading.{Leading}
use Rattle.consistency.specs.Listed.{ListsHold}

-- ---- "Save s stands behind save t": what the book computes is the paper's four clauses

-- For every save, that of key e in issue i: the past of issue i has that save and those that stand
-- behind it, and no other.
abbrev pub PastIsBefore : ℕ → History → Type 0
PastIsBefore K h =
    (d j e i : ℕ) → So (saved h e i)
    → So (in_past K h i d j) ↔ (((d ≡ e) × (j ≡ i)) ⊎ HappensBefore h d j e i)

-- ---- (b) "each version on master, shelves and cards is the one that document 01's book gives"

-- Number and rows; the mask stands apart (specs/Leading): together all of a version.
abbrev pub Counted : ℕ → History → Base → Place Version → Place BookCopy → Type 0
Counted K h B p c = (k : ℕ) → k < K → CountedAs (p k) (counted_copy K h B (c k))

-- The same of the keys that a finished job has read.
abbrev pub ReadCounted : ℕ → History → Base → ReadSet → Type 0
ReadCounted K h B x =
    (k : ℕ) → k < K → So (x.keys k)
    → CountedAs (x.version k) (counted_copy K h B (x.copy k))

-- ---- (c) "two finished jobs of one run, at one office or two, share one causal snapshot"

pub record Snapshot (K W : ℕ) (h : History) (B : Base) (x y : ReadSet) : Type 0 where
  -- "a sheet that both read is one version"
  pub one-version : (k : ℕ) → k < K → So (x.keys k) → So (y.keys k) → x.version k ≡ y.version k
  -- "each save of a sheet that either read, if by the book it stands behind anything either read,
  -- is included in the version read": for x and y in either order, and for each with itself
  pub included : (e i d j : ℕ) → e < K → d < K → So (x.keys e) → So ((x.copy e).later i)
      → So (y.keys d) → HappensBefore h d j e i → So ((y.copy d).later j)
  -- CR 6: so are admitted saves, "with needs listed at admission in place of the earlier history"
  pub listed : (e d u n : ℕ) → e < K → d < K → u < W → So (x.keys e) → So (y.keys d)
      → ListedBehind B h (x.copy e) d u n → IncludesAdmitted d (y.copy d) u n

-- ---- "which copy is ahead": never one on a shelf or card

-- Each version of the place, by its own row, is equal to the master's or older.
abbrev pub NotAhead : ℕ → ℕ → Place Version → Place Version → Type 0
NotAhead W K master p =
    (k : ℕ) → k < K → let s = standing W ((p k).past k) ((master k).past k) in
    (s ≡ Equal) ⊎ (s ≡ Older)

-- ---- CR 4: "which shelf copies are behind", on copies

-- A shelf's copy of key k that isn't empty and isn't the master's: by the later saves, and the
-- admitted ones of its own row.
pub record IsBehind (W k : ℕ) (c master : BookCopy) : Type 0 where
  pub some : ((i : ℕ) × So (c.later i)) ⊎ ((u : ℕ) × (u < W) × IncludesAdmitted k c u 1)
  pub other : ¬ (((i : ℕ) → c.later i ≡ master.later i)
      × ((u : ℕ) → u < W → c.rows k u ≡ master.rows k u))

-- ---- (d) "a step in the list that is not turned down breaks its run exactly if no choice .. "

-- "for each sheet of the plan, of the card's version, the office's (after the step's fetch),
-- their merge or none"
pub data Pick : Type 0 where
  of_snapshot : Pick
  of_cache : Pick
  merged : Pick
  neither : Pick

unfoldable pub pick_of : ℕ → ℕ → Pick → Version → Version → Version
pick_of W k of_snapshot snapshot cache = snapshot
pick_of W k of_cache snapshot cache = cache
pick_of W k merged snapshot cache = merge W k snapshot cache
pick_of W k neither snapshot cache = unheld

-- The choice made for run r's job j on branch n: nothing outside of the plan.
unfoldable pub chosen : Store → ℕ → ℕ → ℕ → (ℕ → Pick) → Place Version
chosen s r j n pick k =
    cond (step_plan s r j n k)
    (pick_of s.counts.writers k (pick k) ((step_branch s r j n).snapshot k) (step_cache s r j n k))
    unheld

-- It "holds all that the job reads, leaves the sheets already read as they were and meets every
-- need among the plan's sheets".
pub record Works (s : Store) (r j n : ℕ) (pick : ℕ → Pick) : Type 0 where
  pub holds : (k : ℕ) → k < s.counts.keys → So (step_reads s r j n k)
      → So (held (chosen s r j n pick k))
  pub keeps : (k : ℕ) → k < s.counts.keys → So (test_bit (step_branch s r j n).read k)
      → chosen s r j n pick k ≡ (step_branch s r j n).snapshot k
  pub meets : So (needs_met (versions s.counts.writers) s.counts.keys (step_plan s r j n)
      (chosen s r j n pick))

unfoldable pub is_refused : Outcome → Bool
is_refused (refused n) = true
is_refused (broken m s) = false
is_refused (done a s) = false
is_refused (told w a) = false

unfoldable pub is_broken : Outcome → Bool
is_broken (refused n) = false
is_broken (broken m s) = true
is_broken (done a s) = false
is_broken (told w a) = false

abbrev pub Choice : Store → ℕ → ℕ → ℕ → Type 0
Choice s r j n = (pick : ℕ → Pick) × Works s r j n pick

-- Of what a step of run r's job j, on branch n, on the store s came to.
pub record BreakExact (x : Outcome) (s : Store) (r j n : ℕ) : Type 0 where
  -- "that is not turned down breaks its run exactly if no choice .."
  pub exactly : is_refused x ≡ false → So (is_broken x) ↔ ¬ (Choice s r j n)
  -- and one that is done has a choice that works.
  pub works : So (is_ok_of x) → Choice s r j n

-- ---- all of it, at one point of the list: store, book, and what finished jobs have read

pub record Holds (s : Store) (b : Book) (finished : ℕ → List ReadSet) : Type 0 where
  pub counts : s.counts ≡ b.counts
  pub behind : PastIsBefore s.counts.keys b.history
  pub lists : ListsHold s b finished
  -- (a) "each shelf is a causal cut"
  pub cuts : (o : ℕ) → o < s.counts.sites
      → So (causal_cut (versions s.counts.writers) s.counts.keys (s.site o).cache)
  -- (b)
  pub master : Counted s.counts.keys b.history b.base s.master b.master
  pub caches : (o : ℕ) → o < s.counts.sites
      → Counted s.counts.keys b.history b.base (s.site o).cache (b.cache o)
  pub snapshots : (r n : ℕ) → r < s.counts.runs
      → Counted s.counts.keys b.history b.base (branch_of n (s.run r)).snapshot
      (book_branch n (b.run r)).snapshot
  pub reads : (r : ℕ) (x : ReadSet) → Among x (finished r)
      → ReadCounted s.counts.keys b.history b.base x
  -- The masks, of a list from new: an admitted desk's are free.
  pub leads : b.base ≡ no_base → Leading s b finished
  -- (c), CR 10: "two share one if on one line, or if one was done before the fork", and "once
  -- their lines are joined"
  pub shared : (r : ℕ) (x y : ReadSet) → Among x (finished r) → Among y (finished r)
      → (n : ℕ) → So (x.on n) → So (y.on n)
      → Snapshot s.counts.keys s.counts.writers b.history b.base x y
  -- Each stands on a line, in a run that isn't forked on line 0: there any two share one.
  pub placed : (r : ℕ) (x : ReadSet) → Among x (finished r) → So (x.on 0) ⊎ So (x.on 1)
  pub single : (r : ℕ) (x : ReadSet) → Among x (finished r) → (s.run r).mark ≢ forked_mark
      → So (x.on 0)
  -- What one has read is still on the card of each line on which it stands, and read there; and
  -- all that was read on a line some finished job on it has read.
  pub kept : (r : ℕ) (x : ReadSet) → Among x (finished r) → (n k : ℕ) → So (x.on n)
      → k < s.counts.keys → So (x.keys k)
      → ((branch_of n (s.run r)).snapshot k ≡ x.version k)
      × So (test_bit (branch_of n (s.run r)).read k)
  pub covered : (r n k : ℕ) → r < s.counts.runs → n < 2 → k < s.counts.keys
      → So (test_bit (branch_of n (s.run r)).read k)
      → (x : ReadSet) × Among x (finished r) × So (x.on n) × So (x.keys k)
  -- Besides: each card is a keyset-overlapping cut for its plan, and the master holds every save.
  pub overlaps : (r n : ℕ) → r < s.counts.runs
      → So (overlapping_cut (versions s.counts.writers) s.counts.keys
      (planned (s.run r).jobs (s.run r).job) (branch_of n (s.run r)).snapshot)
  pub every-save : (k i : ℕ) → k < s.counts.keys → So (saved b.history k i)
      → So ((b.master k).later i)
  -- CR 6: it would be admitted.
  pub admissible : So (admissible s)
  -- No copy is ahead of the master's.
  pub behind-caches : (o : ℕ) → o < s.counts.sites
      → NotAhead s.counts.writers s.counts.keys s.master (s.site o).cache
  pub behind-snapshots : (r n : ℕ) → r < s.counts.runs
      → NotAhead s.counts.writers s.counts.keys s.master
      (branch_of n (s.run r)).snapshot
  -- A shelf's copy is a part of the master's.
  pub caches-part : (o k i : ℕ) → o < s.counts.sites → k < s.counts.keys
      → So ((b.cache o k).later i) → So ((b.master k).later i)
  pub caches-admitted : (o k u : ℕ) → o < s.counts.sites → k < s.counts.keys
      → u < s.counts.writers → (b.cache o k).rows k u ≤ (b.master k).rows k u
  -- CR 4: each shelf's mark is "the mask of held sheets whose own row isn't equal to the
  -- master's", and names the copies that are behind.
  pub marks_true : (o : ℕ) → o < s.counts.sites
      → (s.site o).stale ≡ stale_mask s.counts s.master (s.site o).cache
  pub marks-copies : (o k : ℕ) → o < s.counts.sites → k < s.counts.keys
      → So (test_bit (s.site o).stale k)
      ↔ IsBehind s.counts.writers k (b.cache o k) (b.master k)
  -- CR 7: "No shelf ever holds more".
  pub within : (o : ℕ) → o < s.counts.sites
      → held_count s.counts.keys (s.site o).cache ≤ (s.site o).allowance
  -- CR 9: "No shelf ever holds a sheet barred to its office".
  pub unbarred : (o k : ℕ) → o < s.counts.sites → k < s.counts.keys
      → So (held ((s.site o).cache k)) → So (test_bit (s.tail.may_hold o) k)

-- At a point: the buffer is in form too, so that a store that spoils itself and then refuses all
-- won't do. (d) is about the step as a call on that buffer, on each branch.
pub record HoldsAt (t : Trace) : Type 0 where
  pub formed : So (in_form t.buffer)
  pub holds : Holds (store_of t.buffer) t.book t.finished
  pub breaks : (r j n : ℕ)
      → BreakExact (call_on (on (step r j n)) t.buffer) (store_of t.buffer) r j n

-- ---- the claim about the list: it holds at each of its points, the first and the last included

abbrev pub Consistent : List Call → Trace → Type 0
Consistent cs t = (sofar rest : List Call) → cs ≡ sofar ++ rest → HoldsAt (follow sofar t)

-- How a list may begin: on what an accepted new left, or on a buffer that was admitted (CR 6).
pub data Began : Trace → Type 0 where
  by_new : (l : List ℕ) (z : Counts) → So (is_ok_of (new_on l z)) → Began (start z l)
  by_admission : (l : List ℕ) → So (is_ok_of (call_on (on (ask admit)) l)) → Began (admitted l)

-- One claim for both.
abbrev pub BeganConsistent : Type 0
BeganConsistent = (t : Trace) → Began t → (cs : List Call) → Consistent cs t

-- Demand 3, for every list of calls after an accepted new, on any buffer.
abbrev pub Demand3 : Type 0
Demand3 =
    (l : List ℕ) (z : Counts) → So (is_ok_of (new_on l z))
    → (cs : List Call) → Consistent cs (start z l)

-- CR 6: "After admission, cuts and snapshots hold for later calls as on a new desk".
abbrev pub AfterAdmission : Type 0
AfterAdmission =
    (l : List ℕ) → So (is_ok_of (call_on (on (ask admit)) l))
    → (cs : List Call) → Consistent cs (admitted l)
