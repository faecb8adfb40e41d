-- One more issue, on copies and in the store: what an issue leaves stands for the book's.
-- ..-grow: what stays as it was. issued_copies, issued-..: the master's copies and versions.
-- entered-stands: the new version, where nothing was admitted; ..-named: its merge names somebody.
-- taken-counted, new_past-entered, new_version-entered: the store makes that version.
-- Assumes nothing.
use mathlib.Core.Path.{◌≡◌, refl, sym, ap, ◌∙◌, fun_ext}
use mathlib.Core.Bool.{cond, So}
use mathlib.Core.List.{◌∷◌}
use Prim.Native.Nat.{ℕ, ◌+◌, ◌≤◌, ◌<◌}
use native.Mathlib.Omega.{arith}
use native.Mathlib.Numerals.{add-one}
use lib.ListN.{length}
use Rattle.words.specs.Tests.{Items}
use Rattle.words.proofs.Bools.{test, ◌∙˙◌, or_left, or_right}
use Rattle.words.proofs.Tests.{below-cases}
use Rattle.words.proofs.Numbers.{fold_same}
use Rattle.masks.specs.Mask.{test_bit, mask_below}
use Rattle.clock.specs.Clock.{Clock, join}
use Rattle.model.specs.Algebra.{Place}
use Rattle.model.specs.Version.{Version, merge}
use Rattle.model.specs.Store.{Branch, Run, Store}
use Rattle.model.specs.Issue.{taken_in, rows_set, new_past, new_version, issued_master}
use Rattle.model.proofs.Merges.{version-path}
use Rattle.history.specs.History.{Issue, History, saved, in_past}
use Rattle.history.specs.Copies.{union}
use Rattle.history.specs.Listing.{Base, no_base, BookCopy, merge_book, read_copy, counted_copy}
use Rattle.history.specs.Lists.{list_of}
use Rattle.history.specs.Book.{Book, BookBranch, BookRun, entry}
use Rattle.history.proofs.Notions.{Sound}
use Rattle.history.proofs.Past.{saved-top, saved_low, saved-below, past_top, top_past-own, past-laws}
use Rattle.history.proofs.Reached.{good-past}
use Rattle.history.proofs.Entered.{read_any}
use Rattle.history.proofs.Leading.{leading-grow, mask-top}
use Rattle.history.proofs.Listed.{Based}
use Rattle.history.proofs.Plain.{plain-listed}
use Rattle.history.proofs.Carrying.{ListsSound, list-most, carries-new}
use Rattle.history.proofs.ListingMerged.{book-fold, book-grow}
use Rattle.history.proofs.ListingEntered.{listed_as, entered_rows, entered_version, new-counted}
use Rattle.history.proofs.ListingIssued.{book-grown, Whole, whole-grow, issued-book}
use Rattle.consistency.specs.Leading.{Named}
use Rattle.consistency.proofs.Simulation.{Related}
use Rattle.consistency.proofs.Closing.{ClosedIn, closed-grow}
use Rattle.consistency.proofs.Counting.{StandsFor, Masked, counted-related, stands-named, stands-merge}
use Rattle.consistency.proofs.Invariant.{BranchFollows, RunFollows, Follows}
use Rattle.consistency.proofs.Following.{master-closed, master-related}

module _ (W K : ℕ) (e : Issue) (h : History) (B : Base) where
  -- ---- places that the issue leaves as they were

  -- A version that stands for a copy,
  pub stands-grow : (k : ℕ) (v : Version) (c : BookCopy) → StandsFor W K h B k v c
      → StandsFor W K (e ∷ h) B k v c
  stands-grow k v c r =
      let below : (i : ℕ) → So (c.later i) → i < length h =
      λ i y. (r.good.good.writes i y).0 in
      record {
        counts = rw (book-grow K e h B (past-laws K h) c below) r.counts;
        good = book-grown K W e h B k c r.good;
        led = λ q. r.led q
            ∙ ap (mask_below W) (sym (fun_ext (leading-grow K e h k c.later below)));
      }

  pub place-grow : {scope : Items} {p : Place Version} {c : Place BookCopy}
      → ClosedIn K W h B scope c → Related K (StandsFor W K h B) p c
      → Related K (StandsFor W K (e ∷ h) B) p c
  place-grow cut r k l = stands-grow k _ _ (r k l)

  pub run-grow : {a : Run} {c : BookRun} → RunFollows W K h B a c → RunFollows W K (e ∷ h) B a c
  run-grow F = record {
    jobs = F.jobs;
    job = F.job;
    line = λ n.
        let G = F.line n in
        let grown = place-grow G.closed (counted-related G.snapshot G.led G.closed) in
        record {
          read = G.read;
          low = G.low;
          snapshot = λ k l. (grown k l).counts;
          led = λ q k l. (grown k l).led q;
          closed = closed-grow G.closed e;
        };
  }

-- ---- the master

module _ (K : ℕ) (e : Issue) (h : History) (B : Base) where
  -- What the new version of a key includes and lists.
  abbrev pub new_copy : Place BookCopy
  new_copy k = listed_as (in_past K (e ∷ h) (length h) k) (list_of B (e ∷ h) (length h))

  -- The master's copies after the issue.
  unfoldable pub issued_copies : Place BookCopy → Place BookCopy
  issued_copies m k = cond (e.keys k) (merge_book K (e ∷ h) (m k) (new_copy k)) (m k)

  -- It has every write.
  pub issued-every : (m : Place BookCopy)
      → ((d i : ℕ) → d < K → So (saved h d i) → So ((m d).later i))
      → (d i : ℕ) → d < K → So (saved (e ∷ h) d i) → So ((issued_copies m d).later i)
  unfolding issued_copies merge_book union
  issued-every m all d i l p =
      below-cases i (length h) (saved-below (e ∷ h) d i p)
      (λ q.
      let y = saved-top e h d ∙˙ (rw q at p) in
      let own = past_top K e h d (length h) ∙ top_past-own K e h d y in
      rw (y, q) (or_right ((m d).later (length h)) own))
      (λ q.
      let old = all d i l (saved_low e h d i q ∙˙ p) in
      test (e.keys d) (λ y. rw y (or_left (in_past K (e ∷ h) (length h) d i) old))
      (λ n. rw n old))

-- ---- and its versions stand for these

module _ (W K : ℕ) (e : Issue) (h : History) (B : Base) (based : Based B)
    (sound : Sound K W (e ∷ h)) (lists : ListsSound B (e ∷ h)) where
  within : (d u : ℕ) → list_of B (e ∷ h) (length h) d u ≤ B.saves d u
  within = list-most B based e h lists

  pub issued-whole : (m : Place BookCopy) (p : Place Version)
      → ((k : ℕ) → k < K → Whole K W h B k (p k) (m k)) → (k : ℕ) → k < K
      → Whole K W (e ∷ h) B k (cond (e.keys k) (merge W k (p k) (entered_version K e h B)) (p k))
      (issued_copies K e h B m k)
  unfolding issued_copies
  issued-whole m p r k l =
      test (e.keys k)
      (λ y. rw y (issued-book K W e h B based sound lists.carried within k y (p k) (m k)
      (r k l)))
      (λ n. rw n (whole-grow K W e h B k (p k) (m k) (r k l)))

  -- Where nothing was admitted, the new version stands for what it includes.
  pub entered-stands : B ≡ no_base → e.writer < W → (k : ℕ) → So (e.keys k)
      → StandsFor W K (e ∷ h) B k (entered_version K e h B) (new_copy K e h B k)
  unfolding entered_version
  entered-stands plain hw k s =
      let laws = past-laws K (e ∷ h) in
      let low : (d u : ℕ) → list_of B (e ∷ h) (length h) d u ≤ B.count u =
      λ d u. omega (arith, within d u, based.counts d u) in
      record {
        counts = new-counted K e h B (past-laws K h) low laws k s;
        good = record {
          good = good-past K (e ∷ h) laws (length h) k (omega arith);
          listed = plain-listed B W k (new_copy K e h B k) plain refl within;
          carries = carries-new B K W e h sound lists.carried k;
        };
        led = λ _. mask-top K e h k laws s W hw;
      }

  module _ (plain : B ≡ no_base) {scope : Items} (m : Place BookCopy)
      (cut : ClosedIn K W h B scope m) (p : Place Version) (r : Related K (StandsFor W K h B) p m)
      (hw : e.writer < W) where
    -- The merge with it names somebody.
    pub issued-named : (k : ℕ) → k < K → So (e.keys k)
        → Named W k (p k) (entered_version K e h B)
    issued-named k l s =
        stands-named K W (e ∷ h) B (past-laws K (e ∷ h)) based sound.writers k (p k)
        (entered_version K e h B) (m k) (new_copy K e h B k) (place-grow W K e h B cut r k l)
        (entered-stands plain hw k s) plain

    pub issued-led : (k : ℕ) → k < K → StandsFor W K (e ∷ h) B k
        (cond (e.keys k) (merge W k (p k) (entered_version K e h B)) (p k))
        (issued_copies K e h B m k)
    unfolding issued_copies
    issued-led k l =
        let old = place-grow W K e h B cut r k l in
        test (e.keys k)
        (λ y. rw y (stands-merge K W (e ∷ h) B (past-laws K (e ∷ h)) based sound.writers k
        (p k) (entered_version K e h B) (m k) (new_copy K e h B k) old
        (entered-stands plain hw k y)))
        (λ n. rw n old)

-- ---- the version that the store makes

-- What a run read, taken into a past: the copies that the book's run read, counted.
pub taken-counted : (W K : ℕ) (h : History) (B : Base) (past : ℕ → Clock) (plan : Items)
    (a : Branch) (c : BookBranch) → BranchFollows W K h B plan a c → (d : ℕ)
    → taken_in K a.read a.snapshot past d
    ≡ join (past d) ((counted_copy K h B (read_copy K c.read c.snapshot)).past d)
unfolding taken_in
taken-counted W K h B past plan a c F d =
    fold_same K (λ k x. cond (test_bit a.read k) (join x ((a.snapshot k).past d)) x)
    (λ k x. cond (c.read k) (join x ((counted_copy K h B (c.snapshot k)).past d)) x)
    (λ k x l. rw (F.read k l, (F.snapshot k l).past)) (past d)
    ∙ book-fold K h B K c.read c.snapshot d (past d)

module _ (s : Store) (b : Book) (F : Follows s b) (r w S : ℕ) (hr : r < s.counts.runs)
    (hw : w < s.counts.writers) where
  pub new_past-entered : new_past s r w S
      ≡ entered_rows s.counts.keys (entry r w S b) b.history b.base
  unfolding new_past rows_set entered_rows entry read_any read_copy join
  new_past-entered =
      fun_ext (λ d. fun_ext (λ u.
      let v = F.writer w hw in
      let K = s.counts.keys in
      rw (
        taken-counted s.counts.writers K b.history b.base (s.writer w).past _
            (s.run r).branch (b.run r).branch ((F.run r hr).line 0) d,
        v.past,
        v.count,
        F.counts,
        add-one,
      )))

  pub new_version-entered : new_version (s.last + 1) w (new_past s r w S)
      ≡ entered_version s.counts.keys (entry r w S b) b.history b.base
  unfolding new_version entered_version entry
  new_version-entered = version-path (omega (arith, F.last)) refl new_past-entered

  module _ (sound : Sound s.counts.keys s.counts.writers (entry r w S b ∷ b.history))
      (lists : ListsSound b.base (entry r w S b ∷ b.history)) where
    -- The merges with it name somebody.
    pub issued_master-named : b.base ≡ no_base
        → (k : ℕ) → k < s.counts.keys → So (test_bit S k)
        → Named s.counts.writers k (s.master k)
        (new_version (s.last + 1) w (new_past s r w S))
    unfolding entry
    issued_master-named plain k l p =
        rw new_version-entered
        (issued-named s.counts.writers s.counts.keys (entry r w S b) b.history b.base
        F.based sound lists plain b.master (master-closed F) s.master (master-related F)
        hw k l p)

    -- The master's versions are those of the new history.
    pub issued_master-whole : (k : ℕ) → k < s.counts.keys
        → Whole s.counts.keys s.counts.writers (entry r w S b ∷ b.history) b.base k
        (issued_master s.counts.writers S (new_version (s.last + 1) w (new_past s r w S))
        s.master k)
        (issued_copies s.counts.keys (entry r w S b) b.history b.base b.master k)
    unfolding issued_master entry
    issued_master-whole k l =
        rw new_version-entered
        (issued-whole s.counts.writers s.counts.keys (entry r w S b) b.history b.base
        F.based sound lists b.master s.master F.master k l)

    pub issued_master-led : Masked s.counts.writers s.counts.keys
        (entry r w S b ∷ b.history) b.base
        (issued_master s.counts.writers S (new_version (s.last + 1) w (new_past s r w S))
        s.master)
        (issued_copies s.counts.keys (entry r w S b) b.history b.base b.master)
    unfolding issued_master entry
    issued_master-led plain k l =
        rw new_version-entered
        ((issued-led s.counts.writers s.counts.keys (entry r w S b) b.history b.base
        F.based sound lists plain b.master (master-closed F) s.master (master-related F)
        hw k l).led plain)
