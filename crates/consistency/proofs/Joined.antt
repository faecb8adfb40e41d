-- A join on versions and on copies (CR 10): both branches of a run as one.
-- joined-closed: the union of two cuts is one. copy_joined, joined_book: the book's; book-join:
-- they
-- are. joined-.., join-follows: the store's stand for them. Joined, first-keeps, second-keeps:
-- what was read on a line is so on the card after it.
-- Assumes nothing.
use mathlib.Core.Path.{◌≡◌, sym, ap, ap₂, ◌∙◌}
use mathlib.Core.Bool.{So, false, ◌||◌}
use mathlib.Core.Logic.{inl, inr}
use Prim.Native.Nat.{ℕ, ◌≤◌, ◌<◌}
use native.Mathlib.Omega.{arith}
use Rattle.words.specs.Tests.{Items, any_below}
use Rattle.words.proofs.Bools.{◌∙˙◌, or_left, or_right, or_cases}
use Rattle.masks.specs.Mask.{test_bit}
use Rattle.masks.proofs.Bits.{test-or}
use Rattle.clock.specs.Clock.{join}
use Rattle.clock.proofs.Standings.{standing-equal}
use Rattle.model.specs.Algebra.{Algebra, Place}
use Rattle.model.specs.Version.{Version, merge}
use Rattle.model.specs.Store.{branch_of, Store, planned}
use Rattle.model.specs.Calls.Fork.{joined_place, joined_branch, joined_run, join_moved}
use Rattle.model.proofs.Moved.{moved-equal}
use Rattle.model.proofs.Forks.{Joinable, join-still}
use Rattle.layout.proofs.Inside.{place_inside}
use Rattle.layout.proofs.Follow.{Fine}
use Rattle.history.specs.Listing.{merge_book, book_copies}
use Rattle.history.specs.Book.{BookBranch, BookRun, book_branch, book_run_with, Book, no_book_branch, book_join, with_book_run}
use Rattle.history.proofs.Past.{past-laws}
use Rattle.consistency.specs.Trace.{ReadSet, later}
use Rattle.consistency.proofs.Simulation.{Related}
use Rattle.consistency.proofs.CopyLaws.{Writes, CopyLaws, CopyCut}
use Rattle.consistency.proofs.Closing.{ClosedIn}
use Rattle.consistency.proofs.Marking.{copies-equal}
use Rattle.consistency.proofs.Invariant.{BranchFollows, RunFollows, Follows, CopyAs, ReadAs}
use Rattle.consistency.proofs.Following.{Stands, now-simulates, now-laws, snapshot-related, on-lines, none-follows}

-- "Merge is union": of two cuts within one scope it is one.
joined-closed : {A : Type 0} {alg : Algebra A} {S : Writes A} → CopyLaws alg S → (K : ℕ)
    (scope : Items) (p q : Place A) → CopyCut S K scope p → CopyCut S K scope q
    → CopyCut S K scope (joined_place alg p q)
unfolding joined_place
joined-closed L K scope p q P Q = record {
  good = λ k l. L.merge-good k (p k) (q k) (P.good k l) (Q.good k l);
  within = λ k x l i. elim ((L.merge_in k (p k) (q k) x).0 i) [
    | inl y ↦ P.within k x l y
    | inr y ↦ Q.within k x l y
  ];
  closed = λ k d x lk ld o y. elim (L.merge-behind k d (p k) (q k) x y) [
    | inl z ↦ (L.merge_in d (p d) (q d) x).1 (inl (P.closed k d x lk ld o z))
    | inr z ↦ (L.merge_in d (p d) (q d) x).1 (inr (Q.closed k d x lk ld o z))
  ];
}

-- The book's branches as one, with the store's counts.
module _ (s : Store) (b : Book) (r : ℕ) where
  unfoldable pub copy_joined : BookBranch
  copy_joined =
      let a = b.run r in
      let alg = book_copies s.counts.keys s.counts.writers b.history in
      record {
        read = λ k. a.branch.read k || a.second.read k;
        snapshot = joined_place alg a.branch.snapshot a.second.snapshot;
      }

  abbrev pub joined_book : BookRun
  joined_book = book_run_with (b.run r) copy_joined no_book_branch

  -- What a finished job has read is so on the card after the join.
  abbrev pub Joined : ReadSet → Type 0
  Joined x =
      ReadAs s.counts.writers s.counts.keys (joined_branch s r) copy_joined x

  pub book-join : Follows s b → book_join r b ≡ with_book_run b r joined_book
  unfolding book_join copy_joined
  book-join F = rw (← F.counts)

module _ {s : Store} {b : Book} {r : ℕ} (F : Follows s b) (A : Joinable s r) where
  joined-related : Related s.counts.keys (Stands s b) (joined_branch s r).snapshot
      (copy_joined s b r).snapshot
  unfolding joined_branch copy_joined joined_place
  joined-related k l =
      (now-simulates F).merge k _ _ _ _ l (snapshot-related F r 0 A.run_in k l)
      (snapshot-related F r 1 A.run_in k l)

  joined-read : (k : ℕ) → k < s.counts.keys
      → test_bit (joined_branch s r).read k ≡ (copy_joined s b r).read k
  unfolding joined_branch copy_joined
  joined-read k l =
      let G = F.run r A.run_in in
      test-or (s.run r).branch.read (s.run r).second.read k
      ∙ ap₂ ◌||◌ ((G.line 0).read k l) ((G.line 1).read k l)

  joined-low : (k : ℕ) → So ((copy_joined s b r).read k) → k < s.counts.keys
  unfolding copy_joined
  joined-low k p =
      let G = F.run r A.run_in in
      elim (or_cases ((b.run r).branch.read k) ((b.run r).second.read k) p) [
        | inl q ↦ (G.line 0).low k q
        | inr q ↦ (G.line 1).low k q
      ]

  joined-cut : ClosedIn s.counts.keys s.counts.writers b.history b.base
      (planned (b.run r).jobs (b.run r).job) (copy_joined s b r).snapshot
  unfolding copy_joined
  joined-cut =
      let G = F.run r A.run_in in
      joined-closed (now-laws F) s.counts.keys (planned (b.run r).jobs (b.run r).job)
      (b.run r).branch.snapshot (b.run r).second.snapshot (G.line 0).closed
      (G.line 1).closed

  joined-branch : BranchFollows s.counts.writers s.counts.keys b.history b.base
      (planned (b.run r).jobs (b.run r).job) (joined_branch s r) (copy_joined s b r)
  joined-branch = record {
    read = joined-read;
    low = joined-low;
    snapshot = λ k l. (joined-related k l).counts;
    led = λ e k l. (joined-related k l).led e;
    closed = joined-cut;
  }

  pub join-follows : RunFollows s.counts.writers s.counts.keys b.history b.base
      (joined_run s r) (joined_book s b r)
  unfolding joined_run
  join-follows =
      let G = F.run r A.run_in in
      let plan = planned (b.run r).jobs (b.run r).job in
      record {
        jobs = G.jobs;
        job = G.job;
        line = on-lines (BranchFollows s.counts.writers s.counts.keys b.history
            b.base plan) (joined_run s r) (joined_book s b r) joined-branch
            (none-follows s.counts.writers s.counts.keys b.history b.base plan);
      }

  -- A version of a line that the merge leaves as it is: its copy includes what the merge's does.
  kept-copy : (n k : ℕ) → k < s.counts.keys
      → (joined_branch s r).snapshot k ≡ (branch_of n (s.run r)).snapshot k
      → ((e u : ℕ) → ((book_branch n (b.run r)).snapshot k).rows e u
      ≤ ((copy_joined s b r).snapshot k).rows e u)
      → CopyAs s.counts.writers k ((book_branch n (b.run r)).snapshot k)
      ((copy_joined s b r).snapshot k)
  kept-copy n k l e rows =
      let W = s.counts.writers in
      let x = (branch_of n (s.run r)).snapshot k in
      let y = (joined_branch s r).snapshot k in
      let same = (copies-equal (past-laws s.counts.keys b.history) F.based
      F.sound.writers k x y _ _ (snapshot-related F r n A.run_in k l)
      (joined-related k l)).0
      ((standing-equal W (x.past k) (y.past k)).1 (λ u _. ap (λ (z : Version). z.past k u)
      (sym e))) in
      record { later = same.0; own = same.1; rows = rows }

  module _ (fine : Fine s) (none : any_below s.counts.keys (join_moved s r) ≡ false) where
    -- What was read on a line stays: its version, and what its copy includes.
    unmoved : (k : ℕ) → k < s.counts.keys
        → (So (test_bit (s.run r).branch.read k)
        → (joined_branch s r).snapshot k ≡ (s.run r).branch.snapshot k)
        × (So (test_bit (s.run r).second.read k)
        → (joined_branch s r).snapshot k ≡ (s.run r).second.snapshot k)
    unfolding joined_branch joined_place
    unmoved =
        let z = s.counts in
        let fits = fine.fits.run.each r A.run_in in
        (moved-equal z (s.run r).branch (s.run r).second
        (place_inside z (s.run r).branch.snapshot fits.snapshot)
        (place_inside z (s.run r).second.snapshot fits.second)).0 (join-still s r none)

    keep : (n : ℕ) (x : ReadSet)
        → ((k : ℕ) → k < s.counts.keys → So ((book_branch n (b.run r)).read k)
        → So ((copy_joined s b r).read k)
        × ((joined_branch s r).snapshot k ≡ (branch_of n (s.run r)).snapshot k))
        → ((k e u : ℕ) → ((book_branch n (b.run r)).snapshot k).rows e u
        ≤ ((copy_joined s b r).snapshot k).rows e u)
        → ReadAs s.counts.writers s.counts.keys (branch_of n (s.run r))
        (book_branch n (b.run r)) x
        → Joined s b r x
    keep n x still rows R = record {
      keys = λ k h p. (still k h (R.keys k h p)).0;
      version = λ k h p. R.version k h p ∙ sym (still k h (R.keys k h p)).1;
      copy = λ k h p.
          let C = kept-copy n k h (still k h (R.keys k h p)).1 (rows k) in
          let D = R.copy k h p in
          record {
            later = λ i. D.later i ∙ C.later i;
            own = λ u l. D.own u l ∙ C.own u l;
            rows = λ e u. omega (arith, D.rows e u, C.rows e u);
          };
    }

    pub first-keeps : (x : ReadSet) → ReadAs s.counts.writers s.counts.keys
        (s.run r).branch (b.run r).branch x → Joined s b r x
    unfolding copy_joined joined_place merge_book join
    first-keeps x =
        let G = F.run r A.run_in in
        keep 0 x (λ k h p. (
          or_left ((b.run r).second.read k) p,
          (unmoved k h).0 (sym ((G.line 0).read k h) ∙˙ p),
        )) (λ k e u. omega arith)

    pub second-keeps : (x : ReadSet) → ReadAs s.counts.writers s.counts.keys
        (s.run r).second (b.run r).second x → Joined s b r x
    unfolding copy_joined joined_place merge_book join
    second-keeps x =
        let G = F.run r A.run_in in
        keep 1 x (λ k h p. (
          or_right ((b.run r).branch.read k) p,
          (unmoved k h).1 (sym ((G.line 1).read k h) ∙˙ p),
        )) (λ k e u. omega arith)
