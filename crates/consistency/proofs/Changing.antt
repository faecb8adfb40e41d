-- The invariant with one part changed, and on a fresh store.
-- HasRead: what a list of finished jobs has read.
-- inv-..: with a cache, all caches or a run changed; inv-anew: a run begun or freed; inv-state:
-- one that breaks.
-- Assumes nothing.
use mathlib.Core.Path.{◌≡◌, refl, sym, ap, ◌∙◌}
use mathlib.Core.Bool.{false≢true}
use mathlib.Core.Logic.{◌≢◌}
use mathlib.Core.List.{List, []}
use Prim.Native.Nat.{ℕ, ◌<◌}
use native.Mathlib.Omega.{arith}
use lib.Dec.{eqb}
use Rattle.words.specs.Numbers.{count_below}
use Rattle.words.specs.Lists.{put_at}
use Rattle.words.proofs.Bools.{test, clash, ◌∙˙◌}
use Rattle.masks.specs.Mask.{test_bit}
use Rattle.masks.proofs.Bits.{test-none}
use Rattle.words.proofs.Lists.{put_at_same, put_at_other, put_at_cases, put_at_both, put_at_itself}
use Rattle.sizes.specs.declared.Counts.{Counts}
use Rattle.model.specs.Algebra.{Place}
use Rattle.model.specs.Version.{Version}
use Rattle.model.specs.Store.{Run, branch_of, free_run, Site, Store, fresh, with_sites, with_cache, with_run, with_state}
use Rattle.layout.proofs.Fit.{fresh-cache}
use Rattle.history.specs.History.{saved}
use Rattle.history.specs.Listing.{no_base, BookCopy}
use Rattle.history.specs.Book.{BookRun, Book, fresh_book, with_book_caches, with_book_run}
use Rattle.history.proofs.Sounds.{sound_empty}
use Rattle.history.proofs.Listed.{no-based}
use Rattle.history.proofs.Carrying.{lists-empty}
use Rattle.history.proofs.ListingMerged.{book-none}
use Rattle.history.proofs.ListingEntered.{begin-past}
use Rattle.history.proofs.BookWrites.{write-nothing-good}
use Rattle.consistency.specs.Trace.{ReadSet, Among}
use Rattle.consistency.proofs.Simulation.{Related}
use Rattle.consistency.proofs.CopyLaws.{empty-cut}
use Rattle.consistency.proofs.Closing.{copy-laws, ClosedAll}
use Rattle.consistency.proofs.Counting.{StandsFor, masked-none}
use Rattle.consistency.proofs.Invariant.{RunFollows, Follows, CopyAs, Entered, Covers, Inv}
use Rattle.consistency.proofs.Following.{Stands, free-follows, follows-caches, follows-cache, follows-run}

-- ---- what finished jobs have read

abbrev pub HasRead : Store → Book → Run → BookRun → List ReadSet → Type 0
HasRead s b a c xs =
    (x : ReadSet) → Among x xs
    → Entered s.counts.writers s.counts.keys b.history b.base a c x

-- A copy is as it was read.
pub copy-same : {W k : ℕ} {c : BookCopy} → CopyAs W k c c
copy-same = record { later = λ _. refl; own = λ _ _. refl; rows = λ _ _. omega arith }

pub none-among {ℓ} : {X : Type ℓ} {x : ReadSet} → Among x [] → X
none-among a = elim a [ ]

-- A run that begins anew, or is freed: none of its jobs is finished.
pub nothing_read : (s : Store) (b : Book) (a : Run) (c : BookRun) (f : ℕ → List ReadSet) (r : ℕ)
    → HasRead s b a c (put_at f r [] r)
nothing_read s b a c f r x i = none-among (rw (put_at_same f r []) at i)

-- What has read nothing is covered.
pub nothing-covers : (K : ℕ) (a : Run) (xs : List ReadSet) → ((n : ℕ) → (branch_of n a).read ≡ 0)
    → Covers K a xs
nothing-covers K a xs blank n k _ _ p =
    clash (ap (λ (m : ℕ). test_bit m k) (blank n) ∙˙ p) (test-none k)

pub free-unread : (n : ℕ) → (branch_of n free_run).read ≡ 0
free-unread n = test (eqb n 0) (λ y. rw y refl) (λ y. rw y refl)

-- A next store and book that differ in run r alone, as far as runs go; what has been read stands
-- for its copies by the next history too.
pub inv-next : {s : Store} {b : Book} {f : ℕ → List ReadSet} (t : Store) (d : Book)
    (g : ℕ → List ReadSet) (r : ℕ) (a : Run) (c : BookRun) → Inv s b f → Follows t d
    → t.counts ≡ s.counts → t.run ≡ put_at s.run r a → d.run ≡ put_at b.run r c
    → r < s.counts.runs → ((q : ℕ) → q ≢ r → g q ≡ f q)
    → ((k : ℕ) (v : Version) (y : BookCopy) → Stands s b k v y
    → StandsFor s.counts.writers s.counts.keys d.history d.base k v y)
    → HasRead s d a c (g r) → Covers s.counts.keys a (g r) → Inv t d g
inv-next {s} {b} {f} t d g r a c v F e er ed l same grow has all = record {
  follows = F;
  reads = rw (e, er, ed) reads;
  covered = rw (e, er) covered;
  no_run = rw e (λ q h x i. v.no_run q h x (rw (same q (λ z. absurd (omega arith))) at i));
}
  where
    As : ReadSet → Run → BookRun → Type 0
    As x a c =
        Entered s.counts.writers s.counts.keys d.history d.base a c x

    grown : (x : ReadSet) (a : Run) (c : BookRun)
        → Entered s.counts.writers s.counts.keys b.history b.base a c x → As x a c
    grown x a c E = record {
      stands = λ k h p. grow k (x.version k) (x.copy k) (E.stands k h p);
      lines = E.lines;
      placed = E.placed;
      single = E.single;
    }

    covered : (q : ℕ) → q < s.counts.runs
        → Covers s.counts.keys (put_at s.run r a q) (g q)
    covered q h =
        put_at_cases (λ (a : Run). Covers s.counts.keys a (g q)) s.run r a q
        (λ z. rw z all) (λ z. rw (same q z) (v.covered q h))

    reads : (q : ℕ) → q < s.counts.runs → (x : ReadSet) → Among x (g q)
        → As x (put_at s.run r a q) (put_at b.run r c q)
    reads q h x i =
        put_at_both (As x) s.run b.run r a c q
        (λ z. has x (rw z at i))
        (λ z. grown x (s.run q) (b.run q) (v.reads q h x (rw (same q z) at i)))

module _ {s : Store} {b : Book} {f : ℕ → List ReadSet} (v : Inv s b f) where
  pub inv-caches : (p : ℕ → Site) (q : ℕ → Place BookCopy)
      → ((o : ℕ) → o < s.counts.sites
      → Related s.counts.keys (Stands s b) (p o).cache (q o)
      × ClosedAll s.counts.keys s.counts.writers b.history b.base (q o))
      → Inv (with_sites s p) (with_book_caches b q) f
  unfolding with_sites with_book_caches
  inv-caches p q C = record {
    follows = follows-caches v.follows p q C;
    reads = v.reads;
    covered = v.covered;
    no_run = v.no_run;
  }

  pub inv-cache : (o : ℕ) (p : Place Version) (q : Place BookCopy)
      → Related s.counts.keys (Stands s b) p q
      → ClosedAll s.counts.keys s.counts.writers b.history b.base q
      → Inv (with_cache s o p) (with_book_caches b (put_at b.cache o q)) f
  unfolding with_cache with_sites with_book_caches
  inv-cache o p q c d = record {
    follows = follows-cache v.follows o p q c d;
    reads = v.reads;
    covered = v.covered;
    no_run = v.no_run;
  }

  -- Run r changed, and with it what its finished jobs have read.
  pub inv-run : (g : ℕ → List ReadSet) (r : ℕ) (a : Run) (c : BookRun)
      → RunFollows s.counts.writers s.counts.keys b.history b.base a c
      → r < s.counts.runs
      → ((q : ℕ) → q ≢ r → g q ≡ f q) → HasRead s b a c (g r) → Covers s.counts.keys a (g r)
      → Inv (with_run s r a) (with_book_run b r c) g
  unfolding with_run with_book_run
  inv-run g r a c G l same has all =
      inv-next (with_run s r a) (with_book_run b r c) g r a c v (follows-run v.follows r a c G)
      refl refl refl l same (λ k w y p. p) has all

  -- Run r begins anew, or is freed.
  pub inv-anew : (r : ℕ) (a : Run) (c : BookRun)
      → RunFollows s.counts.writers s.counts.keys b.history b.base a c
      → r < s.counts.runs → ((n : ℕ) → (branch_of n a).read ≡ 0)
      → Inv (with_run s r a) (with_book_run b r c) (put_at f r [])
  inv-anew r a c G l blank =
      inv-run (put_at f r []) r a c G l (put_at_other f r [])
      (nothing_read s b a c f r) (nothing-covers s.counts.keys a (put_at f r [] r) blank)

-- ---- a run that breaks

-- A book with a run put where it stands.
same-book : (b : Book) (r : ℕ) → with_book_run b r (b.run r) ≡ b
unfolding with_book_run
same-book b r =
    ap (λ (f : ℕ → BookRun). record {
      counts = b.counts;
      base = b.base;
      history = b.history;
      master = b.master;
      cache = b.cache;
      run = f;
    }) (put_at_itself b.run r)

-- Only the state of a run is changed.
pub inv-state : {s : Store} {b : Book} {f : ℕ → List ReadSet} → Inv s b f → (r m : ℕ)
    → r < s.counts.runs → Inv (with_run s r (with_state (s.run r) m)) b f
unfolding with_state
inv-state {s} {b} {f} v r m l =
    let a = with_state (s.run r) m in
    rw (same-book b r) at (inv-run v f r a (b.run r) follows l (λ _ _. refl) has (v.covered r l))
  where
    follows : RunFollows s.counts.writers s.counts.keys b.history b.base
        (with_state (s.run r) m) (b.run r)
    follows =
        let G = v.follows.run r l in
        record { jobs = G.jobs; job = G.job; line = G.line }

    has : HasRead s b (with_state (s.run r) m) (b.run r) (f r)
    has x i =
        let E = v.reads r l x i in
        record {
          stands = E.stands;
          lines = E.lines;
          placed = E.placed;
          single = E.single;
        }

-- ---- a fresh store

pub inv-fresh : (z : Counts) → Inv (fresh z) (fresh_book z) (λ r. [])
unfolding fresh fresh_book saved count_below
inv-fresh z =
    let K = z.keys in
    let W = z.writers in
    record {
      follows = record {
        counts = refl;
        last = refl;
        based = no-based;
        lists = lists-empty no_base;
        sound = sound_empty K W;
        master = λ k l. record {
          counts = book-none K [] no_base;
          good = write-nothing-good K W [] no_base k;
          all = refl;
        };
        led-master = λ _ k l. masked-none W K [] k;
        every = λ d i l p. absurd (false≢true p);
        cache = λ o l k i. rw (fresh-cache z o k) (book-none K [] no_base);
        led-cache = λ o l _ k i.
            ap (λ (v : Version). v.leaders) (fresh-cache z o k) ∙ masked-none W K [] k;
        closed = λ o l. empty-cut (copy-laws K W [] no_base) _;
        writer = λ w l. record { count = refl; past = sym (begin-past K no_base w) };
        run = λ r l. free-follows W K [] no_base;
      };
      reads = λ r l x p. none-among p;
      covered = λ r l. nothing-covers K free_run [] free-unread;
      no_run = λ r l x p. none-among p;
    }
