-- The laws of prepare.
-- copy_caches, copy_snapshot, copy_run: the book's; book-prepare: they are.
-- ..-related: the store's stand for them. ..-closed, caches-cuts: they are cuts.
-- prepare-named: its merges name somebody.
-- Assumes nothing.
use mathlib.Core.Path.{◌≡◌, refl, sym, ◌∙◌}
use mathlib.Core.Bool.{false}
use mathlib.Core.List.{List}
use Prim.Native.Nat.{ℕ, ◌<◌}
use native.Mathlib.Omega.{arith}
use lib.Dec.{eqb}
use Rattle.words.proofs.Bools.{test, clash}
use Rattle.masks.specs.Mask.{test_bit}
use Rattle.model.specs.Algebra.{Place}
use Rattle.model.specs.Version.{Version, versions}
use Rattle.model.specs.Store.{Site, Store, planned, site_with, with_caches, with_sites, with_run, with_snapshot}
use Rattle.model.specs.Prepare.{prepared_caches, uses_site, sites_merged, site_caches, prepare_cause, prepare_caches, prepare_snapshot, prepare_done, prepare_rule}
use Rattle.model.specs.Calls.{prepare}
use Rattle.model.proofs.Plans.{valid-out}
use Rattle.layout.proofs.Rules.Prepare.{Accepted, accepted, was, unread}
use Rattle.layout.proofs.Follow.{Fine}
use Rattle.history.specs.Listing.{no_base, BookCopy, book_copies}
use Rattle.history.specs.Book.{Book, BookRun, book_prepare, book_rule, with_book_run, with_book_caches}
use Rattle.consistency.specs.Roles.{role_of}
use Rattle.consistency.specs.Trace.{ReadSet, finish_by, finish}
use Rattle.consistency.specs.Leading.{Named}
use Rattle.consistency.proofs.Simulation.{Related}
use Rattle.consistency.proofs.SimulationPrepare.{SitesBelow, RelatedSites, prepared_caches-rel, sites_merged-rel}
use Rattle.consistency.proofs.Closing.{book_writes, ClosedIn}
use Rattle.consistency.proofs.ClosingPrepare.{CutsWithin, sites_merged-closed, prepared_caches-cuts}
use Rattle.consistency.proofs.Invariant.{BranchFollows, RunFollows, Follows, ReadAs, Covers, Inv, Moves}
use Rattle.consistency.proofs.Laws.{works, Laws, laws-unless}
use Rattle.consistency.proofs.Following.{Stands, now-simulates, now-laws, now-named, master-closed, master-related, cache-related, cache-part, plan-same, on-lines}
use Rattle.consistency.proofs.Changing.{HasRead, inv-caches, inv-run}

-- ---- the book's caches and run r after prepare, with the store's counts and jobs

module _ (s : Store) (b : Book) (r : ℕ) where
  unfoldable copy_caches : ℕ → Place BookCopy
  copy_caches =
      let K = s.counts.keys in
      let a = s.run r in
      prepared_caches (book_copies K s.counts.writers b.history) K b.master a.job
      a.jobs b.cache

  unfoldable copy_snapshot : Place BookCopy
  copy_snapshot =
      let a = s.run r in
      sites_merged (book_copies s.counts.keys s.counts.writers b.history)
      s.counts.sites (uses_site a.jobs a.job) (planned a.jobs a.job) copy_caches

  unfoldable copy_run : BookRun
  copy_run = record {
    jobs = (s.run r).jobs;
    job = (s.run r).job;
    branch = record { read = (b.run r).branch.read; snapshot = copy_snapshot };
    second = (b.run r).second;
  }

  book-prepare : Follows s b → r < s.counts.runs
      → book_prepare r b ≡ with_book_run (with_book_caches b copy_caches) r copy_run
  unfolding book_prepare copy_run copy_snapshot copy_caches
  book-prepare F l = rw (← F.counts, ← (F.run r l).jobs, ← (F.run r l).job)

-- ---- a prepare that is not refused

module _ {s : Store} {b : Book} {r : ℕ} (fine : Fine s) (F : Follows s b) (A : Accepted s r) where
  at-sites : SitesBelow s.counts.sites (s.run r).jobs (s.run r).job
  at-sites j l =
      let jobs = (was s r fine A).jobs in
      (valid-out s.counts j ((s.run r).job j) (jobs.valid j l)).site

  caches-related : RelatedSites s.counts.sites s.counts.keys
      (Stands s b) (prepare_caches s r) (copy_caches s b r)
  unfolding prepare_caches site_caches copy_caches
  caches-related =
      let a = s.run r in
      prepared_caches-rel (now-simulates F) s.counts.sites s.master b.master a.job
      a.job (master-related F) a.jobs (site_caches s) b.cache (λ _ _. refl) at-sites
      (cache-related F)

  caches-cuts : CutsWithin
      (book_writes s.counts.keys s.counts.writers b.history b.base) s.counts.keys
      s.counts.sites b.master (copy_caches s b r)
  unfolding copy_caches
  caches-cuts =
      prepared_caches-cuts (now-laws F) s.counts.keys s.counts.sites b.master
      (master-closed F) (s.run r).job (s.run r).jobs b.cache
      (λ o l. (F.closed o l, cache-part F o l))

  snapshot-related : Related s.counts.keys (Stands s b) (prepare_snapshot s r)
      (copy_snapshot s b r)
  unfolding prepare_snapshot copy_snapshot
  snapshot-related =
      let a = s.run r in
      let sites = uses_site a.jobs a.job in
      let plan = planned a.jobs a.job in
      sites_merged-rel (now-simulates F) s.counts.sites sites sites plan plan
      (prepare_caches s r) (copy_caches s b r) (λ _ _. refl) (λ _ _. refl) caches-related

  -- The merges that it takes, office after office, name somebody.
  pub prepare-named : b.base ≡ no_base → (o k : ℕ) → o < s.counts.sites → k < s.counts.keys
      → Named s.counts.writers k
      (sites_merged (versions s.counts.writers) o (uses_site (s.run r).jobs (s.run r).job)
      (planned (s.run r).jobs (s.run r).job) (prepare_caches s r) k)
      (prepare_caches s r o k)
  prepare-named e o k l h =
      let a = s.run r in
      let sites = uses_site a.jobs a.job in
      let plan = planned a.jobs a.job in
      let K = s.counts.keys in
      let sofar = sites_merged-rel (now-simulates F) o sites sites plan plan (prepare_caches s r)
      (copy_caches s b r) (λ _ _. refl) (λ _ _. refl) (λ i m. caches-related i (omega arith)) in
      let W = s.counts.writers in
      now-named F e k (sites_merged (versions W) o sites plan (prepare_caches s r) k)
      (prepare_caches s r o k)
      (sites_merged (book_copies K s.counts.writers b.history) o sites plan
      (copy_caches s b r) k)
      (copy_caches s b r o k) (sofar k h) (caches-related o l k h)

  snapshot-closed : ClosedIn s.counts.keys s.counts.writers b.history b.base
      (planned (s.run r).jobs (s.run r).job) (copy_snapshot s b r)
  unfolding copy_snapshot
  snapshot-closed =
      let a = s.run r in
      sites_merged-closed (now-laws F) s.counts.keys (uses_site a.jobs a.job)
      (planned a.jobs a.job) (copy_caches s b r) s.counts.sites
      (λ o l. (caches-cuts o l).0)

  run-follows : RunFollows s.counts.writers s.counts.keys b.history b.base
      (with_snapshot (s.run r) (prepare_snapshot s r)) (copy_run s b r)
  unfolding with_snapshot copy_run
  run-follows =
      let G = F.run r A.run in
      record {
        jobs = refl;
        job = refl;
        line = on-lines (BranchFollows s.counts.writers s.counts.keys b.history
            b.base (planned (s.run r).jobs (s.run r).job))
            (with_snapshot (s.run r) (prepare_snapshot s r)) (copy_run s b r) (record {
              read = (G.line 0).read;
              low = (G.line 0).low;
              snapshot = λ k l. (snapshot-related k l).counts;
              led = λ e k l. (snapshot-related k l).led e;
              closed = snapshot-closed;
            }) (rw (plan-same G) (G.line 1));
      }

-- What has read nothing has read it from any card.
unread-first : (s : Store) (b : Book) (f : ℕ → List ReadSet) (r : ℕ) → Inv s b f
    → r < s.counts.runs → ((k : ℕ) → test_bit (s.run r).branch.read k ≡ false)
    → (x : ReadSet) (p : Place Version)
    → ReadAs s.counts.writers s.counts.keys (s.run r).branch (b.run r).branch x
    → ReadAs s.counts.writers s.counts.keys
    (record { read = (s.run r).branch.read; snapshot = p })
    (record { read = (b.run r).branch.read; snapshot = copy_snapshot s b r }) x
unread-first s b f r v l none x p R =
    let nothing : (k : ℕ) → k < s.counts.keys → (b.run r).branch.read k ≡ false =
    λ k h. sym (((v.follows.run r l).line 0).read k h) ∙ none k in
    record {
      keys = R.keys;
      version = λ k h q. clash (R.keys k h q) (nothing k h);
      copy = λ k h q. clash (R.keys k h q) (nothing k h);
    }

-- No job is done, so nothing is read.
none_read : {s : Store} {b : Book} {f : ℕ → List ReadSet} {r : ℕ} → Fine s → Inv s b f
    → Accepted s r
    → HasRead s b (with_snapshot (s.run r) (prepare_snapshot s r)) (copy_run s b r) (f r)
unfolding copy_run with_snapshot
none_read {s} {b} {f} {r} fine v A x i =
    let E = v.reads r A.run x i in
    let first = unread-first s b f r v A.run (unread s r fine A) x in
    record {
      stands = E.stands;
      lines = λ n o.
          let R = E.lines n o in
          test (eqb n 0) (λ y. rw y (first _ (rw y at R))) (λ y. rw y (rw y at R));
      placed = E.placed;
      single = E.single;
    }

-- The read masks stay.
same-covers : {s : Store} {b : Book} {f : ℕ → List ReadSet} {r : ℕ} → Fine s → Inv s b f
    → Accepted s r
    → Covers s.counts.keys (with_snapshot (s.run r) (prepare_snapshot s r)) (f r)
unfolding with_snapshot
same-covers {r = r} fine v A n k l h p =
    v.covered r A.run n k l h
    (test (eqb n 0) (λ y. rw y (rw y at p)) (λ y. rw y (rw y at p)))

done-moves : {s : Store} {b : Book} {f : ℕ → List ReadSet} {r : ℕ} → Fine s → Inv s b f
    → Accepted s r → Moves (prepare r) s b f (prepare_done s r)
unfolding prepare_done book_rule finish finish_by role_of site_with with_caches with_sites
    with_book_caches
done-moves {s} {b} {f} {r} fine v A =
    let F = v.follows in
    let after = with_snapshot (s.run r) (prepare_snapshot s r) in
    let sites : ℕ → Site = λ o. site_with s (s.site o) (prepare_caches s r o) in
    let w = inv-caches v sites (copy_caches s b r)
    (λ o l. (caches-related fine F A o l, (caches-cuts fine F A o l).0)) in
    rw (book-prepare s b r F A.run)
    (inv-run w f r after (copy_run s b r) (run-follows fine F A) A.run (λ _ _. refl)
    (none_read fine v A) (same-covers fine v A))

pub prepare-laws : (r : ℕ) (s : Store) → Fine s → Laws (prepare r) s (prepare_rule r s)
unfolding prepare_rule prepare_done with_run with_caches with_sites with_snapshot role_of
prepare-laws r s fine =
    laws-unless (prepare r) s (prepare_cause s r) (prepare_done s r) (λ e.
    let A = accepted s r e in
    record {
      moves = λ b f v. done-moves fine v A;
      turns = works r _ _ A.state A.state refl refl;
    })
