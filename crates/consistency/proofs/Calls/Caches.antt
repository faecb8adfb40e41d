-- The laws of fetch and evict: they keep the invariant of demand 3, and leave every run.
-- evicted-next: E leaves a cache, from any start.
-- Assumes nothing.
use mathlib.Core.Path.{refl}
use mathlib.Core.List.{List}
use Prim.Native.Nat.{ℕ, ◌<◌}
use native.Mathlib.Omega.{arith}
use Rattle.words.specs.Tests.{Items, only}
use Rattle.words.specs.Lists.{put_at}
use Rattle.words.proofs.Bools.{leb-gt}
use Rattle.sizes.specs.declared.Counts.{Counts}
use Rattle.model.specs.Algebra.{Place}
use Rattle.model.specs.Version.{Version, versions}
use Rattle.model.specs.Sets.{fetched, evicted}
use Rattle.model.specs.Store.{Store, with_sites, with_cache}
use Rattle.model.specs.Calls.{fetch, evict}
use Rattle.model.specs.Caches.{fetch_cause, fetch_done, fetch_rule, evict_cause, evict_done, evict_rule}
use Rattle.model.proofs.Outcomes.{no-cause}
use Rattle.layout.proofs.Follow.{Fine}
use Rattle.history.specs.Listing.{BookCopy, book_copies}
use Rattle.history.specs.Book.{Book, book_fetch, book_evict, book_rule, with_book_caches}
use Rattle.consistency.specs.Roles.{role_of}
use Rattle.consistency.specs.Trace.{ReadSet, finish_by, finish}
use Rattle.consistency.proofs.Simulation.{Agree, Related, fetched-rel, evicted-rel}
use Rattle.consistency.proofs.Closing.{ClosedAll}
use Rattle.consistency.proofs.ClosingSets.{fetched-closed, evicted-closed}
use Rattle.consistency.proofs.Invariant.{Inv}
use Rattle.consistency.proofs.Laws.{Laws, laws-unless}
use Rattle.consistency.proofs.Following.{Stands, by-counts, now-simulates, now-laws, master-closed, master-related, cache-related, cache-part}
use Rattle.consistency.proofs.Changing.{inv-cache}

-- Cache o changed, in the book by a rule that takes the counts.
cache-next : {s : Store} {b : Book} {f : ℕ → List ReadSet} (o : ℕ) (p : Place Version)
    (q : Counts → Place BookCopy) → Inv s b f
    → Related s.counts.keys (Stands s b) p (q s.counts)
    → ClosedAll s.counts.keys s.counts.writers b.history b.base (q s.counts)
    → Inv (with_cache s o p) (with_book_caches b (put_at b.cache o (q b.counts))) f
cache-next {s} {b} {f} o p q v rel closed =
    by-counts v.follows
    (λ z. Inv (with_cache s o p) (with_book_caches b (put_at b.cache o (q z))) f)
    (inv-cache v o p (q s.counts) rel closed)

pub fetch-laws : (o k : ℕ) (s : Store) → Fine s → Laws (fetch o k) s (fetch_rule o k s)
unfolding fetch_rule fetch_done fetch_cause book_rule book_fetch finish finish_by role_of
    with_cache
    with_sites
fetch-laws o k s _ =
    laws-unless (fetch o k) s (fetch_cause s o k) (fetch_done s o k) (λ e.
    let K = s.counts.keys in
    let l : o < s.counts.sites = leb-gt _ _ (no-cause _ 3 _ (omega arith) e).0 in
    record {
      moves = λ b f v. let F = v.follows in
          cache-next o
          (fetched (versions s.counts.writers) K s.master (s.site o).cache (only k))
          (λ z. fetched (book_copies z.keys z.writers b.history) z.keys b.master
          (b.cache o) (only k))
          v (fetched-rel (now-simulates F) s.master (s.site o).cache b.master (b.cache o)
          (only k) (only k) (master-related F) (cache-related F o l) (λ _ _. refl))
          (fetched-closed (now-laws F) K b.master (b.cache o) (only k) (cache-part F o l)
          (master-closed F) (F.closed o l));
      turns = refl;
    })

-- E leaves cache o, from any start; in the book from one that takes the counts.
pub evicted-next : {s : Store} {b : Book} {f : ℕ → List ReadSet} (o : ℕ) (start : Items)
    (start' : Counts → Items) → Inv s b f → o < s.counts.sites
    → Agree s.counts.keys start (start' s.counts)
    → let z = s.counts in
    let y = b.counts in
    Inv (with_cache s o (evicted (versions z.writers) z.keys (s.site o).cache start))
    (with_book_caches b (put_at b.cache o (evicted
    (book_copies y.keys y.writers b.history) y.keys (b.cache o) (start' y)))) f
evicted-next {s} {b} o start start' v l same =
    let F = v.follows in
    let z = s.counts in
    cache-next o (evicted (versions z.writers) z.keys (s.site o).cache start)
    (λ y. evicted (book_copies y.keys y.writers b.history) y.keys (b.cache o)
    (start' y)) v
    (evicted-rel (now-simulates F) (s.site o).cache (b.cache o) start (start' z)
    (cache-related F o l) same)
    (evicted-closed (now-laws F) z.keys (b.cache o) (start' z) (F.closed o l))

-- Evict: from its key.
pub evict-laws : (o k : ℕ) (s : Store) → Fine s → Laws (evict o k) s (evict_rule o k s)
unfolding evict_rule evict_done evict_cause book_rule book_evict finish finish_by role_of
    with_cache
    with_sites
evict-laws o k s _ =
    laws-unless (evict o k) s (evict_cause s o k) (evict_done s o k) (λ e.
    let l : o < s.counts.sites = leb-gt _ _ (no-cause _ 3 _ (omega arith) e).0 in
    record {
      moves = λ b f v. evicted-next o (only k) (λ _. only k) v l (λ _ _. refl);
      turns = refl;
    })
