-- What every rule keeps: a fine store stays fine, with the same counts.
-- Kept: of an outcome. kept-..: by how a rule ends; kept-replied: of each call that only answers.
-- drop-kept, fetch-kept, evict-kept: of these rules. evicted-kept: E leaves, from any start.
-- Assumes nothing.
use mathlib.Core.Path.{◌≡◌, refl}
use mathlib.Core.List.{List}
use Prim.Native.Nat.{ℕ, ◌≤◌, ◌<◌}
use native.Mathlib.Omega.{arith}
use Rattle.words.specs.Tests.{Items, only}
use Rattle.words.proofs.Bools.{leb-gt}
use Rattle.sizes.specs.declared.Counts.{Counts}
use Rattle.sizes.specs.Bounds.{Ranged}
use Rattle.model.specs.Algebra.{Place}
use Rattle.model.specs.Version.{Version, versions}
use Rattle.model.specs.Sets.{fetch_set, fetched, evict_set, evicted}
use Rattle.model.specs.Store.{Store, empty_place, free_run, fresh, with_sites, with_cache, with_run}
use Rattle.model.specs.Allowance.{held_count}
use Rattle.model.specs.Outcome.{Outcome, refused, broken, done, unless, Reply, replied, run_cause}
use Rattle.model.specs.Caches.{fetch_cause, fetch_done, fetch_rule, evict_cause, evict_done, evict_rule}
use Rattle.model.specs.Runs.{drop_cause, drop_done, drop_rule}
use Rattle.model.proofs.Allowances.{over_no, held-evicted}
use Rattle.model.proofs.Rights.{unbarred-fetched, unbarred-evicted}
use Rattle.model.proofs.Outcomes.{no-cause, unless-cases, next_store, replied-cases}
use Rattle.layout.proofs.Parts.{FitPlace}
use Rattle.layout.proofs.Whole.{FitStore}
use Rattle.layout.proofs.Fit.{fit-empty, fit_free, fit-choice, fit-cache, fit-run, fresh-fits}
use Rattle.model.proofs.FormedPlaces.{PlaceFormed, formed-empty, formed-choice}
use Rattle.model.proofs.Formed.{Unbarred, Formed, well-out, well_in, fresh-formed}
use Rattle.model.proofs.FormedNext.{formed-cache, formed-run}
use Rattle.model.proofs.Plans.{free-formed}
use Rattle.layout.proofs.Follow.{Fine}

pub record Kept (s : Store) (x : Outcome) : Type 0 where
  pub fine : Fine (next_store x s)
  pub counts : (next_store x s).counts ≡ s.counts

-- ---- outcomes

pub kept-refused : (s : Store) (n : ℕ) → Fine s → Kept s (refused n)
kept-refused s n F = record { fine = F; counts = refl }

-- A next store with the counts of a fine one.
pub fine-next : (s t : Store) → Fine s → FitStore t → Formed t → t.counts ≡ s.counts → Fine t
fine-next s t F G H e = record { fits = G; counts = rw e F.counts; formed = well_in t H }

pub kept-done : (s t : Store) (a : List ℕ) → Fine s → FitStore t → Formed t
    → t.counts ≡ s.counts → Kept s (done a t)
kept-done s t a F G H e = record { fine = fine-next s t F G H e; counts = e }

pub kept-broken : (s t : Store) (m : ℕ) → Fine s → FitStore t → Formed t
    → t.counts ≡ s.counts → Kept s (broken m t)
kept-broken s t m F G H e = record { fine = fine-next s t F G H e; counts = e }

pub kept-unless : (s : Store) (n : ℕ) (x : Outcome) → Fine s → (n ≡ 0 → Kept s x)
    → Kept s (unless n x)
kept-unless s n x F f = unless-cases (Kept s) n x f (λ _. kept-refused s n F)

pub kept-replied : (s : Store) (a : Reply) → Fine s → Kept s (replied a)
kept-replied s a F =
    replied-cases (Kept s) a (record { fine = F; counts = refl }) (kept-refused s a.cause F)

-- ---- a fresh store

pub fresh-fine : (z : Counts) → Ranged z → Fine (fresh z)
unfolding fresh
fresh-fine z R =
    let F = fresh-formed z R.runs-low (free-formed z) in
    record { fits = fresh-fits z; counts = R; formed = well_in (fresh z) F }

-- ---- drop

pub drop-kept : (r : ℕ) (s : Store) → Fine s → Kept s (drop_rule r s)
unfolding drop_rule drop_done drop_cause run_cause with_run
drop-kept r s F =
    kept-unless s (drop_cause s r) (drop_done s r) F (λ e.
    let z = s.counts in
    let h : r < z.runs = leb-gt _ _ (no-cause _ 3 _ (omega arith) e).0 in
    kept-done s (with_run s r free_run) _ F (fit-run s F.fits r free_run h (fit_free z))
    (formed-run s (well-out s F.formed) r free_run (free-formed z)) refl)

-- ---- fetch and evict

-- A cache with some of the master's versions.
pub fetched-fits : (z : Counts) (master cache : Place Version) (start : Items)
    → FitPlace z master → FitPlace z cache
    → FitPlace z (fetched (versions z.writers) z.keys master cache start)
unfolding fetched
fetched-fits z master cache start F G =
    fit-choice z (fetch_set (versions z.writers) z.keys master cache start) master cache F G

pub fetched-formed : (z : Counts) (master cache : Place Version) (start : Items)
    → PlaceFormed z master → PlaceFormed z cache
    → PlaceFormed z (fetched (versions z.writers) z.keys master cache start)
unfolding fetched
fetched-formed z master cache start F G =
    let T = fetch_set (versions z.writers) z.keys master cache start in
    formed-choice z T master cache F G

pub evicted-fits : (z : Counts) (cache : Place Version) (start : Items) → FitPlace z cache
    → FitPlace z (evicted (versions z.writers) z.keys cache start)
unfolding evicted
evicted-fits z cache start F =
    fit-choice z (evict_set (versions z.writers) z.keys cache start) empty_place cache
    (fit-empty z) F

evicted-formed : (z : Counts) (cache : Place Version) (start : Items) → PlaceFormed z cache
    → PlaceFormed z (evicted (versions z.writers) z.keys cache start)
unfolding evicted
evicted-formed z cache start F =
    formed-choice z (evict_set (versions z.writers) z.keys cache start) empty_place cache
    (formed-empty z) F

-- A store with another cache.
cache-kept : (s : Store) (o : ℕ) (p : Place Version) (a : List ℕ) → Fine s → o < s.counts.sites
    → FitPlace s.counts p → PlaceFormed s.counts p
    → held_count s.counts.keys p ≤ (s.site o).allowance
    → Unbarred s.counts (s.tail.may_hold o) p → Kept s (done a (with_cache s o p))
unfolding with_cache with_sites
cache-kept s o p a F h G H r u =
    kept-done s (with_cache s o p) a F (fit-cache s F.fits o p h G)
    (formed-cache s (well-out s F.formed) o p H r u) refl

pub fetch-kept : (o k : ℕ) (s : Store) → Fine s → Kept s (fetch_rule o k s)
unfolding fetch_rule fetch_done fetch_cause
fetch-kept o k s F =
    kept-unless s (fetch_cause s o k) (fetch_done s o k) F (λ e.
    let z = s.counts in
    let G = well-out s F.formed in
    let p = fetched (versions z.writers) z.keys s.master (s.site o).cache (only k) in
    let a = no-cause _ 3 _ (omega arith) e in
    let b = no-cause _ 3 _ (omega arith) a.1 in
    let t = no-cause _ 13 _ (omega arith) b.1 in
    let c = no-cause _ 7 _ (omega arith) t.1 in
    let d = no-cause _ 12 0 (omega arith) c.1 in
    let h : o < z.sites = leb-gt _ _ a.0 in
    cache-kept s o p _ F h
    (fetched-fits z s.master (s.site o).cache (only k) F.fits.master
    (F.fits.site.each o h).cache)
    (fetched-formed z s.master (s.site o).cache (only k) G.master (G.cache o h))
    (over_no z (s.site o) p d.0)
    (unbarred-fetched z.keys (s.tail.may_hold o) z.writers (s.site o).cache (only k)
    s.master (G.right o h) t.0))

-- E leaves a cache, from any start.
pub evicted-kept : (o : ℕ) (start : Items) (a : List ℕ) (s : Store) → Fine s
    → o < s.counts.sites
    → Kept s (done a (with_cache s o
    (evicted (versions s.counts.writers) s.counts.keys (s.site o).cache start)))
evicted-kept o start a s F h =
    let z = s.counts in
    let G = well-out s F.formed in
    let cache = (s.site o).cache in
    let left = evicted (versions z.writers) z.keys cache start in
    let less = held-evicted z.writers z.keys cache start in
    cache-kept s o left a F h (evicted-fits z cache start (F.fits.site.each o h).cache)
    (evicted-formed z cache start (G.cache o h)) (omega (arith, (G.room o h).1))
    (unbarred-evicted z.keys (s.tail.may_hold o) z.writers cache start (G.right o h))

-- Evict: from its key.
pub evict-kept : (o k : ℕ) (s : Store) → Fine s → Kept s (evict_rule o k s)
unfolding evict_rule evict_done evict_cause
evict-kept o k s F =
    kept-unless s (evict_cause s o k) (evict_done s o k) F (λ e.
    let h : o < s.counts.sites = leb-gt _ _ (no-cause _ 3 _ (omega arith) e).0 in
    evicted-kept o (only k) _ s F h)
