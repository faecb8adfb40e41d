-- Laws of the number of keys that a place holds, and of allowances.
-- over_no, no-over: the test as a statement. held-..: the number, of an empty place (empty), by
-- the set that is held (as), of a place that holds less (less), after a fetch (fetched) and an
-- eviction (evicted).
-- Assumes nothing.
use mathlib.Core.Path.{◌≡◌, refl, ◌∙◌}
use mathlib.Core.Bool.{false, So, ◌||◌}
use Prim.Native.Nat.{ℕ, zero, suc, ◌≤◌, ◌<◌}
use Rattle.words.specs.Tests.{Items, none}
use Rattle.words.specs.Numbers.{when, count_below}
use Rattle.words.proofs.Bools.{test, clash, ltb-ge, ge-ltb}
use Rattle.words.proofs.Numbers.{count_same, count-le}
use Rattle.sizes.specs.declared.Counts.{Counts}
use Rattle.model.specs.Algebra.{Place}
use Rattle.model.specs.Version.{Version, held, versions}
use Rattle.model.specs.Sets.{fetch_set, fetched, unfetchable, evicted, evict_set}
use Rattle.model.specs.Store.{Site, empty_place}
use Rattle.model.specs.Allowance.{held_count, over}
use Rattle.model.proofs.Draws.{fetch_set-held}
use Rattle.model.proofs.Merges.{held-unheld}

-- ---- the test

pub over_no : (z : Counts) (x : Site) (p : Place Version) → over z x p ≡ false
    → held_count z.keys p ≤ x.allowance
unfolding over
over_no z x p e = ltb-ge x.allowance (held_count z.keys p) e

pub no-over : (z : Counts) (x : Site) (p : Place Version) → held_count z.keys p ≤ x.allowance
    → over z x p ≡ false
unfolding over
no-over z x p h = ge-ltb x.allowance (held_count z.keys p) h

-- ---- the number

pub held_as : (K : ℕ) (p : Place Version) (S : Items)
    → ((k : ℕ) → k < K → held (p k) ≡ S k) → held_count K p ≡ count_below K S
unfolding held_count
held_as K p S f = count_same K (λ k. held (p k)) S f

pub held-less : (K : ℕ) (p q : Place Version)
    → ((k : ℕ) → k < K → So (held (p k)) → So (held (q k))) → held_count K p ≤ held_count K q
unfolding held_count
held-less K p q f = count-le K (λ k. held (p k)) (λ k. held (q k)) f

no_items : (K : ℕ) → count_below K none ≡ 0
unfolding count_below when
no_items zero = refl
no_items (suc K) = rw (no_items K)

pub held-empty : (K : ℕ) → held_count K empty_place ≡ 0
held-empty K = held_as K empty_place none (λ k _. held-unheld) ∙ no_items K

-- An eviction takes no place.
pub held-evicted : (W K : ℕ) (cache : Place Version) (start : Items)
    → held_count K (evicted (versions W) K cache start) ≤ held_count K cache
unfolding evicted
held-evicted W K cache start =
    held-less K (evicted (versions W) K cache start) cache (λ k _ h.
    test (evict_set (versions W) K cache start k) (λ y. clash h (rw y held-unheld))
    (λ n. rw n at h))

-- After a fetch of keys that the master holds: what was held, and T.
pub held-fetched : (W K : ℕ) (master cache : Place Version) (start : Items)
    → unfetchable (versions W) K master start ≡ false
    → held_count K (fetched (versions W) K master cache start)
    ≡ count_below K (λ k. fetch_set (versions W) K master cache start k || held (cache k))
unfolding fetched
held-fetched W K master cache start u =
    let T = fetch_set (versions W) K master cache start in
    held_as K (fetched (versions W) K master cache start) (λ k. T k || held (cache k)) (λ k i.
    test (T k) (λ y. rw y (fetch_set-held (versions W) K master cache start u k i y)) (λ n. rw n))
