-- Keys that a mask of rights lacks.
-- unbarred-at, unbarred_in: no key of a set is barred, key by key; -within: nor of a smaller one.
-- unbarred-empty: an empty place. unbarred-fetched, unbarred-evicted: what a fetch leaves where no
-- key of T is barred, and an evict. unbarred-taken: one that starts from what is barred.
-- Assumes nothing.
use mathlib.Core.Path.{◌≡◌}
use mathlib.Core.Bool.{false, not, ◌&&◌, So}
use Prim.Native.Nat.{ℕ, ◌<◌}
use Rattle.words.specs.Tests.{Items, Within}
use Rattle.words.proofs.Bools.{test, clash, and_intro, not-intro}
use Rattle.words.proofs.Tests.{any-no, any_none}
use Rattle.masks.specs.Mask.{test_bit}
use Rattle.model.specs.Algebra.{Place}
use Rattle.model.specs.Version.{Version, held, versions}
use Rattle.model.specs.Sets.{fetch_set, fetched, evict_set, evicted}
use Rattle.model.specs.Tail.{barred}
use Rattle.model.specs.Store.{empty_place}
use Rattle.model.specs.Calls.Rights.{taken_away}
use Rattle.model.proofs.Merges.{held-unheld}
use Rattle.reach.proofs.Closures.{closure-start}

module _ (K m : ℕ) where
  -- ---- a set

  pub unbarred-at : (S : Items) → barred K m S ≡ false → (k : ℕ) → k < K → So (S k)
      → So (test_bit m k)
  unfolding barred
  unbarred-at S u k l p =
      test (test_bit m k) (λ y. y)
      (λ n. clash (and_intro p (not-intro n)) (any_none K (λ k. S k && not (test_bit m k)) u k l))

  pub unbarred_in : (S : Items) → ((k : ℕ) → k < K → So (S k) → So (test_bit m k))
      → barred K m S ≡ false
  unfolding barred
  unbarred_in S f =
      any-no K (λ k. S k && not (test_bit m k)) (λ k l.
      test (S k) (λ y. rw (y, f k l y)) (λ n. rw n))

  -- A smaller set.
  pub unbarred-within : (S R : Items) → Within K R S → barred K m S ≡ false → barred K m R ≡ false
  unbarred-within S R w u = unbarred_in R (λ k l p. unbarred-at S u k l (w k l p))

  -- ---- what a place holds

  pub unbarred-empty : barred K m (λ k. held (empty_place k)) ≡ false
  unbarred-empty = unbarred_in (λ k. held (empty_place k)) (λ k l p. clash p held-unheld)

  module _ (W : ℕ) (cache : Place Version) (start : Items) where
    -- After a fetch: what was held, and T.
    pub unbarred-fetched : (master : Place Version) → barred K m (λ k. held (cache k)) ≡ false
        → barred K m (fetch_set (versions W) K master cache start) ≡ false
        → barred K m (λ k. held (fetched (versions W) K master cache start k)) ≡ false
    unfolding fetched
    unbarred-fetched master u v =
        let T = fetch_set (versions W) K master cache start in
        unbarred_in (λ k. held (fetched (versions W) K master cache start k)) (λ k l p.
        test (T k) (λ y. unbarred-at T v k l y)
        (λ n. unbarred-at (λ k. held (cache k)) u k l (rw n at p)))

    -- After an eviction: less than was held.
    pub unbarred-evicted : barred K m (λ k. held (cache k)) ≡ false
        → barred K m (λ k. held (evicted (versions W) K cache start k)) ≡ false
    unfolding evicted
    unbarred-evicted =
        unbarred-within (λ k. held (cache k)) (λ k. held (evicted (versions W) K cache start k))
        (λ k l p. test (evict_set (versions W) K cache start k)
        (λ y. clash p (rw y held-unheld)) (λ n. rw n at p))

  -- Where it starts from what is barred, nothing barred is left.
  pub unbarred-taken : (W : ℕ) (cache : Place Version) → barred K m
      (λ k. held (evicted (versions W) K cache (taken_away (versions W) cache m) k)) ≡ false
  unfolding evicted evict_set taken_away
  unbarred-taken W cache =
      let start = taken_away (versions W) cache m in
      unbarred_in (λ k. held (evicted (versions W) K cache start k)) (λ k l p.
      test (evict_set (versions W) K cache start k) (λ y. clash p (rw y held-unheld)) (λ n.
      test (test_bit m k) (λ y. y) (λ b.
      let h : So (held (cache k)) = rw n at p in
      clash (closure-start K _ start k (and_intro h (not-intro b))) n)))
