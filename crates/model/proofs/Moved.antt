-- Laws of the keys that a join moves (CR 10).
-- moved_none, moved-equal: nothing has moved exactly if each key read on a line stays the version
-- that was read there. moved_by_lem, moved-key, moved-test: the same without merges. moved-lt,
-- -item, -read: its keys.
-- Assumes nothing.
use mathlib.Core.Path.{◌≡◌, refl, sym, ap, ap₂, ◌∙◌}
use mathlib.Core.Bool.{Bool, true, false, not, ◌&&◌, ◌||◌, So}
use mathlib.Core.Logic.{◌⊎◌, inl, inr, ◌↔◌}
use Prim.Native.Nat.{ℕ, ◌<◌, ◌^◌}
use native.Mathlib.Omega.{arith}
use Rattle.words.specs.Tests.{Items}
use Rattle.words.proofs.Bools.{clash, and_left, or_cases, or-none}
use Rattle.masks.specs.Mask.{test_bit, mask_below}
use Rattle.masks.proofs.Bits.{test-none}
use Rattle.masks.proofs.Sets.{mask_lt, mask-no, mask-same, item_of}
use Rattle.sizes.specs.declared.Counts.{Counts}
use Rattle.model.specs.Version.{held, merge}
use Rattle.model.specs.Store.{Branch}
use Rattle.model.specs.Stays.{stays, stays_other, moved_keys, moved_set, stays_by_of, stays_other_by}
use Rattle.model.proofs.Stays.{Inside, stays-test, stays-other, stays-merge, other-merge}

-- By the test of each version.
unfoldable pub moved_by_lem : Counts → Branch → Branch → Items
moved_by_lem z x y k =
    let a = x.snapshot k in
    let b = y.snapshot k in
    (test_bit x.read k && not (stays_by_of z.writers z.keys k a b))
    || (test_bit y.read k && not (stays_other_by z.writers z.keys k a b))

-- ---- what has moved

module _ (z : Counts) (x y : Branch) where
  abbrev W : ℕ
  W = z.writers

  abbrev K : ℕ
  K = z.keys

  abbrev left : Items
  left k = stays W K k (x.snapshot k) (y.snapshot k)

  abbrev right : Items
  right k = stays_other W K k (x.snapshot k) (y.snapshot k)

  pub moved-lt : moved_set z x y < 2 ^ K
  unfolding moved_set
  moved-lt = mask_lt K (moved_keys z x y) K (omega arith)

  pub moved_item : (k : ℕ) → k < K → test_bit (moved_set z x y) k ≡ moved_keys z x y k
  unfolding moved_set
  moved_item k h = item_of K (moved_set z x y) (moved_keys z x y) refl k h

  -- Only what was read has moved.
  pub moved-read : (k : ℕ) → So (moved_keys z x y k)
      → So (test_bit x.read k) ⊎ So (test_bit y.read k)
  unfolding moved_keys
  moved-read k s =
      let m = test_bit x.read k in
      let n = test_bit y.read k in
      elim (or_cases (m && not (left k)) (n && not (right k)) s) [
        | inl p ↦ inl (and_left m (not (left k)) p)
        | inr p ↦ inr (and_left n (not (right k)) p)
      ]

  -- Each key read on a line stays the version that was read there.
  abbrev pub Stay : ℕ → Type 0
  Stay k = (So (test_bit x.read k) → So (left k)) × (So (test_bit y.read k) → So (right k))

  stay-not : (k : ℕ) → (moved_keys z x y k ≡ false) ↔ Stay k
  unfolding moved_keys
  stay-not k =
      let m = test_bit x.read k in
      let n = test_bit y.read k in (
        λ e.
            let o = or-none (m && not (left k)) (n && not (right k)) e in
            (stay m (left k) o.0, stay n (right k) o.1),
        λ s. rw (gone m (left k) s.0, gone n (right k) s.1),
      )
    where
      stay : (m b : Bool) → m && not b ≡ false → So m → So b
      stay true true e s = refl
      stay true false e s = sym e
      stay false b e s = clash s refl

      gone : (m b : Bool) → (So m → So b) → m && not b ≡ false
      gone true b f = rw (f refl)
      gone false b f = refl

  pub moved_none : (moved_set z x y ≡ 0) ↔ ((k : ℕ) → k < K → Stay k)
  unfolding moved_set
  moved_none = (
    λ e k h. (stay-not k).0 (sym (moved_item k h) ∙
        (ap (λ (m : ℕ). test_bit m k) e ∙ test-none k)),
    λ f. mask-no K (moved_keys z x y) (λ k h. (stay-not k).1 (f k h)),
  )

  -- As versions, of cards that were read from words.
  pub moved-equal : ((k : ℕ) → k < K → Inside W K (x.snapshot k))
      → ((k : ℕ) → k < K → Inside W K (y.snapshot k))
      → (moved_set z x y ≡ 0)
      ↔ ((k : ℕ) → k < K
      → (So (test_bit x.read k) → merge W k (x.snapshot k) (y.snapshot k) ≡ x.snapshot k)
      × (So (test_bit y.read k) → merge W k (x.snapshot k) (y.snapshot k) ≡ y.snapshot k))
  moved-equal F G = (
    λ e k h.
        let s = moved_none.0 e k h in
        (λ r. (there k h).0 (s.0 r), λ r. (back k h).0 (s.1 r)),
    λ f. moved_none.1 (λ k h.
        (λ r. (there k h).1 ((f k h).0 r), λ r. (back k h).1 ((f k h).1 r))),
  )
    where
      there : (k : ℕ) → k < K
          → So (left k) ↔ (merge W k (x.snapshot k) (y.snapshot k) ≡ x.snapshot k)
      there k h = stays-merge W K k (x.snapshot k) (y.snapshot k) (F k h) (G k h)

      back : (k : ℕ) → k < K
          → So (right k) ↔ (merge W k (x.snapshot k) (y.snapshot k) ≡ y.snapshot k)
      back k h = other-merge W K k (x.snapshot k) (y.snapshot k) (F k h) (G k h)

  -- Without a merge, where what line 0 read is held on its card: one key, and the set.
  pub moved-key : (k : ℕ) → (So (test_bit x.read k) → So (held (x.snapshot k)))
      → moved_keys z x y k ≡ moved_by_lem z x y k
  unfolding moved_keys moved_by_lem
  moved-key k f =
      ap₂ ◌||◌
      (read (test_bit x.read k) (left k) (stays_by_of W K k (x.snapshot k) (y.snapshot k))
      (λ r. stays-test W K k (x.snapshot k) (y.snapshot k) (f r)))
      (ap (λ (b : Bool). test_bit y.read k && not b)
      (stays-other W K k (x.snapshot k) (y.snapshot k)))
    where
      read : (m b c : Bool) → (So m → b ≡ c) → m && not b ≡ m && not c
      read true b c g = ap not (g refl)
      read false b c g = refl

  pub moved-test : ((k : ℕ) → k < K → So (test_bit x.read k) → So (held (x.snapshot k)))
      → moved_set z x y ≡ mask_below K (moved_by_lem z x y)
  unfolding moved_set
  moved-test f =
      mask-same K (moved_keys z x y) (moved_by_lem z x y) (λ k h. moved-key k (f k h))
