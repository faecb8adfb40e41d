-- What a reader takes out of the claims on rights (CR 9); nothing here knows how they are proved.
-- kept-..: a call that isn't mayhold or maysave leaves each right. given-..: what these two set.
-- unheld: a barred sheet is on no shelf. no-..: a call that would need a right that is missing
-- isn't answered ok.
-- Assumes nothing.
use mathlib.Core.Path.{◌≡◌, ap, ◌∙◌}
use mathlib.Core.Bool.{false, So}
use mathlib.Core.List.{List}
use Prim.Native.Nat.{ℕ, ◌<◌}
use Rattle.words.specs.Tests.{only}
use Rattle.words.proofs.Bools.{test, clash}
use Rattle.words.proofs.Lists.{put_at_same}
use Rattle.masks.specs.Mask.{test_bit}
use Rattle.model.specs.Version.{held, versions}
use Rattle.model.specs.Sets.{fetch_set}
use Rattle.model.specs.Store.{Store}
use Rattle.model.specs.Outcome.{done}
use Rattle.model.specs.Calls.{StoreCall, fetch, prepare, step, issue, pick, mayhold, maysave}
use Rattle.layout.specs.Reading.{store_of}
use Rattle.layout.specs.Buffer.{in_form}
use Rattle.layout.specs.Calls.{on, call_on, leaves, is_ok_of}
use Rattle.claims.specs.Rights.{right_of_at, hold_after, save_after, SetByCalls, StaysUnbarred, TakesEntitled, PreparesEntitled, ReadsEntitled, SavesEntitled}

-- ---- who sets a right

module _ (claim : SetByCalls) (l : List ℕ) (F : So (in_form l)) where
  -- The store after a call.
  abbrev after : StoreCall → Store
  after c = store_of (leaves (call_on (on c) l) l)

  pub kept-fetch : (o k i : ℕ) → (after (fetch o k)).tail.may_hold i ≡ (store_of l).tail.may_hold i
  unfolding right_of_at hold_after
  kept-fetch o k i = ap (λ (f : ℕ → ℕ). f i) (claim l (fetch o k) F).0

  pub kept-pick : (i : ℕ) → (after pick).tail.may_save i ≡ (store_of l).tail.may_save i
  unfolding right_of_at save_after
  kept-pick i = ap (λ (f : ℕ → ℕ). f i) (claim l pick F).1

  -- Mayhold sets the right of its office, and maysave that of its writer.
  pub given-hold : (o m : ℕ) → So (is_ok_of (call_on (on (mayhold o m)) l))
      → (after (mayhold o m)).tail.may_hold o ≡ m
  unfolding right_of_at hold_after
  given-hold o m ok =
      ap (λ (f : ℕ → ℕ). f o) (claim l (mayhold o m) F).0 ∙ rw ok (put_at_same _ o m)

  pub given-save : (w m : ℕ) → So (is_ok_of (call_on (on (maysave w m)) l))
      → (after (maysave w m)).tail.may_save w ≡ m
  unfolding right_of_at save_after
  given-save w m ok =
      ap (λ (f : ℕ → ℕ). f w) (claim l (maysave w m) F).1 ∙ rw ok (put_at_same _ w m)

-- ---- what is barred

pub unheld : StaysUnbarred → (l : List ℕ) (c : StoreCall) → So (in_form l)
    → let s = store_of (leaves (call_on (on c) l) l) in
    (o k : ℕ) → o < s.counts.sites → k < s.counts.keys
    → test_bit (s.tail.may_hold o) k ≡ false → held ((s.site o).cache k) ≡ false
unheld claim l c F o k ho hk n =
    let s = store_of (leaves (call_on (on c) l) l) in
    test (held ((s.site o).cache k)) (λ y. clash (claim l c F o k ho hk y) n) (λ e. e)

module _ (l : List ℕ) (k : ℕ) (hk : k < (store_of l).counts.keys) (a : List ℕ) (t : Store) where
  abbrev s : Store
  s = store_of l

  pub no-fetch : TakesEntitled → (o d : ℕ)
      → So (fetch_set (versions s.counts.writers) s.counts.keys s.master
      (s.site o).cache (only d) k) → test_bit (s.tail.may_hold o) k ≡ false
      → ¬ (call_on (on (fetch o d)) l ≡ done a t)
  no-fetch claim o d p n e = clash (claim l o d a t e k hk p) n

  pub no-prepare : PreparesEntitled → (r j : ℕ) → j < (s.run r).jobs
      → So (test_bit ((s.run r).job j).reads k)
      → test_bit (s.tail.may_hold ((s.run r).job j).site) k ≡ false
      → ¬ (call_on (on (prepare r)) l ≡ done a t)
  no-prepare claim r j hj p n e = clash (claim l r a t e j k hj hk p) n

  pub no_step : ReadsEntitled → (r j n : ℕ) → So (test_bit ((s.run r).job j).reads k)
      → test_bit (s.tail.may_hold ((s.run r).job j).site) k ≡ false
      → ¬ (call_on (on (step r j n)) l ≡ done a t)
  no_step claim r j n p w e = clash (claim l r j n a t e k hk p) w

  pub no-issue : SavesEntitled → (r w S : ℕ) → So (test_bit S k)
      → test_bit (s.tail.may_save w) k ≡ false → ¬ (call_on (on (issue r w S)) l ≡ done a t)
  no-issue claim r w S p n e = clash (claim l r w S a t e k hk p) n
