-- What evict comes to on a buffer in form: refused by its cause, or done.
-- evict_rule_lem: the cause as the code tests it. evict-out, evict-lacks, evict-done: answer and
-- buffer.
-- Assumes nothing.
use mathlib.Core.Path.{◌≡◌, ap}
use mathlib.Core.Bool.{true, false}
use mathlib.Core.List.{List, [], ◌∷◌}
use Prim.Native.Nat.{ℕ, ◌<◌}
use Rattle.words.specs.Tests.{Items, only}
use Rattle.masks.specs.Mask.{test_bit, with_bit, mask_below}
use Rattle.sizes.specs.declared.Counts.{Counts}
use Rattle.sizes.specs.Bounds.{master_at, site_at}
use Rattle.model.specs.Version.{held, versions}
use Rattle.model.specs.Sets.{evict_set, evicted}
use Rattle.model.specs.Outcome.{answer, unless}
use Rattle.model.specs.Caches.{evict_cause, evict_done, evict_rule}
use Rattle.model.specs.Calls.{evict, rule_of}
use Rattle.layout.specs.Reading.{read_place, store_of}
use Rattle.layout.specs.Calls.{leaves}
use Rattle.layout.proofs.Readings.{cache_in}
use Rattle.layout.specs.Stored.{put_place}
use Rattle.version.specs.Places.{put_mark}
use Rattle.form.specs.Parts.{FormWith}
use Rattle.form.proofs.Known.{form-counts, Ends, ends}
use Rattle.form.proofs.Leaving.{gone-found, gone-stored}
use Rattle.caches.specs.Range.{out_of_range_of}
use Rattle.caches.proofs.Known.{inside, range-cause, key_cause, keyed-out, keyed-lacks, keyed-free, one_key}

module _ (l : List ℕ) (z : Counts) (H : FormWith l z) (o k : ℕ) where
  -- The rule, with its cause as the code tests it.
  evict_rule_lem : rule_of (evict o k) (store_of l)
      ≡ unless (key_cause (out_of_range_of z o k) (held (read_place z l (site_at z o) k)) 8)
      (evict_done (store_of l) o k)
  unfolding rule_of evict_rule evict_cause key_cause
  evict_rule_lem =
      ap (λ (n : ℕ). unless n (evict_done (store_of l) o k))
      (rw (form-counts l z H) (range-cause z o k _ _ (λ in_range_lem.
      rw (cache_in l z H.counts o (inside z o k in_range_lem).0))))

  pub evict-out : out_of_range_of z o k ≡ true → Ends (evict o k) l (2 ∷ 3 ∷ []) l
  evict-out = keyed-out (evict o k) l H.form _ _ 7 _ evict_rule_lem

module _ (l : List ℕ) (z : Counts) (H : FormWith l z) (o k at : ℕ) (a : at ≡ site_at z o)
    (in_range_lem : out_of_range_of z o k ≡ false) where
  pub evict-lacks : held (read_place z l at k) ≡ false → Ends (evict o k) l (2 ∷ 8 ∷ []) l
  evict-lacks q =
      keyed-lacks (evict o k) l H.form _ _ 7 _ (evict_rule_lem l z H o k) in_range_lem (rw (← a) q)

  -- From its key.
  pub evict-done : held (read_place z l at k) ≡ true → (master start E : ℕ) (m : List ℕ)
      → master ≡ master_at z → start ≡ with_bit 0 k
      → E ≡ mask_below z.keys
      (evict_set (versions z.writers) z.keys (read_place z l at) (test_bit start))
      → m ≡ put_mark z (put_place z l at
      (evicted (versions z.writers) z.keys (read_place z l at) (test_bit start))) master at
      → Ends (evict o k) l (0 ∷ E ∷ []) m
  unfolding answer leaves evict_done
  evict-done has master start E m b d p q =
      let h = (inside z o k in_range_lem).0 in
      let same : (j : ℕ) → j < z.keys → test_bit start j ≡ only k j =
      λ j _. rw d (ap (λ (S : Items). S j) (one_key k)) in
      let found = gone-found l z H o at start (only k) h a same E p in
      let stored = gone-stored l z H o at start (only k) h a same master m b q in
      ends (evict o k) l (evict_done (store_of l) o k) (0 ∷ E ∷ []) m
      (keyed-free (evict o k) l H.form _ _ 7 _ (evict_rule_lem l z H o k) in_range_lem (rw (← a)
      has))
      (ap (λ (E : ℕ). 0 ∷ E ∷ []) found) stored
