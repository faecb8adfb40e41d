-- E leaves a cache of a buffer in form, from any start: what is found and stored, by a mask of the
-- start, is what the store has.
-- gone-found: E. gone-stored: the buffer without it.
-- Assumes nothing.
use mathlib.Core.Path.{◌≡◌, refl, sym, ap, ◌∙◌, fun_ext}
use mathlib.Core.Bool.{Bool, cond, ◌&&◌}
use mathlib.Core.Logic.{⊎_elim}
use mathlib.Core.List.{List}
use Prim.Native.Nat.{ℕ, ◌<◌}
use Rattle.words.specs.Tests.{Items}
use Rattle.words.proofs.Tests.{below_or_not}
use Rattle.masks.specs.Mask.{test_bit, mask_below}
use Rattle.masks.proofs.Sets.{mask-same}
use Rattle.reach.proofs.Closures.{closure-same}
use Rattle.sizes.specs.declared.Counts.{Counts}
use Rattle.sizes.specs.Bounds.{master_at, site_at}
use Rattle.model.specs.Algebra.{Place}
use Rattle.model.specs.Version.{Version, unheld, held, dependency, versions}
use Rattle.model.specs.Sets.{evict_set, evicted}
use Rattle.model.specs.Store.{with_cache}
use Rattle.layout.specs.Reading.{read_place, store_of}
use Rattle.layout.specs.Stored.{put_place}
use Rattle.layout.specs.Buffer.{written}
use Rattle.layout.proofs.Parts.{FitPlace, place-laws}
use Rattle.layout.proofs.Kept.{evicted-fits}
use Rattle.layout.proofs.Readings.{cache_in}
use Rattle.version.specs.Places.{put_mark}
use Rattle.form.specs.Parts.{FormWith}
use Rattle.form.proofs.Known.{form-counts, cache-stored}

-- ---- starts that are the same below the number of keys

module _ (z : Counts) (p : Place Version) (a b : Items)
    (same : (k : ℕ) → k < z.keys → a k ≡ b k) where
  set_same : (k : ℕ) → k < z.keys
      → evict_set (versions z.writers) z.keys p a k
      ≡ evict_set (versions z.writers) z.keys p b k
  unfolding evict_set
  set_same =
      let edge : ℕ → Items = λ t d. held (p d) && dependency z.writers d (p d) t in
      closure-same z.keys edge edge a b (λ _ _ _ _. refl) same

  left-same : FitPlace z p
      → evicted (versions z.writers) z.keys p a
      ≡ evicted (versions z.writers) z.keys p b
  unfolding evicted
  left-same F =
      fun_ext (λ k. ⊎_elim
      (λ i. ap (λ (b : Bool). cond b unheld (p k)) (set_same k i))
      (λ i. (evicted-fits z p a F).rest k i ∙ sym ((evicted-fits z p b F).rest k i))
      (below_or_not k z.keys))

-- ---- a cache

-- mask: the keys of the start, as the code has them.
module _ (l : List ℕ) (z : Counts) (H : FormWith l z) (o at mask : ℕ) (start : Items)
    (h : o < z.sites) (a : at ≡ site_at z o)
    (same : (k : ℕ) → k < z.keys → test_bit mask k ≡ start k) where
  pub gone-found : (E : ℕ)
      → E ≡ mask_below z.keys
      (evict_set (versions z.writers) z.keys (read_place z l at) (test_bit mask))
      → let s = store_of l in
      let y = s.counts in
      E ≡ mask_below y.keys (evict_set (versions y.writers) y.keys (s.site o).cache start)
  gone-found E e =
      let p = read_place z l at in
      let found : E ≡ mask_below z.keys
      (evict_set (versions z.writers) z.keys p start) =
      e ∙ mask-same z.keys _ _ (set_same z p (test_bit mask) start same) in
      rw (form-counts l z H, cache_in l z H.counts o h, ← a) found

  pub gone-stored : (master : ℕ) (m : List ℕ) → master ≡ master_at z
      → m ≡ put_mark z (put_place z l at
      (evicted (versions z.writers) z.keys (read_place z l at) (test_bit mask))) master at
      → let s = store_of l in
      let y = s.counts in
      m ≡ written (with_cache s o
      (evicted (versions y.writers) y.keys (s.site o).cache start)) l
  gone-stored master m b e =
      let s = store_of l in
      let at = site_at z o in
      let alg = versions z.writers in
      let p = read_place z l at in
      let F = (place-laws z).fits l at in
      let left = evicted alg z.keys p start in
      let put : m ≡ put_mark z (put_place z l at (evicted alg z.keys p (test_bit mask)))
      (master_at z) at =
      rw (← a, ← b) e in
      let alike : left
      ≡ evicted (versions s.counts.writers) s.counts.keys (s.site o).cache start =
      rw (form-counts l z H, cache_in l z H.counts o h) in
      put
      ∙ ap (λ (q : Place Version). put_mark z (put_place z l at q) (master_at z) at)
      (left-same z p (test_bit mask) start same F)
      ∙ cache-stored l z H o left h (evicted-fits z p start F)
      ∙ ap (λ (q : Place Version). written (with_cache s o q) l) alike
