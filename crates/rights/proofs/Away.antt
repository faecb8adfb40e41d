-- What leaves a cache whose site may hold less: E, from the held keys that the mask lacks.
-- away-mask: these keys. away-none: there are none, and nothing is stored. away-stored: the buffer
-- without E.
-- Assumes nothing.
use mathlib.Core.Path.{◌≡◌, sym, ap, ◌∙◌, fun_ext}
use mathlib.Core.Bool.{Bool, not, ◌&&◌}
use mathlib.Core.Logic.{⊎_elim}
use mathlib.Core.List.{List}
use Prim.Native.Nat.{ℕ, ◌^◌, ◌<◌}
use native.Mathlib.Omega.{arith}
use Rattle.words.specs.Tests.{Items, none}
use Rattle.words.proofs.Lists.{put_at_itself}
use Rattle.words.proofs.Tests.{below_or_not}
use Rattle.masks.specs.Mask.{test_bit, mask_below, without}
use Rattle.masks.proofs.Bits.{test-none, test-without, without-lt}
use Rattle.masks.proofs.Sets.{mask_lt, mask_is, item_of}
use Rattle.reach.proofs.Closures.{closure-none}
use Rattle.sizes.specs.declared.Counts.{Counts}
use Rattle.sizes.specs.Bounds.{master_at, site_at}
use Rattle.model.specs.Algebra.{Place}
use Rattle.model.specs.Version.{Version, held, versions}
use Rattle.model.specs.Sets.{evict_set, evicted}
use Rattle.model.specs.Store.{Store, site_with, with_sites, with_cache}
use Rattle.model.specs.Calls.Rights.{taken_away, mayhold_cache}
use Rattle.model.proofs.Formed.{well-out}
use Rattle.model.proofs.Merges.{held-unheld}
use Rattle.layout.specs.Reading.{read_place, store_of}
use Rattle.layout.specs.Stored.{put_place}
use Rattle.layout.specs.Buffer.{written}
use Rattle.layout.proofs.Parts.{FitPlace}
use Rattle.layout.proofs.Follow.{form-fine}
use Rattle.layout.proofs.Readings.{cache_in}
use Rattle.version.specs.Places.{put_mark}
use Rattle.form.specs.Parts.{FormWith}
use Rattle.form.proofs.Known.{form-counts, form-again}
use Rattle.form.proofs.Leaving.{gone-stored}

-- ---- the keys that are taken away

module _ (z : Counts) (p : Place Version) (m : ℕ) where
  abbrev away : Items
  away = taken_away (versions z.writers) p m

  pub away-mask : (kept r : ℕ) → kept ≡ mask_below z.keys (λ k. held (p k))
      → r ≡ without kept m → r ≡ mask_below z.keys away
  unfolding taken_away
  away-mask kept r e f =
      let on : Items = λ k. held (p k) in
      let low : kept < 2 ^ z.keys = rw e (mask_lt z.keys on z.keys (omega arith)) in
      f ∙ mask_is z.keys (without kept m) away (without-lt kept m z.keys low)
      (λ k i. test-without kept m k
      ∙ ap (λ (b : Bool). b && not (test_bit m k)) (item_of z.keys kept on e k i))

  -- No key below K, and none beyond.
  no-away : FitPlace z p → 0 ≡ mask_below z.keys away → away ≡ none
  unfolding taken_away
  no-away F e =
      fun_ext (λ k. ⊎_elim
      (λ i. sym (item_of z.keys 0 away e k i) ∙ test-none k)
      (λ i. rw (F.rest k i, held-unheld))
      (below_or_not k z.keys))

-- ---- the cache without E

-- at: where the cache is. start: the keys taken away.
module _ (l : List ℕ) (z : Counts) (H : FormWith l z) (o at m start : ℕ) (h : o < z.sites)
    (a : at ≡ site_at z o)
    (e : start ≡ mask_below z.keys
    (taken_away (versions z.writers) (read_place z l at) m)) where
  abbrev s : Store
  s = store_of l

  -- The start is the store's.
  known : start ≡ mask_below s.counts.keys
      (taken_away (versions s.counts.writers) (s.site o).cache m)
  known = rw (form-counts l z H, cache_in l z H.counts o h, ← a) e

  pub away-stored : (master : ℕ) (k : List ℕ) → master ≡ master_at z
      → k ≡ put_mark z (put_place z l at
      (evicted (versions z.writers) z.keys (read_place z l at) (test_bit start))) master at
      → k ≡ written (with_cache s o (mayhold_cache s o m)) l
  unfolding mayhold_cache
  away-stored master k b f =
      gone-stored l z H o at start _ h a
      (λ d i. item_of s.counts.keys start _ known d (rw (form-counts l z H) i)) master k b f

  -- Nothing leaves: the cache stays, and so does its mark, which is true.
  whole : start ≡ 0 → mayhold_cache s o m ≡ (s.site o).cache
  unfolding mayhold_cache evicted evict_set
  whole q =
      let y = s.counts in
      let cache = (s.site o).cache in
      let F : FitPlace y cache = ((form-fine l H.form).fits.site.each o
      (rw (form-counts l z H) h)).cache in
      rw (no-away y cache m F (sym q ∙ known)) (fun_ext (λ k. rw (closure-none y.keys _)))

  again : with_cache s o (s.site o).cache ≡ s
  unfolding with_cache with_sites site_with
  again =
      let mark = (well-out s (form-fine l H.form).formed).mark o (rw (form-counts l z H) h) in
      rw (← mark) (ap (with_sites s) (put_at_itself s.site o))

  pub away-none : start ≡ 0 → l ≡ written (with_cache s o (mayhold_cache s o m)) l
  away-none q =
      sym (form-again l z H) ∙ ap (λ (t : Store). written t l) (sym (rw (whole q) again))
