-- What is known of a buffer in form, and of a call on it.
-- form-long: its header. form-area: where it lies. form-counts: the counts of its store.
-- ..-formed: a place of it is in form. ..-stored: another part stored. master-found: where the
-- master is. Ends: what a call answers and leaves; ends-..: by what the call comes to.
-- Assumes nothing.
use mathlib.Core.Path.{◌≡◌, refl, sym, ap, ◌∙◌}
use mathlib.Core.Bool.{So}
use mathlib.Core.Logic.{◌≢◌}
use mathlib.Core.List.{List, [], ◌∷◌}
use Prim.Native.Nat.{ℕ, ◌≤◌, ◌<◌}
use lib.ListN.{length, set}
use Rattle.words.proofs.Bools.{and_left}
use Rattle.sizes.specs.declared.Counts.{Counts}
use Rattle.sizes.specs.declared.Sizes.{Sizes}
use Rattle.sizes.specs.Bounds.{header_size, sizes_of, master_at, site_at, stale_at}
use Rattle.model.specs.Algebra.{Place}
use Rattle.model.specs.Version.{Version}
use Rattle.model.specs.Marks.{stale_mask}
use Rattle.model.specs.Store.{with_cache}
use Rattle.model.specs.Form.{place_formed, well_formed}
use Rattle.model.specs.Outcome.{Outcome, refused, answer, unless}
use Rattle.model.specs.Calls.{StoreCall, rule_of}
use Rattle.model.proofs.FormedPlaces.{place_in}
use Rattle.model.proofs.Formed.{well-out}
use Rattle.layout.specs.Reading.{read_place, store_of}
use Rattle.layout.specs.Stored.{put_place}
use Rattle.layout.specs.Buffer.{written, shaped, in_form}
use Rattle.layout.specs.Calls.{on, call_on, leaves}
use Rattle.layout.proofs.Whole.{store_kept}
use Rattle.layout.proofs.Parts.{FitPlace, place-laws}
use Rattle.layout.proofs.Windows.{part-back}
use Rattle.layout.proofs.Updates.{put-site}
use Rattle.version.specs.Places.{put_mark}
use Rattle.version.proofs.Stores.{place-beside, site-apart, site-master}
use Rattle.layout.proofs.Readings.{counts_in_lem, master_in, cache_in}
use Rattle.layout.proofs.Follow.{form-fine}
use Rattle.layout.proofs.Forms.{form-refused, form-done}
use Rattle.form.specs.Parts.{StoreArea, FormWith}
use Rattle.form.proofs.Stores.{shaped-area, shaped-long}

-- ---- a buffer in form

pub in_shape : (l : List ℕ) → So (in_form l) → So (shaped l)
unfolding in_form
in_shape l F = and_left (shaped l) (well_formed (store_of l)) F

pub form-long : (l : List ℕ) → So (in_form l) → header_size ≤ length l
form-long l F = shaped-long l (in_shape l F)

module _ (l : List ℕ) (z : Counts) (H : FormWith l z) where
  pub form-area : StoreArea (length l) z
  form-area = rw H.counts (shaped-area l (in_shape l H.form))

  pub form-counts : (store_of l).counts ≡ z
  form-counts = counts_in_lem l ∙ sym H.counts

  -- Stored again, the store is the buffer.
  pub form-again : written (store_of l) l ≡ l
  form-again = store_kept l (in_shape l H.form)

  pub master-formed : So (place_formed z (read_place z l (master_at z)))
  master-formed =
      let s = store_of l in
      let formed : So (place_formed s.counts s.master) =
      place_in s.counts s.master (well-out s (form-fine l H.form).formed).master in
      rw (← master_in l z H.counts, ← form-counts) formed

  pub cache-formed : (o : ℕ) → o < z.sites → So (place_formed z (read_place z l (site_at z o)))
  cache-formed o h =
      let s = store_of l in
      let formed : So (place_formed s.counts (s.site o).cache) =
      place_in s.counts (s.site o).cache
      ((well-out s (form-fine l H.form).formed).cache o (rw form-counts h)) in
      rw (← cache_in l z H.counts o h, ← form-counts) formed

  -- Another cache stored, then the mark that is found there.
  pub cache-stored : (o : ℕ) (p : Place Version) → o < z.sites → FitPlace z p
      → put_mark z (put_place z l (site_at z o) p) (master_at z) (site_at z o)
      ≡ written (with_cache (store_of l) o p) l
  cache-stored o p h F =
      let s = store_of l in
      let at = site_at z o in
      let same = form-counts in
      let A = form-area in
      let areas = site-master (length l) z A.ranged A.fits o h in
      let stored : set (put_place z (written s l) at p) (stale_at z at) (stale_mask z s.master p)
      ≡ written (with_cache s o p) l =
      rw (← same) (put-site s l o p (rw same h)) in
      let beside : read_place z (put_place z l at p) (master_at z) ≡ s.master =
      place-beside z l at (master_at z) p (site-apart (length l) z A.ranged A.fits o h)
      ∙ sym (master_in l z H.counts) in
      let back : read_place z (put_place z l at p) at ≡ p =
      part-back (place-laws z) l at p F areas.target.fits in
      rw (beside, back)
      (ap (λ (m : List ℕ). set (put_place z m at p) (stale_at z at) (stale_mask z s.master p))
      (sym form-again) ∙ stored)

pub master-found : (z : Counts) (s : Sizes) → s ≡ sizes_of z → s.master ≡ master_at z
unfolding sizes_of
master-found z s e = ap (λ (s : Sizes). s.master) e

-- ---- a call

-- The answer's words w, and the buffer m after it.
module _ (c : StoreCall) (l : List ℕ) where
  abbrev pub Ends : List ℕ → List ℕ → Type 0
  Ends w m = (w ≡ answer (call_on (on c) l)) × (m ≡ leaves (call_on (on c) l) l)

  pub ends : (y : Outcome) (w m : List ℕ) → call_on (on c) l ≡ y → w ≡ answer y → m ≡ leaves y l
      → Ends w m
  ends y w m out p q = (rw out p, rw out q)

  -- A rule with a cause n and an act x.
  pub ends-refused : (n : ℕ) (x : Outcome) → So (in_form l) → rule_of c (store_of l) ≡ unless n x
      → n ≢ 0 → Ends (2 ∷ n ∷ []) l
  unfolding answer leaves
  ends-refused n x F e h =
      ends (refused n) (2 ∷ n ∷ []) l (form-refused c l n x F e h) refl refl

  pub ends-done : (n : ℕ) (x : Outcome) → So (in_form l) → rule_of c (store_of l) ≡ unless n x
      → n ≡ 0 → (w m : List ℕ) → w ≡ answer x → m ≡ leaves x l → Ends w m
  ends-done n x F e h w m p q = ends x w m (form-done c l n x F e h) p q
