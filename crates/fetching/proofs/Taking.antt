-- The mask of T, as the parts of a fetch hand it on.
-- taken-cache: the cache that takes it. taken-lacked: whether the master lacks a key of it.
-- taken-count: how many keys are held then. barred-same, taken-cause: the causes.
-- cache-again, site-again: a site with its own cache. barred-read, over-read, taken-..: what is
-- read, stored.
-- Assumes nothing.
use mathlib.Core.Path.{◌≡◌, refl, sym, ap, ◌∙◌, fun_ext}
use mathlib.Core.Bool.{Bool, true, false, cond, not, ◌&&◌, ◌||◌}
use mathlib.Core.Logic.{⊎_elim}
use mathlib.Core.List.{List}
use Prim.Native.Nat.{ℕ, ◌^◌, ◌<◌}
use lib.Dec.{eqb, ltb}
use lib.ListN.{get_or}
use Rattle.words.specs.Tests.{Items}
use Rattle.words.specs.Numbers.{count_below}
use Rattle.words.proofs.Bools.{test}
use Rattle.words.proofs.Numbers.{count_same}
use Rattle.words.proofs.Tests.{below_or_not, any_same}
use Rattle.words.proofs.Lists.{put_at_itself}
use Rattle.masks.specs.Mask.{test_bit, mask_below, without}
use Rattle.masks.proofs.Bits.{test-none}
use Rattle.masks.proofs.Sets.{item_of, without-some}
use Rattle.sizes.specs.declared.Counts.{Counts}
use Rattle.sizes.specs.Bounds.{master_at, site_at, allowance_at, may_hold_at}
use Rattle.model.specs.Algebra.{Place, lacking}
use Rattle.model.specs.Version.{Version, held, versions}
use Rattle.model.specs.Sets.{fetch_set, fetched, unfetchable}
use Rattle.model.specs.Tail.{barred}
use Rattle.model.specs.Store.{Store, site_marked, site_with, with_sites, with_cache}
use Rattle.model.specs.Allowance.{held_count, over}
use Rattle.model.specs.Outcome.{refuse}
use Rattle.model.proofs.Draws.{unfetchable-set}
use Rattle.model.proofs.Allowances.{held-fetched}
use Rattle.model.proofs.Formed.{well-out}
use Rattle.layout.specs.Reading.{read_place, read_site, store_of}
use Rattle.layout.specs.Stored.{put_place}
use Rattle.layout.specs.Buffer.{written}
use Rattle.layout.proofs.Parts.{FitPlace, place-laws}
use Rattle.layout.proofs.Fit.{fit-choice, marks-beyond}
use Rattle.layout.proofs.Follow.{Fine, form-fine}
use Rattle.layout.proofs.Readings.{master_in, site_in, cache_in, may_hold-word}
use Rattle.version.specs.Places.{put_mark, choice}
use Rattle.form.specs.Parts.{FormWith}
use Rattle.fetching.specs.Takes.{takes_over, takes_cause}
use Rattle.form.proofs.Known.{form-again, cache-stored}

-- ---- the mask of T

module _ (z : Counts) (master cache : Place Version) (start : Items) (m : ℕ)
    (e : m ≡ mask_below z.keys
    (fetch_set (versions z.writers) z.keys master cache start)) where
  abbrev T : Items
  T = fetch_set (versions z.writers) z.keys master cache start

  -- It is the cache after the fetch.
  pub taken-cache : FitPlace z master → FitPlace z cache → choice (test_bit m) master cache
      ≡ fetched (versions z.writers) z.keys master cache start
  unfolding fetched
  taken-cache F G =
      fun_ext (λ k. ⊎_elim
      (λ i. ap (λ (b : Bool). cond b (master k) (cache k)) (item_of z.keys m T e k i))
      (λ i. rw (F.rest k i, G.rest k i) (either (test_bit m k) _ ∙ sym (either (T k) _)))
      (below_or_not k z.keys))
    where
      either : (b : Bool) (x : Version) → cond b x x ≡ x
      either true x = refl
      either false x = refl

  -- The master lacks a key of it exactly if it lacks one that is asked for.
  pub taken-lacked : unfetchable (versions z.writers) z.keys master (test_bit m)
      ≡ unfetchable (versions z.writers) z.keys master start
  unfolding unfetchable lacking
  taken-lacked =
      any_same z.keys (λ k. test_bit m k && not (held (master k)))
      (λ k. T k && not (held (master k)))
      (λ k i. ap (λ (b : Bool). b && not (held (master k))) (item_of z.keys m T e k i))
      ∙ sym (unfetchable-set (versions z.writers) z.keys master cache start)

  -- How many keys are held after a fetch of which the master lacks none.
  pub taken-count : unfetchable (versions z.writers) z.keys master start ≡ false
      → held_count z.keys (fetched (versions z.writers) z.keys master cache start)
      ≡ count_below z.keys (λ k. test_bit m k || held (cache k))
  taken-count u =
      held-fetched z.writers z.keys master cache start u
      ∙ count_same z.keys (λ k. T k || held (cache k)) (λ k. test_bit m k || held (cache k))
      (λ k i. ap (λ (b : Bool). b || held (cache k)) (sym (item_of z.keys m T e k i)))

-- Two sets with the same keys are barred alike.
barred-same : (K right : ℕ) (R S : Items) → ((k : ℕ) → k < K → R k ≡ S k)
    → barred K right R ≡ barred K right S
unfolding barred
barred-same K right R S same =
    any_same K (λ k. R k && not (test_bit right k)) (λ k. S k && not (test_bit right k))
    (λ k i. ap (λ (b : Bool). b && not (test_bit right k)) (same k i))

-- The rows by the masks are those of the fetch. asked: the mask of S, which the site must have the
-- right to.
pub taken-cause : (z : Counts) (s : Store) (o : ℕ) (start S : Items) (asked m : ℕ)
    → let alg = versions z.writers in
    let cache = (s.site o).cache in
    ((k : ℕ) → k < z.keys → test_bit asked k ≡ S k)
    → m ≡ mask_below z.keys (fetch_set alg z.keys s.master cache start)
    → takes_cause z s o asked m
    ≡ refuse (barred z.keys (s.tail.may_hold o) S) 13
    (refuse (unfetchable alg z.keys s.master start) 7
    (refuse (over z (s.site o) (fetched alg z.keys s.master cache start)) 12
    0))
unfolding takes_cause takes_over over refuse
taken-cause z s o start S asked m same e =
    let lacks = unfetchable (versions z.writers) z.keys s.master start in
    rw (
      barred-same z.keys (s.tail.may_hold o) (test_bit asked) S same,
      taken-lacked z s.master (s.site o).cache start m e,
    )
    (test lacks (λ y. rw y)
    (λ n. rw (n, taken-count z s.master (s.site o).cache start m e n)))

-- ---- a site with its own cache

-- A site of a fine store is as it is with its mark set again.
pub site-again : (s : Store) → Fine s → (o : ℕ)
    → site_with s (s.site o) (s.site o).cache ≡ s.site o
unfolding site_with
site-again s F o =
    ⊎_elim
    (λ h. ap (λ (m : ℕ). site_marked (s.site o) m) (sym ((well-out s F.formed).mark o h)))
    (marks-beyond s F.fits o) (below_or_not o s.counts.sites)

cache-again : (s : Store) → Fine s → (o : ℕ) → with_cache s o (s.site o).cache ≡ s
unfolding with_cache with_sites
cache-again s F o = rw (site-again s F o) (ap (with_sites s) (put_at_itself s.site o))

-- ---- what is read and stored

module _ (l : List ℕ) (z : Counts) (H : FormWith l z) (o : ℕ) (h : o < z.sites) where
  -- w: the word of what the site may hold.
  pub barred-read : (w asked : ℕ) → w ≡ may_hold_at z o → asked < 2 ^ z.keys
      → not (eqb (without asked (get_or l w 0)) 0)
      ≡ barred z.keys ((store_of l).tail.may_hold o) (test_bit asked)
  unfolding barred
  barred-read w asked p low =
      rw (may_hold-word l z H.counts o h, p)
      (without-some z.keys asked (get_or l (may_hold_at z o) 0) low)

  -- at, w: where the cache is, and the word of the allowance.
  pub over-read : (at w n m : ℕ) → at ≡ site_at z o → w ≡ allowance_at z at
      → n ≡ count_below z.keys (λ k. test_bit m k || held (read_place z l at k))
      → ltb (get_or l w 0) n ≡ takes_over z ((store_of l).site o) m
  unfolding takes_over read_site
  over-read at w n m p q e = rw (site_in l z H.counts o h, q, e, p)

  -- The cache of site o with the keys of a mask.
  abbrev pub takes : ℕ → Place Version
  takes m = choice (test_bit m) (store_of l).master ((store_of l).site o).cache

  -- No key.
  pub taken_none : (m : ℕ) → m ≡ 0 → l ≡ written (with_cache (store_of l) o (takes m)) l
  taken_none m e =
      let s = store_of l in
      let same : takes m ≡ (s.site o).cache = rw e (fun_ext (λ k. rw (test-none k))) in
      sym (form-again l z H)
      ∙ ap (λ (t : Store). written t l)
      (sym (rw same (cache-again s (form-fine l H.form) o)))

  -- The places as the code has them.
  pub taken-stored : (master cache m : ℕ) (k : List ℕ) → master ≡ master_at z → cache ≡ site_at z o
      → k ≡ put_mark z (put_place z l cache
      (choice (test_bit m) (read_place z l master) (read_place z l cache))) master cache
      → k ≡ written (with_cache (store_of l) o (takes m)) l
  taken-stored master cache m k p q e =
      let s = store_of l in
      let P = (place-laws z).fits l in
      let M : FitPlace z s.master = rw (master_in l z H.counts) (P (master_at z)) in
      let C : FitPlace z (s.site o).cache = rw (cache_in l z H.counts o h) (P (site_at z o)) in
      let put : k ≡ put_mark z (put_place z l (site_at z o) (takes m)) (master_at z) (site_at z o)
      =
      rw (master_in l z H.counts, cache_in l z H.counts o h, ← p, ← q) e in
      put ∙ cache-stored l z H o (takes m) h (fit-choice z (test_bit m) _ _ M C)
