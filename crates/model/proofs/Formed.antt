-- Laws of the form of stores.
-- Marked, Roomy, Unbarred: of a site. Rights, TailFormed: of the tail. Formed: the test of the
-- store as a record; well-out, well_in; fresh-formed.
-- Assumes nothing.
use mathlib.Core.Path.{◌≡◌, refl, sym}
use mathlib.Core.Bool.{false, not, So, ◌&&◌}
use Prim.Native.Nat.{ℕ, ◌≤◌, ◌<◌, ◌^◌}
use native.Mathlib.Omega.{arith}
use lib.Dec.{eqb, leb, ltb}
use lib.Pow.{pow_pos}
use Rattle.words.specs.Tests.{all_below}
use Rattle.words.proofs.Bools.{and_intro, and_left, and_right, not-intro, not_elim, leb-le, le-leb, ltb-lt, lt-ltb, eqb-eq, eq-eqb}
use Rattle.words.proofs.Tests.{all-intro, all-at}
use Rattle.masks.proofs.Sets.{mask-no}
use Rattle.sizes.specs.declared.Counts.{Counts}
use Rattle.model.specs.Algebra.{Place}
use Rattle.model.specs.Version.{Version, held}
use Rattle.model.specs.Tail.{Tail, every_key, barred}
use Rattle.model.specs.Store.{Site, Store, free_run, fresh}
use Rattle.model.specs.Form.{place_formed, run_formed, site_formed, rights_formed, tail_formed, well_formed}
use Rattle.model.specs.Marks.{is_stale, stale_mask}
use Rattle.model.specs.Allowance.{held_count, over}
use Rattle.model.proofs.Allowances.{over_no, no-over, held-empty}
use Rattle.model.proofs.Rights.{unbarred-empty}
use Rattle.model.proofs.FormedPlaces.{PlaceFormed, place_out, place_in, formed-empty}

-- A site whose mark is true.
abbrev pub Marked : Store → Site → Type 0
Marked s x = x.stale ≡ stale_mask s.counts s.master x.cache

-- An allowance of at most K, and a cache within it.
abbrev pub Roomy : Counts → Site → Type 0
Roomy z x = (x.allowance ≤ z.keys) × (held_count z.keys x.cache ≤ x.allowance)

-- A cache with no key that isn't in the mask.
abbrev pub Unbarred : Counts → ℕ → Place Version → Type 0
Unbarred z right p = barred z.keys right (λ k. held (p k)) ≡ false

-- Masks of keys, for each of n.
abbrev pub Rights : Counts → ℕ → (ℕ → ℕ) → Type 0
Rights z n right = (i : ℕ) → i < n → right i < 2 ^ z.keys

pub record TailFormed (z : Counts) (t : Tail) : Type 0 where
  pub round : t.round < z.runs
  pub may_hold : Rights z z.sites t.may_hold
  pub may_save : Rights z z.writers t.may_save

pub record Formed (s : Store) : Type 0 where
  pub master : PlaceFormed s.counts s.master
  pub cache : (o : ℕ) → o < s.counts.sites → PlaceFormed s.counts (s.site o).cache
  pub mark : (o : ℕ) → o < s.counts.sites → Marked s (s.site o)
  pub room : (o : ℕ) → o < s.counts.sites → Roomy s.counts (s.site o)
  pub right : (o : ℕ) → o < s.counts.sites
      → Unbarred s.counts (s.tail.may_hold o) (s.site o).cache
  pub run : (r : ℕ) → r < s.counts.runs → So (run_formed s.counts (s.run r))
  pub tail : TailFormed s.counts s.tail

-- What is asked of a site, and what it says.
site-out : (s : Store) (m : ℕ) (x : Site) → So (site_formed s.counts s.master m x)
    → PlaceFormed s.counts x.cache × Marked s x × Roomy s.counts x
    × Unbarred s.counts m x.cache
unfolding site_formed
site-out s m x p =
    let z = s.counts in
    let a = place_formed z x.cache in
    let b = eqb x.stale (stale_mask z s.master x.cache) in
    let c = leb x.allowance z.keys in
    let d = not (over z x x.cache) in
    let e = not (barred z.keys m (λ k. held (x.cache k))) in
    let q = and_right a (b && (c && (d && e))) p in
    let r = and_right b (c && (d && e)) q in
    let t = and_right c (d && e) r in (
      place_out z x.cache (and_left a (b && (c && (d && e))) p),
      eqb-eq _ _ (and_left b (c && (d && e)) q),
      (leb-le _ _ (and_left c (d && e) r), over_no z x x.cache (not_elim (and_left d e t))),
      not_elim (and_right d e t),
    )

site_in : (s : Store) (m : ℕ) (x : Site) → PlaceFormed s.counts x.cache → Marked s x
    → Roomy s.counts x → Unbarred s.counts m x.cache
    → So (site_formed s.counts s.master m x)
unfolding site_formed
site_in s m x F e r u =
    let z = s.counts in
    and_intro (place_in z x.cache F)
    (and_intro (eq-eqb _ _ e)
    (and_intro (le-leb _ _ r.0)
    (and_intro (not-intro (no-over z x x.cache r.1)) (not-intro u))))

-- What is asked of the tail, and what it says.
tail-out : (z : Counts) (t : Tail) → So (tail_formed z t) → TailFormed z t
unfolding tail_formed rights_formed
tail-out z t p =
    let a = ltb t.round z.runs in
    let b = all_below z.sites (λ o. ltb (t.may_hold o) (2 ^ z.keys)) in
    let c = all_below z.writers (λ w. ltb (t.may_save w) (2 ^ z.keys)) in
    let q = and_right a (b && c) p in
    record {
      round = ltb-lt _ _ (and_left a (b && c) p);
      may_hold = λ o h. ltb-lt _ _ (all-at z.sites _ (and_left b c q) o h);
      may_save = λ w h. ltb-lt _ _ (all-at z.writers _ (and_right b c q) w h);
    }

tail_in : (z : Counts) (t : Tail) → TailFormed z t → So (tail_formed z t)
unfolding tail_formed rights_formed
tail_in z t F =
    and_intro (lt-ltb _ _ F.round)
    (and_intro (all-intro z.sites _ (λ o h. lt-ltb _ _ (F.may_hold o h)))
    (all-intro z.writers _ (λ w h. lt-ltb _ _ (F.may_save w h))))

pub well-out : (s : Store) → So (well_formed s) → Formed s
unfolding well_formed
well-out s p =
    let z = s.counts in
    let m = place_formed z s.master in
    let o = all_below z.sites (λ o. site_formed z s.master (s.tail.may_hold o) (s.site o)) in
    let r = all_below z.runs (λ r. run_formed z (s.run r)) in
    let t = tail_formed z s.tail in
    let q = and_right m (o && (r && t)) p in
    let rest = and_right o (r && t) q in
    let site = all-at z.sites (λ o. site_formed z s.master (s.tail.may_hold o) (s.site o))
    (and_left o (r && t) q) in
    record {
      master = place_out z s.master (and_left m (o && (r && t)) p);
      cache = λ i h. (site-out s (s.tail.may_hold i) (s.site i) (site i h)).0;
      mark = λ i h. (site-out s (s.tail.may_hold i) (s.site i) (site i h)).1;
      room = λ i h. (site-out s (s.tail.may_hold i) (s.site i) (site i h)).2;
      right = λ i h. (site-out s (s.tail.may_hold i) (s.site i) (site i h)).3;
      run = all-at z.runs (λ r. run_formed z (s.run r)) (and_left r t rest);
      tail = tail-out z s.tail (and_right r t rest);
    }

pub well_in : (s : Store) → Formed s → So (well_formed s)
unfolding well_formed
well_in s F =
    let z = s.counts in
    and_intro (place_in z s.master F.master)
    (and_intro
    (all-intro z.sites (λ o. site_formed z s.master (s.tail.may_hold o) (s.site o))
    (λ o h. site_in s (s.tail.may_hold o) (s.site o) (F.cache o h) (F.mark o h) (F.room o h)
    (F.right o h)))
    (and_intro (all-intro z.runs (λ r. run_formed z (s.run r)) F.run)
    (tail_in z s.tail F.tail)))

every-key : (z : Counts) (n : ℕ) → Rights z n (every_key z n)
every-key z n i h = rw (lt-ltb i n h) (omega (arith, pow_pos z.keys))

-- A fresh store, if there is a run, and a free one is in form.
pub fresh-formed : (z : Counts) → 1 ≤ z.runs → So (run_formed z free_run) → Formed (fresh z)
unfolding fresh stale_mask is_stale held
fresh-formed z some free = record {
  master = formed-empty z;
  cache = λ o h. formed-empty z;
  mark = λ o h. sym (mask-no z.keys _ (λ k l. refl));
  room = λ o h. rw (lt-ltb o z.sites h)
      (omega arith, omega (arith, held-empty z.keys));
  right = λ o h. unbarred-empty z.keys (every_key z z.sites o);
  run = λ r h. free;
  tail = record {
    round = omega arith;
    may_hold = every-key z z.sites;
    may_save = every-key z z.writers;
  };
}
