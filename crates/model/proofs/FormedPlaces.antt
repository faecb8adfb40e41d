-- Laws of the form of versions and of places.
-- version-..: one version. PlaceFormed, place_out, place_in: each version of a place. formed-..:
-- places in form.
-- Assumes nothing.
use mathlib.Core.Path.{◌≡◌, refl}
use mathlib.Core.Bool.{Bool, false, cond, not, So, ◌&&◌}
use Prim.Native.Nat.{ℕ, ◌≤◌, ◌<◌, ◌^◌}
use lib.Dec.{eqb, leb, ltb}
use Rattle.words.proofs.Bools.{test, and_intro, and_left, and_right, not-intro, not_elim, leb-le, le-leb, ltb-lt, lt-ltb}
use Rattle.words.proofs.Tests.{all-intro, all-at, any-no}
use Rattle.clock.specs.Clock.{present, join}
use Rattle.clock.proofs.Order.{present-mono, absent, join-left}
use Rattle.sizes.specs.declared.Counts.{Counts}
use Rattle.model.specs.Algebra.{Place}
use Rattle.model.specs.Version.{Version, unheld, zero_past, held, larger, merge}
use Rattle.model.specs.Store.{empty_place}
use Rattle.model.specs.Form.{zero_rows, zero_version, leaders_formed, version_formed, place_formed}
use Rattle.model.proofs.Merges.{larger-held, leaders-lt, leaders-some, merge-cases}

-- ---- versions

-- A version of key k: no words if it isn't held, otherwise an own row that isn't zero.
abbrev pub VersionFormed : Counts → ℕ → Version → Type 0
VersionFormed z k v = So (version_formed z k v)

zero-absent : (W : ℕ) → present W (λ w. 0) ≡ false
unfolding present
zero-absent W = any-no W (λ w. leb 1 0) (λ w h. refl)

pub zero-rows : (z : Counts) → So (zero_rows z unheld)
unfolding zero_rows
zero-rows z =
    all-intro z.keys (λ d. not (present z.writers (zero_past d)))
    (λ d h. not-intro (zero-absent z.writers))

pub zero-version : (z : Counts) → So (zero_version z unheld)
unfolding zero_version
zero-version z = zero-rows z

pub version-unheld : (z : Counts) (k : ℕ) → VersionFormed z k unheld
unfolding version_formed held
version-unheld z k = zero-version z

-- A mask that isn't zero, and below 2^W.
pub leaders_in : (W m : ℕ) → 1 ≤ m → m < 2 ^ W → So (leaders_formed W m)
unfolding leaders_formed
leaders_in W m o l = and_intro (le-leb 1 m o) (lt-ltb m (2 ^ W) l)

-- A held version with a mask in form and an own row that isn't zero.
pub version-held : (z : Counts) (k : ℕ) (v : Version) → So (held v)
    → So (leaders_formed z.writers v.leaders)
    → So (present z.writers (v.past k)) → VersionFormed z k v
unfolding version_formed
version-held z k v h m p = rw h (and_intro m p)

pub version-row : (z : Counts) (k : ℕ) (v : Version) → VersionFormed z k v → So (held v)
    → So (present z.writers (v.past k))
unfolding version_formed
version-row z k v F h = and_right (leaders_formed z.writers v.leaders) _ (rw h at F)

pub version-leaders : (z : Counts) (k : ℕ) (v : Version) → VersionFormed z k v → So (held v)
    → (v.leaders < 2 ^ z.writers) × (1 ≤ v.leaders)
unfolding version_formed leaders_formed
version-leaders z k v F h =
    let some = leb 1 v.leaders in
    let low = ltb v.leaders (2 ^ z.writers) in
    let m : So (some && low) = and_left (some && low) (present z.writers (v.past k))
    (rw h at F) in
    (ltb-lt _ _ (and_right some low m), leb-le _ _ (and_left some low m))

-- One that isn't held has no mask and only zero counts.
pub version-zero : (z : Counts) (k : ℕ) (v : Version) → VersionFormed z k v → held v ≡ false
    → (d : ℕ) → d < z.keys → (w : ℕ) → w < z.writers → v.past d w ≡ 0
unfolding version_formed zero_version zero_rows
version-zero z k v F n d l =
    let rows : So (zero_rows z v) = and_right (eqb v.leaders 0) (zero_rows z v) (rw n at F) in
    let none = all-at z.keys (λ d. not (present z.writers (v.past d))) rows d l in
    absent z.writers (v.past d) (not_elim none)

pub version-merge : (z : Counts) (k : ℕ) (a b : Version)
    → VersionFormed z k a → VersionFormed z k b → VersionFormed z k (merge z.writers k a b)
unfolding larger
version-merge z k a b F G =
    let W = z.writers in
    merge-cases W k (VersionFormed z k) a b
    (λ p q.
    let row = present-mono W (join (a.past k) (b.past k)) (a.past k)
    (join-left W (a.past k) (b.past k)) (version-row z k a F p) in
    version-held z k (larger W k a b) (larger-held W k a b p)
    (leaders_in W _ (leaders-some W a.leaders b.leaders (a.past k) (b.past k) row)
    (leaders-lt W a.leaders b.leaders (a.past k) (b.past k)))
    row)
    (λ _ _. F)
    (λ _. G)

-- ---- places

abbrev pub PlaceFormed : Counts → Place Version → Type 0
PlaceFormed z p = (k : ℕ) → k < z.keys → VersionFormed z k (p k)

pub place_out : (z : Counts) (p : Place Version) → So (place_formed z p) → PlaceFormed z p
unfolding place_formed
place_out z p F = all-at z.keys (λ k. version_formed z k (p k)) F

pub place_in : (z : Counts) (p : Place Version) → PlaceFormed z p → So (place_formed z p)
unfolding place_formed
place_in z p F = all-intro z.keys (λ k. version_formed z k (p k)) F

pub formed-empty : (z : Counts) → PlaceFormed z empty_place
formed-empty z k h = version-unheld z k

-- One of two places for each key.
pub formed-choice : (z : Counts) (b : ℕ → Bool) (p q : Place Version)
    → PlaceFormed z p → PlaceFormed z q → PlaceFormed z (λ k. cond (b k) (p k) (q k))
formed-choice z b p q F G k h = test (b k) (λ t. rw t (F k h)) (λ t. rw t (G k h))
