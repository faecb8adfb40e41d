-- Where the versions and rows of a place lie, and what is read there.
-- key-..: the version of a key. row_in: a row. leaders-..: its mask. standing-word: two rows
-- compared. mark_in, allowance_in: the words behind a cache. count_held: how many keys it holds.
-- Assumes nothing.
use mathlib.Core.Path.{◌≡◌, ap, ◌∙◌}
use mathlib.Core.Bool.{◌||◌}
use mathlib.Core.List.{List}
use mathlib.Core.Logic.{inl, inr, ⊎_elim}
use Prim.Native.Nat.{ℕ, ◌+◌, ◌≤◌, ◌<◌}
use native.Mathlib.Omega.{arith}
use Rattle.words.specs.Words.{Apart}
use Rattle.words.specs.Numbers.{count_below}
use Rattle.words.proofs.Numbers.{count_same}
use Rattle.masks.specs.Mask.{test_bit}
use Rattle.masks.proofs.Bits.{test-none}
use Rattle.clock.specs.Clock.{standing, clock_at}
use Rattle.clock.proofs.Standings.{standing-same}
use Rattle.sizes.specs.declared.Counts.{Counts}
use Rattle.sizes.specs.Bounds.{version_limit, leaders_offset, past_offset, version_size, place_size, site_size, stale_at, allowance_at, key_at, row_at}
use Rattle.sizes.proofs.Offsets.{largest, Lies, mark-lies, allowance-lies, key-lies, row_lies}
use Rattle.model.specs.Version.{held}
use Rattle.model.specs.Allowance.{held_count}
use Rattle.layout.specs.Reading.{read_word_of, read_version, read_place}
use Rattle.layout.proofs.Places.{place_at_lem}
use Rattle.layout.proofs.Readings.{row_word}
use Rattle.version.specs.Places.{Area, SiteArea, Areas, Merges}

module _ (len : ℕ) (z : Counts) (at : ℕ) (A : Area len z at) where
  pub key_in : (k : ℕ) → k < z.keys → key_at z at k + version_size z ≤ len
  key_in k h = omega (arith, (key-lies z at k h).ends, A.fits)

  pub row_in : (k d : ℕ) → k < z.keys → d < z.keys → row_at z (key_at z at k) d + z.writers ≤ len
  row_in k d h i = omega (arith, (row_lies z (key_at z at k) d i).ends, key_in k h)

  -- The first word of a version, its issue number.
  pub issue_in : (k : ℕ) → k < z.keys → key_at z at k < len
  unfolding version_size
  issue_in k h = omega (arith, key_in k h)

  -- The word behind it, the mask of leading writers.
  pub leaders_in : (k : ℕ) → k < z.keys
      → (key_at z at k + leaders_offset < version_limit) × (key_at z at k + leaders_offset < len)
  unfolding version_size
  leaders_in k h =
      let m = largest z A.ranged in
      let e = key-lies z at k h in (omega (arith, A.low), omega (arith, key_in k h))

pub leaders-word : (z : Counts) (l : List ℕ) (at k : ℕ) → k < z.keys
    → (read_place z l at k).leaders ≡ read_word_of l (key_at z at k + leaders_offset)
unfolding read_version
leaders-word z l at k h = rw (place_at_lem z l at k h)

-- The cache of a site.
pub site-cache : (len : ℕ) (z : Counts) (at : ℕ) → SiteArea len z at → Area len z at
unfolding site_size
site-cache len z at A = record { ranged = A.ranged; low = A.low; fits = omega (arith, A.fits) }

-- A word behind it, and so the stale mark and the allowance.
pub word_in : (len : ℕ) (z : Counts) (at i : ℕ) → SiteArea len z at
    → Lies (at + place_size z) (at + site_size z) i 1 → (i < version_limit) × (i < len)
word_in len z at i A e =
    let m = largest z A.ranged in (omega (arith, A.low), omega (arith, A.fits))

pub mark_in : (len : ℕ) (z : Counts) (at : ℕ) → SiteArea len z at
    → (stale_at z at < version_limit) × (stale_at z at < len)
mark_in len z at A = word_in len z at (stale_at z at) A (mark-lies z at)

pub allowance_in : (len : ℕ) (z : Counts) (at : ℕ) → SiteArea len z at
    → (allowance_at z at < version_limit) × (allowance_at z at < len)
allowance_in len z at A = word_in len z at (allowance_at z at) A (allowance-lies z at)

-- The number of keys that are held, where no other is counted.
pub count_held : (z : Counts) (l : List ℕ) (at c : ℕ)
    → c ≡ count_below z.keys (λ k. test_bit 0 k || held (read_place z l at k))
    → c ≡ held_count z.keys (read_place z l at)
unfolding held_count
count_held z l at c e =
    e ∙ count_same z.keys (λ k. test_bit 0 k || held (read_place z l at k))
    (λ k. held (read_place z l at k)) (λ k _. rw (test-none k))

-- The versions of one key in two places.
pub key_apart : (len : ℕ) (z : Counts) (dst src : ℕ) → Areas len z dst src → (k : ℕ) → k < z.keys
    → Apart len (key_at z dst k) (key_at z src k) (version_size z)
key_apart len z dst src A k h =
    let a = key-lies z dst k h in
    let b = key-lies z src k h in
    record {
      dst_in = key_in len z dst A.target k h;
      src_in = key_in len z src A.source k h;
      apart = ⊎_elim (λ e. inl (omega (arith, ap (λ (at : ℕ). key_at z at k) e)))
          (⊎_elim (λ l. inl (omega arith)) (λ l. inr (omega arith))) A.apart;
    }

-- Row d of key k in one place and of key t in another.
pub standing-word : (z : Counts) (l : List ℕ) (a k b t d : ℕ)
    → k < z.keys → t < z.keys → d < z.keys
    → standing z.writers ((read_place z l a k).past d) ((read_place z l b t).past d)
    ≡ standing z.writers (clock_at l (row_at z (key_at z a k) d))
    (clock_at l (row_at z (key_at z b t) d))
standing-word z l a k b t d h i j =
    standing-same z.writers ((read_place z l a k).past d) (clock_at l (row_at z (key_at z a k) d))
    ((read_place z l b t).past d) (clock_at l (row_at z (key_at z b t) d))
    (λ w u. row_word z l a k d w h j u) (λ w u. row_word z l b t d w i j u)

-- The version of a key and the past of the same key in another place.
pub key_merges : (len : ℕ) (z : Counts) (dst src : ℕ) → Areas len z dst src → (k : ℕ) → k < z.keys
    → Merges len z (key_at z dst k) (key_at z src k + past_offset)
unfolding version_size
key_merges len z dst src A k h =
    let m = largest z A.target.ranged in
    let a = key-lies z dst k h in
    let b = key-lies z src k h in
    let P = key_apart len z dst src A k h in
    record {
      ranged = A.target.ranged;
      low = omega (arith, A.target.low);
      near = omega (arith, A.source.low);
      target = P.dst_in;
      source = omega (arith, P.src_in);
      apart = ⊎_elim (λ l. inl (omega arith)) (λ l. inr (omega arith)) P.apart;
    }
