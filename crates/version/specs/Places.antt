-- Versions and places in the words of a buffer: stored at an index, and where they lie.
-- version_of: a version by its parts. put_key: one key stored. put_mark: a stale mark stored.
-- choice: a place by a set of keys.
-- Area, SiteArea, Areas: where places lie. Merges: where a version and a past lie.
-- Outside: what a store leaves as it was. Own: a version given by the words of the target itself.
-- Assumes nothing.
use Rattle.std.specs.Prelude.{◌≡◌, cond, List, ◌⊎◌, ℕ, ◌+◌, ◌≤◌, ◌<◌, length, get_or, set}
use Rattle.words.specs.Tests.{Items}
use Rattle.clock.specs.Clock.{Clock}
use Rattle.sizes.specs.declared.Counts.{Counts}
use Rattle.sizes.specs.Bounds.{place_limit, version_limit, leaders_offset, past_offset, Ranged, past_size, version_size, place_size, site_size, stale_at, key_at}
use Rattle.model.specs.Algebra.{Place}
use Rattle.model.specs.Version.{Version}
use Rattle.model.specs.Marks.{stale_mask}
use Rattle.layout.specs.Reading.{read_place}
use Rattle.layout.specs.Stored.{put_version}

-- The version with an issue number, a mask of leading writers and a past.
abbrev pub version_of : ℕ → ℕ → (ℕ → Clock) → Version
version_of n m p = record { issue = n; leaders = m; past = p }

-- The words l with version v stored for key k of the place at an index, if k is in the set.
abbrev pub put_key : Counts → List ℕ → ℕ → Items → ℕ → Version → List ℕ
put_key z l at S k v = cond (S k) (put_version z l (key_at z at k) v) l

-- The words l with the stale mark of the site at an index stored: it is true there.
abbrev pub put_mark : Counts → List ℕ → ℕ → ℕ → List ℕ
put_mark z l master site =
    set l (stale_at z site) (stale_mask z (read_place z l master) (read_place z l site))

-- p for the keys of a set, and q for the others.
abbrev pub choice : Items → Place Version → Place Version → Place Version
choice S p q k = cond (S k) (p k) (q k)

-- A place at an index of a buffer of len words.
pub record Area (len : ℕ) (z : Counts) (at : ℕ) : Type 0 where
  pub ranged : Ranged z
  pub low : at < place_limit
  pub fits : at + place_size z ≤ len

-- A site at an index: a place, and the words behind it.
pub record SiteArea (len : ℕ) (z : Counts) (at : ℕ) : Type 0 where
  pub ranged : Ranged z
  pub low : at < place_limit
  pub fits : at + site_size z ≤ len

-- Two places: one and the same, or two that do not overlap.
pub record Areas (len : ℕ) (z : Counts) (dst src : ℕ) : Type 0 where
  pub target : Area len z dst
  pub source : Area len z src
  pub apart : (dst ≡ src) ⊎ ((dst + place_size z ≤ src) ⊎ (src + place_size z ≤ dst))

-- The version at an index, and a past that begins no earlier than its own or ends before it.
pub record Merges (len : ℕ) (z : Counts) (dst past : ℕ) : Type 0 where
  pub ranged : Ranged z
  pub low : dst < version_limit
  pub near : past < version_limit
  pub target : dst + version_size z ≤ len
  pub source : past + past_size z ≤ len
  pub apart : (dst + past_offset ≤ past) ⊎ (past + past_size z ≤ dst)

-- ---- CR 5: "to change no other word, also where source and target are one place"

-- The words l and m differ at most in the n words at an index.
pub record Outside (l m : List ℕ) (at n : ℕ) : Type 0 where
  pub long : length m ≡ length l
  pub same : (i : ℕ) → (i < at) ⊎ (at + n ≤ i) → get_or m i 0 ≡ get_or l i 0

-- The number, mask and past that are given are those of the version at an index.
pub record Own (l : List ℕ) (dst n m p : ℕ) : Type 0 where
  pub number : n ≡ get_or l dst 0
  pub leaders : m ≡ get_or l (dst + leaders_offset) 0
  pub past : p ≡ dst + past_offset
