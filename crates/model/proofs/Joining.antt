-- CR 10's "stays the version that was read" by examples: the rule, and the test without a merge.
-- Assumes nothing.
use mathlib.Core.Path.{◌≡◌, refl}
use mathlib.Core.Bool.{Bool, true, false}
use mathlib.Core.List.{List, [], ◌∷◌}
use Prim.Native.Nat.{ℕ}
use Rattle.words.specs.Tests.{any_below, all_below}
use Rattle.masks.specs.Mask.{test_bit, with_bit, with_if, mask_below}
use Rattle.clock.specs.Clock.{exceeds, standing, dominates, join}
use Rattle.sizes.specs.Bounds.{counts_of}
use Rattle.model.specs.Version.{Version, unheld, held, leads_on, merged_leaders, larger, merge}
use Rattle.model.specs.Store.{Branch}
use Rattle.model.specs.Stays.{same_version, stays, stays_other, moved_keys, moved_set, keeps, stays_by_of, stays_other_by}
use Rattle.model.proofs.Readings.{led, place}
use Rattle.model.proofs.Moved.{moved_by_lem}

-- A line that has read the keys of a mask, with these versions on its card.
abbrev branch : ℕ → List Version → Branch
branch m versions = record { read = m; snapshot = place versions }

-- Two versions of key 0, of one writer and two keys: the first save, and the second.
abbrev old : Version
old = led 1 1 ((1 ∷ []) ∷ (0 ∷ []) ∷ [])

abbrev new : Version
new = led 1 2 ((2 ∷ []) ∷ (0 ∷ []) ∷ [])

-- Key 1 as it stands with the second.
abbrev beside : Version
beside = led 1 2 ((2 ∷ []) ∷ (1 ∷ []) ∷ [])

-- What the rule says of key k, and the test: of the one version, and of the other.
abbrev told : ℕ → ℕ → ℕ → Version → Version → List Bool
told W K k a b =
    stays W K k a b ∷ stays_by_of W K k a b ∷ stays_other W K k a b ∷ stays_other_by W K k a b ∷ []

-- What moves on a desk of K keys and W writers: by the rule, and by the test.
abbrev moves : ℕ → ℕ → Branch → Branch → List ℕ
moves K W x y =
    moved_set (counts_of K W 2 1) x y ∷ mask_below K (moved_by_lem (counts_of K W 2 1) x y) ∷ []

abbrev all : Bool → List Bool
all b = b ∷ b ∷ b ∷ b ∷ []

pub record Joining : Type 0 where
  -- Not held on one side: the merge is the other.
  pub alone : told 1 2 0 old unheld ≡ true ∷ true ∷ false ∷ false ∷ []
  pub without : told 1 2 0 unheld old ≡ false ∷ false ∷ true ∷ true ∷ []
  pub neither : told 1 2 0 unheld unheld ≡ all true
  pub itself : told 1 2 0 old old ≡ all true
  pub newer : told 1 2 0 old new ≡ false ∷ false ∷ true ∷ true ∷ []
  -- By the number alone.
  pub numbered : told 1 2 0 old (led 1 2 ((1 ∷ []) ∷ (0 ∷ []) ∷ []))
      ≡ false ∷ false ∷ true ∷ true ∷ []
  -- By a row that isn't the own one.
  pub other_row : told 1 2 0 new (led 1 2 ((2 ∷ []) ∷ (1 ∷ []) ∷ []))
      ≡ false ∷ false ∷ true ∷ true ∷ []
  -- By the leaders alone: 3, of 1 and 2 with equal rows (example 7).
  pub leaders : told 2 1 0 (led 1 2 ((1 ∷ 1 ∷ []) ∷ [])) (led 2 2 ((1 ∷ 1 ∷ []) ∷ []))
      ≡ all false
  pub lent : moves 1 2 (branch 1 (led 1 2 ((1 ∷ 1 ∷ []) ∷ []) ∷ []))
      (branch 1 (led 2 2 ((1 ∷ 1 ∷ []) ∷ []) ∷ [])) ≡ 1 ∷ 1 ∷ []
  -- One sheet in two versions (example 2), on either line.
  pub read-old : moves 2 1 (branch 1 (old ∷ [])) (branch 1 (new ∷ [])) ≡ 1 ∷ 1 ∷ []
  pub old-read : moves 2 1 (branch 1 (new ∷ [])) (branch 1 (old ∷ [])) ≡ 1 ∷ 1 ∷ []
  -- Read on line 0, and carried by line 1 in a newer version (example 3).
  pub carried-newer : moves 2 1 (branch 1 (old ∷ [])) (branch 2 (new ∷ beside ∷ [])) ≡ 1 ∷ 1 ∷ []
  -- Read on line 1 alone, and older there.
  pub second : moves 2 1 (branch 2 (new ∷ beside ∷ [])) (branch 1 (old ∷ [])) ≡ 1 ∷ 1 ∷ []
  -- Carried on both, read on neither: it may move.
  pub carried : moves 2 1 (branch 0 (old ∷ [])) (branch 2 (new ∷ beside ∷ [])) ≡ 0 ∷ 0 ∷ []
  -- Each line has read a sheet that the other lacks (example 1).
  pub apart : moves 2 1 (branch 1 (new ∷ [])) (branch 2 (unheld ∷ beside ∷ [])) ≡ 0 ∷ 0 ∷ []

pub joining : Joining
unfolding any_below all_below test_bit with_bit with_if mask_below exceeds standing dominates join
    held
    leads_on merged_leaders larger merge same_version stays stays_other moved_keys moved_set keeps
    stays_by_of stays_other_by moved_by_lem
joining = record {
  alone = refl;
  without = refl;
  neither = refl;
  itself = refl;
  newer = refl;
  numbered = refl;
  other_row = refl;
  leaders = refl;
  lent = refl;
  read-old = refl;
  old-read = refl;
  carried-newer = refl;
  second = refl;
  carried = refl;
  apart = refl;
}
