-- Whether a merge leaves a version as it was read (CR 10, joining).
-- same_version: equal in all their words. stays, stays_other: the merge of two versions is the
-- one,
-- or the other. moved_keys, moved_set: the keys read on a line whose version the merge changes.
-- leaders_merged, keeps, stays_by_of, stays_other_by: the same, told from both versions without
-- their
-- merge, for what is held or in form (`proofs/Stays`: stays-test, stays-formed, stays-other).
-- Assumes nothing.
use Rattle.std.specs.Prelude.{Bool, not, ◌&&◌, ◌||◌, ℕ, eqb, leb}
use Rattle.words.specs.Tests.{Items, all_below}
use Rattle.masks.specs.Mask.{test_bit, mask_below}
use Rattle.clock.specs.Clock.{standing, differing, dominates}
use Rattle.sizes.specs.declared.Counts.{Counts}
use Rattle.model.specs.Version.{Version, held, merged_leaders, merge}
use Rattle.model.specs.Store.{Branch}

-- ---- the rule

-- Equal in all their words, of W writers and K keys: the number, the mask of leading writers, and
-- each row of the past.
unfoldable pub same_version : ℕ → ℕ → Version → Version → Bool
same_version W K a b =
    eqb a.issue b.issue && (eqb a.leaders b.leaders
    && all_below K (λ d. not (differing (standing W (a.past d) (b.past d)))))

-- Merged with b, version a of key k "stays the version that was read".
unfoldable pub stays : ℕ → ℕ → ℕ → Version → Version → Bool
stays W K k a b = same_version W K (merge W k a b) a

-- Merged into a, version b does.
unfoldable pub stays_other : ℕ → ℕ → ℕ → Version → Version → Bool
stays_other W K k a b = same_version W K (merge W k a b) b

-- Not "every sheet read on either line stays the version that was read": this one doesn't.
unfoldable pub moved_keys : Counts → Branch → Branch → Items
moved_keys z x y k =
    let a = x.snapshot k in
    let b = y.snapshot k in
    (test_bit x.read k && not (stays z.writers z.keys k a b))
    || (test_bit y.read k && not (stays_other z.writers z.keys k a b))

-- "the mask of the sheets that moved"
unfoldable pub moved_set : Counts → Branch → Branch → ℕ
moved_set z x y = mask_below z.keys (moved_keys z x y)

-- ---- without a merge

-- The writers that lead the merge of two held versions of key k.
abbrev pub leaders_merged : ℕ → ℕ → Version → Version → ℕ
leaders_merged W k a b = merged_leaders W a.leaders (a.past k) b.leaders (b.past k)

-- A merge led by m adds nothing of b to a: no larger number, a's own leaders, no larger count.
unfoldable pub keeps : ℕ → ℕ → ℕ → Version → Version → Bool
keeps W K m a b =
    leb b.issue a.issue && (eqb m a.leaders
    && all_below K (λ d. dominates W (a.past d) (b.past d)))

-- Version a stays: b isn't held, or adds nothing.
unfoldable pub stays_by_of : ℕ → ℕ → ℕ → Version → Version → Bool
stays_by_of W K k a b = not (held b) || keeps W K (leaders_merged W k a b) a b

-- Version b stays: a isn't held, or adds nothing. The leaders are the same.
unfoldable pub stays_other_by : ℕ → ℕ → ℕ → Version → Version → Bool
stays_other_by W K k a b = not (held a) || keeps W K (leaders_merged W k a b) b a
