-- Form of a run with two lines (CR 10) by examples: for each clause stores that lack just it, each
-- beside a well formed one that differs in nothing else.
-- That a second read mask is zero follows from the card's being zero: no example lacks just that.
-- Lines, lines: each clause tells.
-- Assumes nothing.
use mathlib.Core.Path.{◌≡◌, refl}
use mathlib.Core.Bool.{Bool, true, not}
use mathlib.Core.List.{List, [], ◌∷◌, ◌++◌, map}
use Prim.Native.Nat.{ℕ}
use lib.ListN.{replicate}
use Rattle.words.specs.Tests.{any_below, all_below}
use Rattle.words.specs.Numbers.{when, count_below}
use Rattle.words.specs.Lists.{put_at}
use Rattle.masks.specs.Mask.{test_bit, with_bit, with_if, mask_below}
use Rattle.clock.specs.Clock.{exceeds, standing, present}
use Rattle.sizes.specs.Bounds.{between}
use Rattle.model.specs.Version.{held}
use Rattle.model.specs.Tail.{barred}
use Rattle.model.specs.Store.{empty_place, fresh, planned, done_reads, site_with, with_master, with_sites, with_cache, with_run, with_tail_of, with_state}
use Rattle.model.specs.Allowance.{held_count, over}
use Rattle.model.specs.Form.{zero_rows, zero_version, leaders_formed, version_formed, place_formed, valid_job, zero_job, zero_branch, free_formed, jobs_formed, masks_formed, mark_formed, snapshot_formed, branches_formed, run_formed, site_formed, rights_formed, tail_formed, well_formed}
use Rattle.model.specs.Marks.{is_stale, stale_mask}
use Rattle.model.proofs.Clauses.{formed, tells, job, run, lined, jobbed, two, card_0, card_1, card-both}

-- ---- CR 10: "a mark (0 never forked, 1 forked, 2 joined), a second read mask and a second card,
-- ---- these two zero unless the mark is 1"

abbrev marks : List Bool
marks =
    let a = run 1 2 1 1 two card_0 in
    map formed (lined a 0 0 empty_place ∷ lined a 1 0 empty_place ∷ lined a 2 0 empty_place
    ∷ lined (with_state a 2) 1 1 card_0 ∷ lined (with_state a 2) 2 0 empty_place ∷ [])
    ++ (tells a (lined a 3 0 empty_place)
    ∷ map (λ m. tells (lined a 1 1 card_0) (lined a m 1 card_0)) (0 ∷ 2 ∷ 3 ∷ []))
    ++ map (λ m. tells (lined a 1 0 card_1) (lined a m 0 card_1)) (0 ∷ 2 ∷ 3 ∷ [])

-- ---- "Form asks of each line's card what it asked of one, and that the read masks together are
-- ---- the done jobs' reads"

-- The read masks of a run whose jobs of the mask are done, each line with both sheets.
abbrev reading : ℕ → ℕ → ℕ → Bool
reading finished m n = formed (lined (run 1 2 finished m two card-both) 1 n card-both)

-- Together as they should be; too few; too many, on either line.
abbrev reads : List Bool
reads =
    reading 3 1 2 ∷ reading 3 2 1 ∷ reading 3 3 3 ∷ reading 1 0 1 ∷ reading 1 1 0 ∷ reading 0 0 0
    ∷ map not (reading 3 1 1 ∷ reading 3 2 2 ∷ reading 3 0 1 ∷ reading 1 0 0 ∷ reading 1 3 0
    ∷ reading 1 1 2 ∷ reading 1 0 3 ∷ reading 0 0 1 ∷ reading 1 1 4 ∷ [])

abbrev second-carried : List Bool
second-carried =
    let a = jobbed 1 0 (job 0 1 0) in
    tells (lined a 1 0 card_0) (lined a 1 0 card_1)
    ∷ tells (lined a 1 0 card_0) (lined a 1 0 card-both) ∷ []

-- What line 1 has read isn't on its card: it is on line 0's, another is, none is.
abbrev second-card : List Bool
second-card =
    let a = run 1 2 1 0 two card_0 in
    tells (lined a 1 1 card_0) (lined a 1 1 card_1)
    ∷ tells (lined a 1 1 card_0) (lined a 1 1 empty_place)
    ∷ tells (lined (run 1 2 2 0 two empty_place) 1 2 card_1)
    (lined (run 1 2 2 0 two empty_place) 1 2 card_0) ∷ []

pub record Lines : Type 0 where
  pub of-marks : marks ≡ replicate 12 true
  pub of-reads : reads ≡ replicate 15 true
  pub of-carried : second-carried ≡ replicate 2 true
  pub of-card : second-card ≡ replicate 3 true

pub lines : Lines
unfolding any_below all_below put_at test_bit with_bit with_if mask_below present between held
    fresh
    planned done_reads with_master with_sites with_cache with_run with_state with_tail_of zero_rows
    zero_version leaders_formed version_formed place_formed valid_job zero_job zero_branch
    free_formed
    jobs_formed masks_formed mark_formed snapshot_formed branches_formed run_formed site_formed
    rights_formed tail_formed barred well_formed is_stale stale_mask site_with exceeds standing
    when
    count_below held_count over
lines = record {
  of-marks = refl;
  of-reads = refl;
  of-carried = refl;
  of-card = refl;
}
