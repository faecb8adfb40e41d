-- Form of buffers by examples: of each clause of "the buffer has 10 words and the total; counts,
-- offsets and total are as above" a buffer that lacks it, beside the one that has it.
-- right: a fresh store's words. put, raised, lowered: with one word changed. short: one less.
-- Asked: what the calls answer on them. Buffers, buffers: what the test says of each.
-- Assumes nothing.
use mathlib.Core.Path.{◌≡◌, refl}
use mathlib.Core.Bool.{Bool, true, false}
use mathlib.Core.List.{List, [], ◌∷◌, ◌++◌, map}
use Prim.Native.Nat.{ℕ, ◌+◌, ◌-◌}
use lib.ListN.{length, get_or, take, drop, replicate}
use lib.Seq.{sets}
use Rattle.words.specs.Tests.{any_below, all_below}
use Rattle.words.specs.Numbers.{when, count_below}
use Rattle.words.specs.Lists.{put_at, upto, blocks}
use Rattle.clock.specs.Clock.{exceeds, standing, present}
use Rattle.sizes.specs.Bounds.{counts_of, between, ranged, past_size, version_size, place_size, site_size, writer_size, run_size, master_at, sites_at, writers_at, runs_at, tail_size, tail_at, total_of, site_at, stale_at, allowance_at, round_at_of, may_hold_at, may_save_at}
use Rattle.model.specs.Version.{held}
use Rattle.model.specs.Tail.{barred}
use Rattle.model.specs.Store.{fresh, site_marked, with_sites, with_site}
use Rattle.model.specs.Form.{zero_rows, zero_version, leaders_formed, version_formed, place_formed, zero_job, zero_branch, free_formed, run_formed, site_formed, rights_formed, tail_formed, well_formed}
use Rattle.model.specs.Allowance.{held_count, over}
use Rattle.model.specs.Marks.{is_stale, stale_mask}
use Rattle.masks.specs.Mask.{test_bit, with_if, mask_below}
use Rattle.model.specs.Outcome.{answer, refuse, unless, allowed, run_cause}
use Rattle.model.specs.Runs.{drop_cause, drop_done, drop_rule}
use Rattle.model.specs.Calls.{drop_run, rule_of}
use Rattle.model.proofs.Scripts.{ok₁, not_taken}
use Rattle.layout.specs.Words.{clock_words, past_words, version_words, place_words, site_words, sites_words, writer_words, writers_words, job_words, jobs_words, run_words, runs_words, masks_words, tail_words, header_words, store_words}
use Rattle.layout.specs.Reading.{read_clock, read_past_of, read_version, read_place, read_site, read_writer, read_job, read_jobs, read_run, read_masks, read_tail_of, counts_in, store_of}
use Rattle.layout.specs.Buffer.{header_right, shaped, in_form}
use Rattle.layout.specs.Calls.{new, on, new_cause, new_on, on_store, call_on}

-- After `new 1 1 1 1`.
abbrev right : List ℕ
right = store_words (fresh (counts_of 1 1 1 1))

abbrev put : ℕ → ℕ → List ℕ
put i x = sets right i (x ∷ [])

-- The words of a store with marks 2 and 1.
abbrev marks : List ℕ
marks =
    let s = fresh (counts_of 2 2 2 1) in
    store_words (with_site (with_site s 0 (site_marked (s.site 0) 2)) 1 (site_marked (s.site 1) 1))

-- One more, one less in a word.
abbrev raised : ℕ → List ℕ
raised i = put i (get_or right i 0 + 1)

abbrev lowered : ℕ → List ℕ
lowered i = put i (get_or right i 0 - 1)

-- A word less.
abbrev short : List ℕ
short = take (length right - 1) right

-- In the header: the four offsets, then the total.
abbrev offsets : List Bool
offsets =
    map in_form (map raised (5 ∷ 6 ∷ 7 ∷ 8 ∷ []) ++ map lowered (5 ∷ 6 ∷ 7 ∷ 8 ∷ []))

abbrev totals : List Bool
totals = map in_form (raised 9 ∷ lowered 9 ∷ [])

-- Another count, its offsets as before; counts of 0 with the offsets that follow from them.
abbrev counts : List Bool
counts =
    map in_form (put 0 2 ∷ put 1 2 ∷ put 2 2 ∷ put 3 2 ∷ put 0 0
    ∷ (replicate 5 0 ++ replicate 5 10) ∷ [])

-- "Buffer too short, or (not for new) desk not in form" is 1, before all else; "New tests 2 before
-- 1", and takes a buffer that isn't in form.
pub record Asked : Type 0 where
  pub range : answer (call_on (on (drop_run 1)) right) ≡ not_taken 3
  pub on-short : answer (call_on (on (drop_run 1)) short) ≡ not_taken 1
  pub on-offset : answer (call_on (on (drop_run 1)) (raised 7)) ≡ not_taken 1
  pub on_total : answer (call_on (on (drop_run 1)) (raised 9)) ≡ not_taken 1
  pub new-short : answer (call_on (new 1 1 1 1) short) ≡ not_taken 1
  pub new-range : answer (call_on (new 0 1 1 1) short) ≡ not_taken 2
  pub new-taken : answer (call_on (new 1 1 1 1) (raised 9)) ≡ ok₁ (length right)

pub record Buffers : Type 0 where
  pub whole : in_form right ≡ true
  pub longer : in_form (right ++ 5 ∷ 5 ∷ []) ≡ true
  pub one-short : in_form short ≡ false
  pub header-only : in_form (take 10 right) ≡ false
  pub nothing : in_form [] ≡ false
  pub wrong_offset : offsets ≡ replicate 8 false
  pub wrong_total : totals ≡ replicate 2 false
  pub wrong_count : counts ≡ replicate 6 false
  -- The last issue number and the writers are free; a master's version isn't.
  pub free-words : let w = writers_at (counts_of 1 1 1 1) in
      map in_form (raised 4 ∷ raised w ∷ raised (w + 1) ∷ []) ≡ replicate 3 true
  pub unheld-row : map in_form (raised 10 ∷ raised 11 ∷ raised 12 ∷ []) ≡ replicate 3 false
  pub held-row : in_form (sets right 10 (1 ∷ 1 ∷ 1 ∷ [])) ≡ true
  -- Each mark stands behind its shelf.
  pub mark-words : let z = counts_of 2 2 2 1 in
      map (λ o. get_or marks (stale_at z (site_at z o)) 0) (0 ∷ 1 ∷ []) ≡ 2 ∷ 1 ∷ []
  -- The mark of the shelf is asked: nothing is held there.
  pub no-mark : let z = counts_of 1 1 1 1 in in_form (raised (stale_at z (site_at z 0))) ≡ false
  -- On a new desk the allowance is K: above it, or below what is held, isn't in form.
  pub allowances : let z = counts_of 2 2 2 1 in
      map (λ o. get_or marks (allowance_at z (site_at z o)) 0) (0 ∷ 1 ∷ []) ≡ 2 ∷ 2 ∷ []
  pub allowed : let at = allowance_at (counts_of 1 1 1 1) (site_at (counts_of 1 1 1 1) 0) in
      map in_form (put at 0 ∷ put at 1 ∷ put at 2 ∷ []) ≡ true ∷ true ∷ false ∷ []
  -- The round, P - 1 on a new desk and below P; then the masks of an office and two writers, all
  -- sheets on a new desk, and no bit at K.
  pub tail-words : let z = counts_of 2 2 1 3 in
      drop (round_at_of z) (store_words (fresh z)) ≡ 2 ∷ 3 ∷ 3 ∷ 3 ∷ []
  pub round-high : in_form (raised (round_at_of (counts_of 1 1 1 1))) ≡ false
  pub no-right : let z = counts_of 1 1 1 1 in
      map in_form (put (may_hold_at z 0) 0 ∷ put (may_save_at z 0) 0 ∷ []) ≡ replicate 2 true
  pub right-high : let z = counts_of 1 1 1 1 in
      map in_form (put (may_hold_at z 0) 2 ∷ put (may_save_at z 0) 2 ∷ []) ≡ replicate 2 false
  pub held-mask : map in_form (sets right 10 (1 ∷ 0 ∷ 1 ∷ []) ∷ sets right 10 (1 ∷ 2 ∷ 1 ∷ []) ∷
      [])
      ≡ replicate 2 false
  pub calls : Asked

pub buffers : Buffers
unfolding put_at with_sites any_below all_below upto blocks present between ranged past_size
    version_size place_size site_at
    site_size writer_size run_size master_at sites_at writers_at runs_at tail_size tail_at
    total_of held
    fresh zero_rows zero_version leaders_formed version_formed place_formed zero_job zero_branch
    free_formed run_formed site_formed rights_formed tail_formed
    barred test_bit well_formed when count_below held_count over
    is_stale stale_mask mask_below with_if exceeds standing masks_words read_masks clock_words
    past_words version_words place_words site_words sites_words writer_words writers_words
    job_words
    jobs_words run_words runs_words tail_words header_words store_words read_clock read_past_of
    read_version
    read_place read_site read_writer read_job read_jobs read_run read_tail_of counts_in store_of
    header_right
    shaped in_form answer refuse unless allowed run_cause drop_cause drop_done drop_rule rule_of
    new_cause new_on on_store call_on
buffers = record {
  whole = refl;
  longer = refl;
  one-short = refl;
  header-only = refl;
  nothing = refl;
  wrong_offset = refl;
  wrong_total = refl;
  wrong_count = refl;
  free-words = refl;
  unheld-row = refl;
  held-row = refl;
  mark-words = refl;
  no-mark = refl;
  allowances = refl;
  allowed = refl;
  tail-words = refl;
  round-high = refl;
  no-right = refl;
  right-high = refl;
  held-mask = refl;
  calls = record {
    range = refl;
    on-short = refl;
    on-offset = refl;
    on_total = refl;
    new-short = refl;
    new-range = refl;
    new-taken = refl;
  };
}
