-- Admission by the words of a buffer: one buffer, and one change each.
-- desk: a buffer that is admitted; forked: one that is not, for its line 1. put: with one word
-- changed. Admitted: what each answers.
-- Assumes nothing.
use mathlib.Core.Path.{◌≡◌, refl}
use mathlib.Core.List.{List, [], ◌∷◌, ◌++◌, map}
use Prim.Native.Nat.{ℕ}
use lib.ListN.{replicate}
use lib.Seq.{sets}
use Rattle.words.specs.Tests.{any_below, all_below}
use Rattle.words.specs.Numbers.{when, count_below}
use Rattle.words.specs.Lists.{upto}
use Rattle.masks.specs.Mask.{test_bit, with_bit, with_if, mask_below}
use Rattle.clock.specs.Clock.{exceeds, standing, dominates, present}
use Rattle.sizes.specs.Bounds.{between, ranged, past_size, version_size, place_size, site_size, writer_size, run_size, master_at, sites_at, writers_at, runs_at, tail_size, tail_at, total_of}
use Rattle.model.specs.Algebra.{needs_met, causal_cut, overlapping_cut}
use Rattle.model.specs.Version.{held, dependency, supersedes}
use Rattle.model.specs.Tail.{barred}
use Rattle.model.specs.Store.{planned, done_reads}
use Rattle.model.specs.Allowance.{held_count, over}
use Rattle.model.specs.Marks.{is_stale, stale_mask}
use Rattle.model.specs.Form.{zero_rows, zero_version, leaders_formed, version_formed, place_formed, valid_job, zero_job, jobs_formed, masks_formed, zero_branch, mark_formed, branches_formed, snapshot_formed, run_formed, site_formed, rights_formed, tail_formed, well_formed}
use Rattle.model.specs.Allowance.{held_count, over}
use Rattle.model.specs.Outcome.{answer, refuse, unless, replied}
use Rattle.model.specs.Calls.Admit.{each_branch, every_place, every_version, every_past, causal_cuts, overlapping_cuts, master_covers, counts_within, number_within, admissible, admit_cause, admit_reply}
use Rattle.model.specs.Calls.{admit, ask, reply_of, rule_of}
use Rattle.model.proofs.Scripts.{ok₁, not_taken}
use Rattle.layout.specs.Reading.{read_clock, read_past_of, read_version, read_place, read_site, read_writer, read_job, read_jobs, read_run, read_masks, read_tail_of, counts_in, store_of}
use Rattle.layout.specs.Buffer.{header_right, shaped, in_form}
use Rattle.layout.specs.Calls.{on, on_store, call_on}

-- Two sheets, one writer, one office, one run. Sheet 1 needs sheet 0; the card has 1 alone.
abbrev desk : List ℕ
desk =
    2 ∷ 1 ∷ 1 ∷ 1 ∷ 2 ∷ 10 ∷ 18 ∷ 28 ∷ 31 ∷ 80
    ∷ 1 ∷ 1 ∷ 1 ∷ 0 ∷ 2 ∷ 1 ∷ 1 ∷ 2
    ∷ 1 ∷ 1 ∷ 1 ∷ 0 ∷ 2 ∷ 1 ∷ 1 ∷ 2 ∷ 0 ∷ 2
    ∷ 2 ∷ 1 ∷ 2
    ∷ 1 ∷ 1 ∷ 0 ∷ 0 ∷ 0 ∷ 2 ∷ 0
    ∷ (replicate 21 0 ++ 0 ∷ 0 ∷ 0 ∷ 0 ∷ 2 ∷ 1 ∷ 1 ∷ 2
    ∷ (replicate 10 0 ++ 0 ∷ 3 ∷ 3 ∷ []))

-- A forked run that reads both: on line 1 its card has 1 alone, on line 0 nothing.
abbrev forked : List ℕ
forked =
    2 ∷ 1 ∷ 1 ∷ 1 ∷ 2 ∷ 10 ∷ 18 ∷ 28 ∷ 31 ∷ 80
    ∷ 1 ∷ 1 ∷ 1 ∷ 0 ∷ 2 ∷ 1 ∷ 1 ∷ 2
    ∷ 0 ∷ 0 ∷ 0 ∷ 0 ∷ 0 ∷ 0 ∷ 0 ∷ 0 ∷ 0 ∷ 2
    ∷ 2 ∷ 1 ∷ 2
    ∷ 1 ∷ 1 ∷ 0 ∷ 0 ∷ 0 ∷ 3 ∷ 0
    ∷ (replicate 29 0 ++ 1 ∷ 0 ∷ 0 ∷ 0 ∷ 0 ∷ 0 ∷ 2 ∷ 1 ∷ 1 ∷ 2 ∷ 0 ∷ 3 ∷ 3 ∷ [])

abbrev put : ℕ → ℕ → List ℕ
put i x = sets desk i (x ∷ [])

abbrev asked : List ℕ → List ℕ
asked l = answer (call_on (on (ask admit)) l)

pub record Admitted : Type 0 where
  -- As it is; the last number larger; no row in the writer's past; a shelf's number larger; the
  -- master's row larger, with the mark that follows.
  pub taken : map asked
      (desk ∷ put 4 3 ∷ put 29 0 ∷ put 18 2 ∷ sets (put 12 2) 26 (1 ∷ []) ∷ [])
      ≡ replicate 5 (ok₁ 0)
  -- The last number; the writer's count; its past; the shelf without sheet 0; the plan with it, in
  -- an open and in a broken run; number and row on the card; the master's row.
  pub refused : map asked
      (put 4 1 ∷ put 28 1 ∷ put 29 2 ∷ sets desk 18 (0 ∷ 0 ∷ 0 ∷ []) ∷ put 36 3
      ∷ sets (put 36 3) 31 (2 ∷ []) ∷ put 63 3 ∷ put 65 2 ∷ sets (put 12 3) 26 (1 ∷ []) ∷ [])
      ≡ replicate 9 (not_taken 11)
  -- "admission treat[s] each line as a card": as it is; with sheet 0 on line 1 too; with 0 not in
  -- the plan.
  pub lines : map asked (forked ∷ sets forked 69 (1 ∷ 1 ∷ 1 ∷ []) ∷ sets forked 36 (2 ∷ []) ∷ [])
      ≡ not_taken 11 ∷ ok₁ 0 ∷ ok₁ 0 ∷ []
  -- "after 1": a mark that isn't true.
  pub not_in_form : asked (put 26 1) ≡ not_taken 1

pub admitted : Admitted
unfolding any_below all_below when count_below upto test_bit with_bit with_if mask_below exceeds
    standing
    dominates present between ranged past_size version_size place_size site_size writer_size
    run_size
    master_at sites_at writers_at runs_at tail_size tail_at total_of needs_met causal_cut
    overlapping_cut
    held dependency supersedes planned done_reads is_stale stale_mask zero_rows zero_version
    leaders_formed version_formed place_formed valid_job zero_job jobs_formed masks_formed
    zero_branch mark_formed branches_formed snapshot_formed run_formed held_count over site_formed
    well_formed answer refuse unless replied each_branch every_place every_version every_past
    causal_cuts overlapping_cuts master_covers counts_within
    number_within admissible admit_cause admit_reply reply_of rule_of read_clock read_past_of
    read_version
    read_place read_site read_writer read_job read_jobs read_run read_tail_of counts_in store_of
    header_right shaped in_form on_store call_on read_masks rights_formed tail_formed barred
admitted = record { taken = refl; refused = refl; lines = refl; not_in_form = refl }
