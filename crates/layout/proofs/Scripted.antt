-- The readings about new, and the scripts of crate model through the rules on words.
-- Assumes nothing.
use mathlib.Core.Path.{◌≡◌, refl}
use mathlib.Core.List.{List, ◌∷◌, map}
use Prim.Native.Nat.{ℕ, ◌≤◌}
use lib.ListN.{length, drop, replicate}
use Rattle.words.specs.Tests.{any_below, all_below, only}
use Rattle.words.specs.Numbers.{when, count_below, fold_below}
use Rattle.words.specs.Lists.{put_at, upto, blocks}
use Rattle.words.proofs.Bools.{le-leb}
use Rattle.masks.specs.Mask.{test_bit, with_bit, with_if, mask_below}
use Rattle.reach.specs.Closure.{closure, rounds, round}
use Rattle.clock.specs.Clock.{exceeds, standing, dominates, present, join}
use Rattle.sizes.specs.Bounds.{counts_of, max_total, between, ranged, past_size, version_size, place_size, site_size, writer_size, run_size, master_at, sites_at, writers_at, runs_at, tail_size, tail_at, total_of}
use Rattle.model.specs.Algebra.{lacking}
use Rattle.model.specs.Version.{held, dependency, supersedes, leads_on, merged_leaders, larger, merge}
use Rattle.model.specs.Sets.{draws, draw_set, fetch_set, fetched, unfetchable, evict_set, evicted, pull_set, pulled}
use Rattle.model.specs.Tail.{barred}
use Rattle.model.specs.Store.{fresh, site_with, with_marks, planned, done_reads, with_master, with_last, with_sites, with_cache, with_caches, with_writer, with_run, with_state, with_snapshot, with_job_done}
use Rattle.model.specs.Form.{zero_rows, zero_version, leaders_formed, version_formed, place_formed, valid_job, zero_job, zero_branch, free_formed, jobs_formed, masks_formed, mark_formed, snapshot_formed, branches_formed, run_formed, site_formed, rights_formed, tail_formed, well_formed}
use Rattle.model.specs.Allowance.{held_count, over}
use Rattle.model.specs.Marks.{is_stale, stale_mask}
use Rattle.model.specs.Outcome.{answer, refuse, unless, replied, allowed, run_cause}
use Rattle.model.specs.Caches.{fetch_cause, fetch_done, fetch_rule, evict_cause, evict_done, evict_rule}
use Rattle.model.specs.Runs.{listed_job, listed_count, listed_jobs, list_valid, open_cause, opened_run, open_done, open_rule, drop_cause, drop_done, drop_rule}
use Rattle.model.specs.Prepare.{job_start, fetch_reads, prepared_caches, unentitled, unpreparable, uses_site, sites_merged, site_caches, any_over, prepare_cause, prepare_caches, prepare_snapshot, prepare_done, prepare_rule}
use Rattle.model.specs.Step.{read_start, step_site, step_reads, step_start, step_fetch, step_cache, step_plan, step_pull, step_snapshot, step_moved, step_barred, job_limit, off_branch, not_ready, job_cause, step_cause, step_broken, step_done, step_rule_of}
use Rattle.model.specs.Issue.{raise_cause, issue_cause, taken_in, rows_set, new_past, new_version, issued_master, issued_writer, saved_store, issued_store, issued_number, issue_done, issue_rule}
use Rattle.model.specs.Calls.Look.{look_place, look_limit, look_cause, row_numbers, look_standing, look_numbers, look_reply}
use Rattle.model.specs.Calls.{reply_of, rule_of}
use Rattle.model.proofs.Scripts.{ok₁, not_taken, case_a_script, case_a_answers, longer_script, longer-answers}
use Rattle.layout.specs.Words.{clock_words, past_words, version_words, place_words, site_words, sites_words, writer_words, writers_words, job_words, jobs_words, run_words, runs_words, masks_words, tail_words, header_words, store_words}
use Rattle.layout.specs.Reading.{read_clock, read_past_of, read_version, read_place, read_site, read_writer, read_job, read_jobs, read_run, read_masks, read_tail_of, counts_in, store_of}
use Rattle.layout.specs.Buffer.{written, header_right, shaped, in_form}
use Rattle.layout.specs.Calls.{Call, new, on, new_cause, new_on, on_store, call_on, leaves, outcomes, after}

-- ---- "K=0, K=33, W=17, N=9 and P=9 give 2", on any buffer

pub record Refused (l : List ℕ) : Type 0 where
  pub no_keys : answer (call_on (new 0 1 1 1) l) ≡ not_taken 2
  pub many-keys : answer (call_on (new 33 1 1 1) l) ≡ not_taken 2
  pub many-writers : answer (call_on (new 1 17 1 1) l) ≡ not_taken 2
  pub many-sites : answer (call_on (new 1 1 9 1) l) ≡ not_taken 2
  pub many-runs : answer (call_on (new 1 1 1 9) l) ≡ not_taken 2

pub out_of_range : (l : List ℕ) → Refused l
unfolding call_on new_on new_cause ranged between refuse unless answer
out_of_range l = record {
  no_keys = refl;
  many-keys = refl;
  many-writers = refl;
  many-sites = refl;
  many-runs = refl;
}

-- ---- "K=1, K=32, W=16, N=8 and P=8 are taken if the buffer has the total"

pub record Taken : Type 0 where
  pub smallest : (l : List ℕ) → let n = total_of (counts_of 1 1 1 1) in n ≤ length l
      → answer (call_on (new 1 1 1 1) l) ≡ ok₁ n
  pub largest : (l : List ℕ) → max_total ≤ length l
      → answer (call_on (new 32 16 8 8) l) ≡ ok₁ max_total

pub in_range_lem : Taken
unfolding call_on new_on new_cause ranged between refuse unless answer past_size version_size
    place_size
    site_size writer_size run_size master_at sites_at writers_at runs_at tail_size tail_at total_of
in_range_lem = record {
  smallest = λ l h. rw (le-leb (total_of (counts_of 1 1 1 1)) (length l) h);
  largest = λ l h. rw (le-leb max_total (length l) h);
}

-- ---- the scripts, on a buffer of any words and some words more than the total

abbrev pub words_a : List ℕ
words_a = replicate 120 5

abbrev pub calls_a_lem : List Call
calls_a_lem = new 2 2 2 1 ∷ map on case_a_script

abbrev pub words-longer : List ℕ
words-longer = replicate 270 5

abbrev pub calls-longer : List Call
calls-longer = new 3 2 2 2 ∷ map on longer_script

pub record Scripted : Type 0 where
  pub case_a : map answer (outcomes calls_a_lem words_a)
      ≡ ok₁ (total_of (counts_of 2 2 2 1)) ∷ case_a_answers
  pub case_a_past : let n = total_of (counts_of 2 2 2 1) in
      drop n (after calls_a_lem words_a) ≡ drop n words_a
  pub longer : map answer (outcomes calls-longer words-longer)
      ≡ ok₁ (total_of (counts_of 3 2 2 2)) ∷ longer-answers

pub scripted : Scripted
unfolding any_below all_below only fold_below put_at upto blocks test_bit with_bit with_if
    mask_below
    closure rounds round exceeds standing dominates present join between ranged past_size
    version_size place_size site_size writer_size run_size master_at sites_at writers_at runs_at
    tail_size
    tail_at total_of lacking held dependency supersedes leads_on merged_leaders larger
    merge draws draw_set fetch_set
    fetched unfetchable evict_set evicted pull_set pulled fresh planned done_reads with_master
    with_last with_sites with_cache with_caches with_writer with_run with_state with_snapshot
    with_job_done zero_rows zero_version leaders_formed version_formed place_formed valid_job
    zero_job
    free_formed jobs_formed rights_formed tail_formed masks_words read_masks
    zero_branch masks_formed mark_formed snapshot_formed branches_formed run_formed site_formed
    well_formed when count_below held_count over is_stale stale_mask site_with
    with_marks answer refuse unless allowed run_cause
    barred unentitled step_barred fetch_cause fetch_done fetch_rule evict_cause evict_done
    evict_rule
    listed_job listed_count
    listed_jobs list_valid open_cause opened_run open_done open_rule drop_cause drop_done drop_rule
    job_start fetch_reads prepared_caches unpreparable uses_site sites_merged site_caches any_over
    prepare_cause
    prepare_caches prepare_snapshot prepare_done prepare_rule read_start step_site step_reads
    step_start
    step_fetch step_cache step_plan step_pull step_snapshot step_moved job_limit off_branch
    not_ready
    job_cause step_cause step_broken step_done step_rule_of raise_cause issue_cause taken_in
    rows_set new_past
    new_version issued_master issued_writer saved_store issued_store issued_number issue_done
    issue_rule
    look_place look_limit look_cause row_numbers look_standing look_numbers look_reply replied
    reply_of
    rule_of clock_words past_words version_words place_words site_words sites_words writer_words
    writers_words job_words jobs_words run_words runs_words tail_words header_words store_words
    read_clock read_past_of read_version read_place read_site read_writer read_job read_jobs
    read_run
    read_tail_of counts_in store_of written header_right shaped in_form new_cause new_on on_store
    call_on
    leaves outcomes after
scripted = record { case_a = refl; case_a_past = refl; longer = refl }
