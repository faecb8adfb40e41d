-- Records of lists of calls, computed (CR 14).
-- case-..: case A. anew-..: a second new. lines-..: a run with two lines. Computed, computed:
-- premises of the claims, and the records. `Uses` puts them through.
-- Assumes nothing.
use mathlib.Core.Path.{◌≡◌, refl}
use mathlib.Core.Bool.{So}
use mathlib.Core.List.{List, [], ◌∷◌, ◌++◌}
use Prim.Native.Nat.{ℕ}
use lib.ListN.{length, replicate}
use Rattle.words.specs.Tests.{any_below, all_below, only}
use Rattle.words.specs.Numbers.{when, count_below, fold_below, largest}
use Rattle.words.specs.Lists.{put_at, upto, blocks}
use Rattle.masks.specs.Mask.{test_bit, with_bit, with_if, mask_below}
use Rattle.reach.specs.Closure.{closure, rounds, round}
use Rattle.clock.specs.Clock.{exceeds, standing, dominates, present, join}
use Rattle.sizes.specs.Bounds.{counts_of, between, ranged, past_size, version_size, place_size, site_size, writer_size, run_size, master_at, sites_at, writers_at, runs_at, tail_size, tail_at, total_of}
use Rattle.model.specs.Algebra.{lacking}
use Rattle.model.specs.Version.{held, dependency, supersedes, leads_on, merged_leaders, larger, merge}
use Rattle.model.specs.Sets.{draws, draw_set, fetch_set, fetched, unfetchable, pull_set, pulled}
use Rattle.model.specs.Tail.{barred}
use Rattle.model.specs.Store.{fresh, site_with, with_marks, planned, done_reads, with_master, with_last, with_sites, with_cache, with_caches, with_writer, with_run, with_state, with_job_done}
use Rattle.model.specs.Form.{zero_rows, zero_version, leaders_formed, version_formed, place_formed, valid_job, zero_job, zero_branch, free_formed, jobs_formed, masks_formed, mark_formed, snapshot_formed, branches_formed, run_formed, site_formed, rights_formed, tail_formed, well_formed}
use Rattle.model.specs.Allowance.{held_count, over}
use Rattle.model.specs.Marks.{is_stale, stale_mask}
use Rattle.model.specs.Outcome.{refuse, unless, allowed, run_cause}
use Rattle.model.specs.Caches.{fetch_cause, fetch_done, fetch_rule}
use Rattle.model.specs.Runs.{listed_job, listed_count, listed_jobs, list_valid, open_cause, opened_run, open_done, open_rule}
use Rattle.model.specs.Step.{read_start, step_site, step_reads, step_start, step_fetch, step_cache, step_plan, step_pull, step_snapshot, step_moved, step_barred, job_limit, off_branch, not_ready, job_cause, step_cause, step_broken, step_done, step_rule_of}
use Rattle.model.specs.Issue.{raise_cause, issue_cause, taken_in, rows_set, new_past, new_version, issued_master, issued_writer, saved_store, issued_store, issued_number, issue_done, issue_rule}
use Rattle.model.specs.Stays.{same_version, stays, stays_other, moved_keys, moved_set}
use Rattle.model.specs.Calls.Fork.{forked_run, fork_cause, fork_done, fork_rule_of, joined_place, joined_branch, joined_run, join_moved, join_cause, join_done, join_broken, join_rule_of}
use Rattle.model.specs.Calls.{open_run, fetch, step, issue, fork, join as join_run, rule_of}
use Rattle.layout.specs.Words.{clock_words, past_words, version_words, place_words, site_words, sites_words, writer_words, writers_words, job_words, jobs_words, run_words, runs_words, masks_words, tail_words, header_words, store_words}
use Rattle.layout.specs.Reading.{read_clock, read_past_of, read_version, read_place, read_site, read_writer, read_job, read_jobs, read_run, read_masks, read_tail_of, counts_in, store_of}
use Rattle.layout.specs.Buffer.{written, header_right, shaped, in_form}
use Rattle.layout.specs.Calls.{Call, new, on, new_cause, new_on, on_store, call_on, leaves, is_new, is_ok_of}
use Rattle.history.specs.History.{writer_of, leads, in_past}
use Rattle.history.specs.Copies.{reaches, held_copy, needs_copy, meets_copy, union, last_in, by_writer}
use Rattle.history.specs.Listing.{held_book, merge_book, needs_book, meets_book, read_copy}
use Rattle.history.specs.Lists.{writer_list, list_of}
use Rattle.history.specs.Book.{fresh_book, with_book_caches, with_book_run, book_open, book_fetch, book_step_job, book_fork, book_join, entry, book_issue, book_issued, book_rule, book_ok, book_step}
use Rattle.consistency.specs.Trace.{Trace, start, advance, follow}
use Rattle.records.specs.Format.{Record}
use Rattle.records.specs.Own.{own_row, had_read, number_of, reads_up_to, row_words, read_words, keys_words, issues_words, reads_words, head_words, record_of_at}
use Rattle.own.specs.Claims.{record_at, goes_on_of}

-- Run 0, which reads nothing, saves the sheets of S as writer 0.
abbrev saving : ℕ → List Call
saving S = on (open_run 0 (0 ∷ 0 ∷ 0 ∷ [])) ∷ on (step 0 0 0) ∷ on (issue 0 0 S) ∷ []

-- ---- case A, up to its second issue

abbrev pub case_words : List ℕ
case_words = replicate 120 5

abbrev pub case_new : Trace
case_new = start (counts_of 2 2 2 1) case_words

abbrev pub case_before : List Call
case_before =
    saving 3 ++ (on (fetch 0 0) ∷ on (open_run 0 (0 ∷ 1 ∷ 0 ∷ [])) ∷ on (step 0 0 0) ∷ [])

abbrev pub case_issue : Call
case_issue = on (issue 0 1 2)

abbrev pub case_record : Record
case_record = 2 ∷ 2 ∷ 2 ∷ 1 ∷ 7 ∷ 15 ∷ 18 ∷ 0 ∷ 3 ∷ 0 ∷ 0 ∷ 1 ∷ 2 ∷ 0 ∷ 1 ∷ 0 ∷ 1 ∷ 0 ∷ []

-- A new is refused, and writer 0 saves sheet 0 once more.
abbrev pub case_later : List Call
case_later = new 0 2 2 1 ∷ saving 1

abbrev pub later_record : Record
later_record =
    2 ∷ 2 ∷ 3 ∷ 1 ∷ 7 ∷ 19 ∷ 22 ∷ 0 ∷ 3 ∷ 0 ∷ 0 ∷ 1 ∷ 2 ∷ 0 ∷ 1 ∷ 0 ∷ 1 ∷ 1 ∷ 0 ∷ 0 ∷ 1 ∷ 0 ∷ []

-- ---- a second new, with more sheets; the second of them is saved

abbrev pub anew-new : Trace
anew-new = start (counts_of 1 1 1 1) case_words

abbrev pub anew-calls : List Call
anew-calls = saving 1 ++ (new 2 1 1 1 ∷ saving 2)

abbrev pub anew_record : Record
anew_record = 2 ∷ 1 ∷ 1 ∷ 0 ∷ 7 ∷ 11 ∷ 11 ∷ 0 ∷ 2 ∷ 0 ∷ 0 ∷ []

-- ---- a run with two lines: while it is forked it can't issue; joined, it has read both sheets

abbrev pub lines-words : List ℕ
lines-words = replicate 100 5

abbrev pub lines_new : Trace
lines_new = start (counts_of 2 1 1 1) lines-words

abbrev pub lines-calls : List Call
lines-calls =
    saving 3 ++ (on (open_run 0 (0 ∷ 1 ∷ 0 ∷ 0 ∷ 2 ∷ 0 ∷ [])) ∷ on (fork 0) ∷ on (step 0 0 0)
    ∷ on (step 0 1 1) ∷ on (issue 0 0 2) ∷ on (join_run 0) ∷ on (issue 0 0 1) ∷ [])

abbrev pub lines_record : Record
lines_record =
    2 ∷ 1 ∷ 2 ∷ 2 ∷ 7 ∷ 15 ∷ 19 ∷ 0 ∷ 3 ∷ 0 ∷ 0 ∷ 0 ∷ 1 ∷ 0 ∷ 2 ∷ 0 ∷ 1 ∷ 1 ∷ 1 ∷ []

-- ---- computed

pub record Computed : Type 0 where
  pub case_begun : So (is_ok_of (new_on case_words (counts_of 2 2 2 1)))
  pub case_accepted : So (is_ok_of (call_on case_issue (follow case_before case_new).buffer))
  pub case_a : record_at (follow (case_before ++ (case_issue ∷ [])) case_new) ≡ case_record
  pub case_second : length (follow case_before case_new).book.history ≡ 1
  pub case_counts : (store_of (follow case_before case_new).buffer).counts ≡ counts_of 2 2 2 1
  pub case_goes : So (goes_on_of case_later (advance case_issue
      (follow case_before case_new)).buffer)
  pub later : record_at (follow case_later (advance case_issue (follow case_before case_new)))
      ≡ later_record
  pub anew-begun : So (is_ok_of (new_on case_words (counts_of 1 1 1 1)))
  pub anew : record_at (follow anew-calls anew-new) ≡ anew_record
  pub lines-begun : So (is_ok_of (new_on lines-words (counts_of 2 1 1 1)))
  pub lines : record_at (follow lines-calls lines_new) ≡ lines_record

pub computed : Computed
unfolding any_below all_below only fold_below put_at upto blocks test_bit with_bit with_if
    mask_below
    closure rounds round exceeds standing dominates present join between ranged past_size
    version_size place_size site_size writer_size run_size master_at sites_at writers_at runs_at
    tail_size
    tail_at total_of lacking held dependency supersedes leads_on merged_leaders larger merge
    draws draw_set fetch_set fetched unfetchable pull_set pulled fresh planned done_reads
    with_master
    with_last with_sites with_cache with_caches with_writer with_run with_state with_job_done
    zero_rows
    zero_version leaders_formed version_formed place_formed valid_job zero_job free_formed
    jobs_formed
    rights_formed tail_formed masks_words read_masks zero_branch masks_formed mark_formed
    snapshot_formed
    branches_formed run_formed site_formed well_formed when count_below largest held_count over
    is_stale
    stale_mask site_with with_marks refuse unless allowed run_cause barred step_barred fetch_cause
    fetch_done fetch_rule listed_job listed_count listed_jobs list_valid open_cause opened_run
    open_done
    open_rule read_start step_site step_reads step_start step_fetch step_cache step_plan step_pull
    step_snapshot step_moved job_limit off_branch not_ready job_cause step_cause step_broken
    step_done
    step_rule_of raise_cause issue_cause taken_in rows_set new_past new_version issued_master
    issued_writer
    saved_store issued_store issued_number issue_done issue_rule same_version stays stays_other
    moved_keys
    moved_set forked_run fork_cause fork_done fork_rule_of joined_place joined_branch joined_run
    join_moved
    join_cause join_done join_broken join_rule_of rule_of clock_words past_words version_words
    place_words
    site_words sites_words writer_words writers_words job_words jobs_words run_words runs_words
    tail_words
    header_words store_words read_clock read_past_of read_version read_place read_site read_writer
    read_job
    read_jobs read_run read_tail_of counts_in store_of written header_right shaped in_form
    new_cause new_on
    on_store call_on leaves is_new is_ok_of writer_of leads in_past reaches held_copy needs_copy
    meets_copy
    union last_in by_writer held_book merge_book needs_book meets_book read_copy writer_list
    list_of
    fresh_book with_book_caches with_book_run book_open book_fetch book_step_job book_fork
    book_join entry
    book_issue book_issued book_rule book_ok book_step start advance follow own_row had_read
    number_of
    reads_up_to row_words read_words keys_words issues_words reads_words head_words record_of_at
    record_at
    goes_on_of
computed = record {
  case_begun = refl;
  case_accepted = refl;
  case_a = refl;
  case_second = refl;
  case_counts = refl;
  case_goes = refl;
  later = refl;
  anew-begun = refl;
  anew = refl;
  lines-begun = refl;
  lines = refl;
}
