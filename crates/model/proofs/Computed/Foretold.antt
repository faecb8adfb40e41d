-- The forecasts (CR 12) computed by the definitions.
-- Assumes nothing.
use mathlib.Core.Path.{◌≡◌, refl}
use mathlib.Core.Bool.{true}
use lib.ListN.{replicate}
use Rattle.words.specs.Tests.{any_below, all_below, only}
use Rattle.words.specs.Numbers.{when, count_below, fold_below}
use Rattle.words.specs.Lists.{put_at, upto, blocks}
use Rattle.masks.specs.Mask.{test_bit, with_bit, with_if, mask_below}
use Rattle.reach.specs.Closure.{closure, rounds, round}
use Rattle.clock.specs.Clock.{exceeds, standing, dominates, present, join}
use Rattle.sizes.specs.Bounds.{counts_of, between, past_size, version_size, place_size, site_size, writer_size, run_size, master_at, sites_at, writers_at, runs_at, tail_size, tail_at, total_of}
use Rattle.model.specs.Algebra.{lacking}
use Rattle.model.specs.Version.{held, dependency, supersedes, leads_on, merged_leaders, larger, merge}
use Rattle.model.specs.Sets.{draws, draw_set, fetch_set, fetched, unfetchable, evict_set, evicted, pull_set, pulled}
use Rattle.model.specs.Store.{fresh, planned, done_reads, site_with, with_marks, with_master, with_last, with_sites, with_cache, with_caches, with_writer, with_run, with_state, with_snapshot, with_job_done, with_tail_of}
use Rattle.model.specs.Form.{zero_rows, zero_version, leaders_formed, version_formed, place_formed, valid_job, zero_job, zero_branch, free_formed, jobs_formed, masks_formed, mark_formed, snapshot_formed, branches_formed, run_formed, site_formed, rights_formed, tail_formed, well_formed}
use Rattle.model.specs.Marks.{is_stale, stale_mask}
use Rattle.model.specs.Allowance.{held_count, over}
use Rattle.model.specs.Calls.Allow.{allow_cause, allow_done, allow_rule}
use Rattle.model.specs.Outcome.{answer, refuse, unless, replied, allowed, run_cause}
use Rattle.model.specs.Caches.{fetch_cause, fetch_done, fetch_rule}
use Rattle.model.specs.Runs.{listed_job, listed_count, listed_jobs, list_valid, open_cause, opened_run, open_done, open_rule, drop_cause, drop_done, drop_rule}
use Rattle.model.specs.Prepare.{job_start, fetch_reads, prepared_caches, unentitled, unpreparable, uses_site, sites_merged, site_caches, any_over, prepare_cause, prepare_caches, prepare_snapshot, prepare_done, prepare_rule}
use Rattle.model.specs.Step.{read_start, step_site, step_reads, step_start, step_fetch, step_cache, step_plan, step_pull, step_snapshot, step_moved, step_barred, job_limit, not_ready, off_branch, job_cause, step_cause, step_broken, step_done, step_rule_of}
use Rattle.model.specs.Issue.{raise_cause, issue_cause, taken_in, rows_set, new_past, new_version, issued_master, issued_writer, saved_store, issued_store, issued_number, issue_done, issue_rule}
use Rattle.model.specs.Tail.{barred}
use Rattle.model.specs.Calls.Rights.{taken_away, right_cause, mayhold_cache, mayhold_done, mayhold_rule}
use Rattle.model.specs.Stays.{same_version, stays, stays_other, moved_keys, moved_set}
use Rattle.model.specs.Calls.Fork.{forked_run, fork_cause, fork_done, fork_rule_of, joined_place, joined_branch, joined_run, join_moved, join_cause, join_done, join_broken, join_rule_of}
use Rattle.model.specs.Calls.Forecast.{undone_at, undone, walk_on, walk, ended_word, ended_numbers, forecast_cause, forecast_walk, forecast_reply}
use Rattle.model.specs.Calls.{reply_of, rule_of}
use Rattle.model.proofs.Computed.Explain.{told_after}
use Rattle.model.proofs.Computed.Forecast as forecasts

pub record Foretold : Type 0 where
  pub first_break : told_after forecasts.before forecasts.breaks-calls (fresh (counts_of 3 1 2 1))
      ≡ forecasts.breaks-answers
  pub first-turned : told_after forecasts.before forecasts.turned-calls (fresh (counts_of 3 1 2 1))
      ≡ forecasts.turned-answers
  pub prepared : told_after forecasts.before forecasts.prepared-calls (fresh (counts_of 2 1 2 2))
      ≡ forecasts.prepared-answers
  pub joined : told_after forecasts.before forecasts.joined-calls (fresh (counts_of 2 1 2 2))
      ≡ forecasts.joined-answers
  pub orders : told_after forecasts.before forecasts.order-calls (fresh (counts_of 2 1 2 2))
      ≡ forecasts.order-answers
  pub left : forecasts.left ≡ forecasts.left-words
  pub left-formed : forecasts.left-formed ≡ replicate 3 true

pub foretold : Foretold
unfolding done_reads zero_rows zero_version leaders_formed version_formed place_formed zero_job
    zero_branch free_formed jobs_formed masks_formed mark_formed snapshot_formed branches_formed
    run_formed site_formed rights_formed tail_formed well_formed is_stale stale_mask site_with
    with_marks
    when count_below held_count over any_over any_below all_below only fold_below put_at upto
    blocks
    test_bit with_bit with_if mask_below closure rounds round exceeds standing dominates present
    join between lacking held dependency supersedes leads_on merged_leaders larger merge draws
    draw_set fetch_set fetched unfetchable pull_set pulled fresh planned with_master with_last
    with_sites with_cache with_caches with_writer with_run with_state with_snapshot with_job_done
    with_tail_of valid_job answer refuse unless allowed run_cause fetch_cause fetch_done fetch_rule
    listed_job listed_count listed_jobs list_valid open_cause opened_run open_done open_rule
    drop_cause
    drop_done drop_rule job_start fetch_reads prepared_caches unpreparable uses_site sites_merged
    site_caches unentitled prepare_cause prepare_caches prepare_snapshot prepare_done prepare_rule
    read_start step_site step_reads step_start step_fetch step_cache step_plan step_pull
    step_snapshot
    step_moved step_barred barred job_limit not_ready off_branch job_cause step_cause step_broken
    step_done step_rule_of raise_cause issue_cause taken_in rows_set new_past new_version
    issued_master
    issued_writer saved_store issued_store issued_number issue_done issue_rule replied reply_of
    same_version stays stays_other moved_keys moved_set forked_run fork_cause fork_done
    fork_rule_of
    joined_place joined_branch joined_run join_moved join_cause join_done join_broken join_rule_of
    undone_at
    undone walk_on walk ended_word ended_numbers forecast_cause forecast_walk forecast_reply
    allow_cause allow_done allow_rule taken_away right_cause mayhold_cache mayhold_done
    mayhold_rule
    past_size version_size place_size site_size writer_size run_size master_at sites_at writers_at
    runs_at
    tail_size tail_at total_of evict_set evicted rule_of
foretold = record {
  first_break = refl;
  first-turned = refl;
  prepared = refl;
  joined = refl;
  orders = refl;
  left = refl;
  left-formed = refl;
}
