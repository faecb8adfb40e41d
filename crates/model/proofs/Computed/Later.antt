-- The scripts and stores of change requests 6 to 10 computed by the definitions.
-- Assumes nothing.
use mathlib.Core.Path.{◌≡◌, refl}
use mathlib.Core.Bool.{true, false}
use mathlib.Core.List.{[], ◌∷◌}
use lib.ListN.{replicate}
use Rattle.words.specs.Tests.{any_below, all_below, only}
use Rattle.words.specs.Numbers.{when, count_below, fold_below}
use Rattle.words.specs.Turns.{first_below_of, turn}
use Rattle.words.specs.Lists.{put_at, upto, blocks}
use Rattle.masks.specs.Mask.{test_bit, with_bit, with_if, mask_below}
use Rattle.reach.specs.Closure.{closure, rounds, round}
use Rattle.paths.specs.Path.{lowest, near, distance, nearest, path_by, shortest_path}
use Rattle.clock.specs.Clock.{exceeds, standing, dominates, concurrent, present, join}
use Rattle.sizes.specs.Bounds.{counts_of, between}
use Rattle.model.specs.Algebra.{lacking, needs_met, causal_cut, overlapping_cut}
use Rattle.model.specs.Version.{held, dependency, supersedes, leads_on, merged_leaders, larger, merge}
use Rattle.model.specs.Sets.{draws, draw_set, fetch_set, fetched, unfetchable, evict_set, evicted, pull_set, pulled}
use Rattle.model.specs.Store.{fresh, planned, done_reads, site_with, with_marks, with_master, with_last, with_sites, with_cache, with_caches, with_writer, with_run, with_state, with_snapshot, with_job_done, with_tail_of}
use Rattle.model.specs.Form.{zero_rows, zero_version, leaders_formed, version_formed, place_formed, valid_job, zero_job, zero_branch, free_formed, jobs_formed, masks_formed, mark_formed, snapshot_formed, branches_formed, run_formed, site_formed, rights_formed, tail_formed, well_formed}
use Rattle.model.specs.Marks.{is_stale, stale_mask}
use Rattle.model.specs.Allowance.{held_count, over}
use Rattle.model.specs.Calls.Allow.{allow_cause, allow_done, allow_rule}
use Rattle.model.specs.Calls.Admit.{each_branch, every_place, every_version, every_past, causal_cuts, overlapping_cuts, master_covers, counts_within, number_within, admissible, admit_cause, admit_reply}
use Rattle.model.specs.Outcome.{answer, refuse, unless, replied, allowed, run_cause}
use Rattle.model.specs.Caches.{fetch_cause, fetch_done, fetch_rule, evict_cause, evict_done, evict_rule}
use Rattle.model.specs.Runs.{listed_job, listed_count, listed_jobs, list_valid, open_cause, opened_run, open_done, open_rule, drop_cause, drop_done, drop_rule}
use Rattle.model.specs.Prepare.{job_start, fetch_reads, prepared_caches, unentitled, unpreparable, uses_site, sites_merged, site_caches, any_over, prepare_cause, prepare_caches, prepare_snapshot, prepare_done, prepare_rule}
use Rattle.model.specs.Step.{read_start, step_site, step_reads, step_start, step_fetch, step_cache, step_plan, step_pull, step_snapshot, step_moved, step_barred, job_limit, not_ready, off_branch, job_cause, step_cause, step_broken, step_done, step_rule_of}
use Rattle.model.specs.Issue.{raise_cause, issue_cause, taken_in, rows_set, new_past, new_version, issued_master, issued_writer, saved_store, issued_store, issued_number, issue_done, issue_rule}
use Rattle.model.specs.Calls.Look.{look_place, look_limit, look_cause, row_numbers, look_standing, look_numbers, look_reply}
use Rattle.model.specs.Calls.Explain.{explain_start, explain_edge, explain_goal, explain_path, breaks, explain_reply}
use Rattle.model.specs.Tail.{barred}
use Rattle.model.specs.Calls.Rights.{taken_away, right_cause, mayhold_cache, mayhold_done, mayhold_rule, maysave_rule}
use Rattle.model.specs.Calls.Stale.{stale_cause, stale_reply}
use Rattle.model.specs.Calls.Pick.{ready, waiting, ready_job, pick_turn, picked_run, pick_done, pick_rule}
use Rattle.model.specs.Stays.{same_version, stays, stays_other, moved_keys, moved_set}
use Rattle.model.specs.Calls.Fork.{forked_run, fork_cause, fork_done, fork_rule_of, joined_place, joined_branch, joined_run, join_moved, join_cause, join_done, join_broken, join_rule_of}
use Rattle.model.specs.Calls.{reply_of, rule_of}
use Rattle.model.proofs.Scripts.{answers}
use Rattle.model.proofs.Computed.Admit as admits
use Rattle.model.proofs.Computed.Allow as allows
use Rattle.model.proofs.Computed.Pick as picks
use Rattle.model.proofs.Computed.Rights as rights
use Rattle.model.proofs.Computed.Explain.{told_after}
use Rattle.model.proofs.Computed.Fork as forks

-- Each script is answered as it should be, answer by answer.
pub record Later : Type 0 where
  pub admitted : admits.taken ≡ replicate 5 true
  pub not-admitted : admits.turned_down ≡ replicate 9 true
  pub unchained : answers admits.listed-calls (admits.listed 0) ≡ admits.listed-answers
  pub unchained-rows : admits.listed-rows ≡ replicate 2 true
  pub listed-twice : answers admits.broken-calls (admits.listed 2) ≡ admits.broken-answers
  pub past-kept : answers (admits.past-calls 1) admits.written ≡ admits.past-answers
  pub own-past : answers (admits.past-calls 0) admits.written ≡ admits.own-answers
  pub hidden : answers allows.hidden_script (fresh (counts_of 2 1 2 2)) ≡ allows.hidden-answers
  pub counted : answers allows.held_script (fresh (counts_of 3 1 1 2)) ≡ allows.held-answers
  pub by_office : answers allows.jobs_script (fresh (counts_of 4 2 2 2)) ≡ allows.jobs-answers
  pub any_office : answers allows.any_script (fresh (counts_of 2 1 2 1)) ≡ allows.any-answers
  pub lacks : answers allows.first_script (fresh (counts_of 2 1 1 1)) ≡ allows.first-answers
  pub any-lacks : answers allows.sites_script (fresh (counts_of 2 1 2 1)) ≡ allows.sites-answers
  pub kept : answers allows.kept_script (fresh (counts_of 2 1 1 2)) ≡ allows.kept-answers
  pub bounds : allows.bounded ≡ replicate 4 true
  pub round_about : answers picks.round_script (fresh (counts_of 1 1 1 3)) ≡ picks.round-answers
  pub first_run : answers picks.first_script (fresh (counts_of 1 1 1 3)) ≡ picks.first-answers
  pub round-left : answers picks.left_script (fresh (counts_of 1 1 1 2)) ≡ picks.left-answers
  pub unfetched : answers picks.unfetched_script (fresh (counts_of 2 1 2 3))
      ≡ picks.unfetched-answers
  pub broken-run : answers picks.broken_script (fresh (counts_of 2 1 2 2)) ≡ picks.broken-answers
  pub upstreams : answers picks.upstream_script (fresh (counts_of 1 1 1 1))
      ≡ picks.upstream-answers
  pub ready-jobs : picks.ready_jobs ≡ true ∷ false ∷ false ∷ []
  pub taken-away : answers rights.taken_script (fresh (counts_of 3 1 2 1)) ≡ rights.taken-answers
  pub rights_first : answers rights.first_script (fresh (counts_of 2 1 1 1)) ≡ rights.first-answers
  pub rights_order : answers rights.order_script (fresh (counts_of 1 1 1 1)) ≡ rights.order-answers
  pub rights_full : answers rights.full-calls rights.full ≡ rights.full-answers
  pub rights_mark : answers rights.mark_script (fresh (counts_of 1 1 1 1)) ≡ rights.mark-answers
  pub rights_second : answers rights.second_script (fresh (counts_of 1 1 2 1))
      ≡ rights.second-answers
  pub rights_lacked : answers rights.lacked_script (fresh (counts_of 3 1 1 1))
      ≡ rights.lacked-answers
  pub from-card : answers rights.carried_script (fresh (counts_of 2 1 2 1))
      ≡ rights.carried-answers
  pub saved : answers rights.saved_script (fresh (counts_of 2 2 1 1)) ≡ rights.saved-answers
  pub last-key : answers rights.last_script (fresh (counts_of 32 1 1 1)) ≡ rights.last-answers
  pub no_cut : answers rights.uncut-calls rights.uncut ≡ rights.uncut-answers
  pub rights_formed_lem : rights.formed ≡ replicate 10 true
  pub rights_words : rights.words ≡ replicate 5 true

pub later : Later
unfolding needs_met causal_cut overlapping_cut concurrent done_reads zero_rows zero_version
    leaders_formed version_formed place_formed zero_job zero_branch free_formed jobs_formed
    masks_formed
    mark_formed snapshot_formed branches_formed run_formed site_formed rights_formed tail_formed
    well_formed is_stale stale_mask site_with with_marks stale_cause stale_reply when count_below
    held_count over any_over allow_cause allow_done allow_rule any_below all_below only fold_below
    put_at
    upto blocks test_bit with_bit with_if mask_below closure rounds round exceeds standing
    dominates
    present join between lacking held dependency supersedes leads_on merged_leaders larger merge
    draws draw_set fetch_set fetched unfetchable evict_set evicted pull_set pulled fresh planned
    with_master with_last with_sites with_cache with_caches with_writer with_run with_state
    with_snapshot
    with_job_done with_tail_of valid_job answer refuse unless allowed run_cause fetch_cause
    fetch_done
    fetch_rule evict_cause evict_done evict_rule listed_job listed_count listed_jobs list_valid
    open_cause opened_run open_done open_rule drop_cause drop_done drop_rule job_start fetch_reads
    prepared_caches unpreparable uses_site sites_merged site_caches unentitled prepare_cause
    prepare_caches prepare_snapshot prepare_done prepare_rule read_start step_site step_reads
    step_start
    step_fetch step_cache step_plan step_pull step_snapshot step_moved step_barred barred job_limit
    not_ready off_branch job_cause step_cause step_broken step_done step_rule_of raise_cause
    issue_cause
    taken_in rows_set new_past new_version issued_master issued_writer saved_store issued_store
    issued_number issue_done issue_rule look_place look_limit look_cause row_numbers look_standing
    look_numbers look_reply explain_start explain_edge explain_goal explain_path breaks
    explain_reply
    lowest near distance nearest path_by shortest_path each_branch every_place every_version
    every_past causal_cuts overlapping_cuts master_covers counts_within number_within admissible
    admit_cause admit_reply replied reply_of first_below_of turn ready waiting ready_job pick_turn
    picked_run pick_done pick_rule taken_away right_cause mayhold_cache mayhold_done mayhold_rule
    maysave_rule rule_of
later = record {
  admitted = refl;
  not-admitted = refl;
  unchained = refl;
  unchained-rows = refl;
  listed-twice = refl;
  past-kept = refl;
  own-past = refl;
  hidden = refl;
  counted = refl;
  by_office = refl;
  any_office = refl;
  lacks = refl;
  any-lacks = refl;
  kept = refl;
  bounds = refl;
  round_about = refl;
  first_run = refl;
  round-left = refl;
  unfetched = refl;
  broken-run = refl;
  upstreams = refl;
  ready-jobs = refl;
  taken-away = refl;
  rights_first = refl;
  rights_order = refl;
  rights_full = refl;
  rights_mark = refl;
  rights_second = refl;
  rights_lacked = refl;
  from-card = refl;
  saved = refl;
  last-key = refl;
  no_cut = refl;
  rights_formed_lem = refl;
  rights_words = refl;
}

-- Two lines of a run (CR 10): the same, and what words a run has after calls.
pub record Lines : Type 0 where
  pub joined-lines : told_after forks.joins-before forks.joins-calls (fresh (counts_of 2 2 2 1))
      ≡ forks.joins-answers
  pub mark-refusals : told_after forks.joins-before forks.marks-calls (fresh (counts_of 2 2 2 1))
      ≡ forks.marks-answers
  pub read_twice : told_after forks.twice-before forks.twice-calls (fresh (counts_of 2 1 2 2))
      ≡ forks.twice-answers
  pub join_rule : told_after forks.rule_before forks.rule_calls (fresh (counts_of 2 1 2 1))
      ≡ forks.rule_answers
  pub unforked : told_after forks.rule_before forks.unforked-calls (fresh (counts_of 2 1 2 1))
      ≡ forks.unforked-answers
  pub own-reads : told_after forks.own-before forks.own-calls (fresh (counts_of 3 1 2 1))
      ≡ forks.own-answers
  pub own-cards : told_after forks.own-before forks.cards-calls (fresh (counts_of 3 1 2 1))
      ≡ forks.cards-answers
  pub fork-orders : answers forks.orders-calls (fresh (counts_of 2 2 2 2)) ≡ forks.orders-answers
  pub first-looked : answers forks.looks_script (fresh (counts_of 1 1 1 1)) ≡ forks.looks-answers
  pub lines-kept : forks.kept ≡ replicate 5 true
  pub lines-formed : forks.unkept ≡ replicate 6 true
  pub lent-leaders : forks.leaders ≡ replicate 3 true
  pub lent-lines : forks.lines ≡ replicate 5 true

pub lines : Lines
unfolding needs_met causal_cut overlapping_cut done_reads zero_rows zero_version leaders_formed
    version_formed place_formed zero_job zero_branch free_formed jobs_formed masks_formed
    mark_formed
    snapshot_formed branches_formed run_formed site_formed rights_formed tail_formed well_formed
    is_stale stale_mask site_with with_marks when count_below held_count over any_over any_below
    all_below only fold_below put_at upto blocks test_bit with_bit with_if mask_below closure
    rounds
    round exceeds standing dominates present join between lacking held dependency supersedes
    leads_on merged_leaders larger merge draws draw_set fetch_set fetched unfetchable pull_set
    pulled
    fresh planned with_master with_last with_sites with_cache with_caches with_writer with_run
    with_state with_snapshot with_job_done with_tail_of valid_job answer refuse unless allowed
    run_cause
    fetch_cause fetch_done fetch_rule listed_job listed_count listed_jobs list_valid open_cause
    opened_run open_done open_rule drop_cause drop_done drop_rule job_start fetch_reads
    prepared_caches
    unpreparable uses_site sites_merged site_caches unentitled prepare_cause prepare_caches
    prepare_snapshot prepare_done prepare_rule read_start step_site step_reads step_start
    step_fetch
    step_cache step_plan step_pull step_snapshot step_moved step_barred barred job_limit not_ready
    off_branch job_cause step_cause step_broken step_done step_rule_of raise_cause issue_cause
    taken_in
    rows_set new_past new_version issued_master issued_writer saved_store issued_store
    issued_number
    issue_done issue_rule look_place look_limit look_cause row_numbers look_standing look_numbers
    look_reply explain_start explain_edge explain_goal explain_path breaks explain_reply lowest
    near
    distance nearest path_by shortest_path each_branch every_place every_version every_past
    causal_cuts
    overlapping_cuts master_covers counts_within number_within admissible admit_cause admit_reply
    replied reply_of first_below_of turn ready waiting ready_job pick_turn picked_run pick_done
    pick_rule
    same_version stays stays_other moved_keys moved_set forked_run fork_cause fork_done
    fork_rule_of
    joined_place joined_branch joined_run join_moved join_cause join_done join_broken join_rule_of
    rule_of
lines = record {
  joined-lines = refl;
  mark-refusals = refl;
  read_twice = refl;
  join_rule = refl;
  unforked = refl;
  own-reads = refl;
  own-cards = refl;
  fork-orders = refl;
  first-looked = refl;
  lines-kept = refl;
  lines-formed = refl;
  lent-leaders = refl;
  lent-lines = refl;
}
