-- The readings and the scripts computed by the definitions; those of later calls: Computed/. Those
-- of change requests 6 to 10 are computed in Computed/Later.
-- Assumes nothing.
use mathlib.Core.Path.{◌≡◌, refl}
use mathlib.Core.Bool.{true}
use mathlib.Core.List.{[], ◌∷◌}
use lib.ListN.{replicate}
use Rattle.words.specs.Tests.{any_below, all_below, only}
use Rattle.words.specs.Numbers.{when, count_below, fold_below}
use Rattle.words.specs.Lists.{put_at, upto, blocks}
use Rattle.masks.specs.Mask.{test_bit, with_bit, with_if, mask_below}
use Rattle.reach.specs.Closure.{closure, rounds, round}
use Rattle.paths.specs.Path.{lowest, near, distance, nearest, path_by, shortest_path}
use Rattle.clock.specs.Clock.{exceeds, standing, dominates, concurrent, present, join}
use Rattle.sizes.specs.Bounds.{counts_of, between}
use Rattle.model.specs.Algebra.{lacking, needs_met, causal_cut, overlapping_cut}
use Rattle.model.specs.Version.{held, dependency, supersedes, leads_on, merged_leaders, larger, merge}
use Rattle.model.specs.Sets.{draws, draw_set, fetch_set, fetched, unfetchable, evict_set, evicted, pull_set, pulled}
use Rattle.model.specs.Store.{fresh, planned, done_reads, site_with, with_marks, with_master, with_last, with_sites, with_cache, with_caches, with_writer, with_run, with_state, with_snapshot, with_job_done, with_tail_of}
use Rattle.model.specs.Form.{zero_rows, zero_version, leaders_formed, version_formed, place_formed, valid_job, zero_job, zero_branch, free_formed, jobs_formed, masks_formed, mark_formed, snapshot_formed, branches_formed, run_formed, site_formed, rights_formed, tail_formed, well_formed}
use Rattle.model.specs.Marks.{is_stale, stale_mask}
use Rattle.model.specs.Allowance.{held_count, over}
use Rattle.model.specs.Calls.Stale.{stale_cause, stale_reply}
use Rattle.model.specs.Outcome.{answer, refuse, unless, replied, allowed, run_cause}
use Rattle.model.specs.Caches.{fetch_cause, fetch_done, fetch_rule, evict_cause, evict_done, evict_rule}
use Rattle.model.specs.Runs.{listed_job, listed_count, listed_jobs, list_valid, open_cause, opened_run, open_done, open_rule, drop_cause, drop_done, drop_rule}
use Rattle.model.specs.Prepare.{job_start, fetch_reads, prepared_caches, unentitled, unpreparable, uses_site, sites_merged, site_caches, any_over, prepare_cause, prepare_caches, prepare_snapshot, prepare_done, prepare_rule}
use Rattle.model.specs.Step.{read_start, step_site, step_reads, step_start, step_fetch, step_cache, step_plan, step_pull, step_snapshot, step_moved, step_barred, job_limit, not_ready, off_branch, job_cause, step_cause, step_broken, step_done, step_rule_of}
use Rattle.model.specs.Issue.{raise_cause, issue_cause, taken_in, rows_set, new_past, new_version, issued_master, issued_writer, saved_store, issued_store, issued_number, issue_done, issue_rule}
use Rattle.model.specs.Calls.Look.{look_place, look_limit, look_cause, row_numbers, look_standing, look_numbers, look_reply}
use Rattle.model.specs.Calls.Explain.{explain_start, explain_edge, explain_goal, explain_path, breaks, explain_reply}
use Rattle.model.specs.Tail.{barred}
use Rattle.model.specs.Calls.{reply_of, rule_of}
use Rattle.model.proofs.Readings.{marked, sentences, unmarked, limits, shelved}
use Rattle.model.proofs.Computed.Look.{looked}
use Rattle.model.proofs.Scripts.{ok₁, ok₃, seen, answers, case_a_script, case_a_answers, longer_script, longer-answers, refusals_script, refusals-answers, reading_script, reading-answers, again_script, again-answers, broken_script, broken-answers, behind_script, behind-answers}
use Rattle.model.proofs.Leaders as leaders
use Rattle.model.proofs.Computed.Stale as stales
use Rattle.model.proofs.Computed.Explain as explained
use Rattle.model.proofs.Computed.Orders as ordered
pub mod Look
pub mod Explain
pub mod Stale
pub mod Orders
pub mod Admit
pub mod Allow
pub mod Pick
pub mod Rights
pub mod Fork
pub mod Later
pub mod Forecast
pub mod Foretold

-- The ten marked readings pass, and each script is answered as it should be, answer by answer.
pub record Computed : Type 0 where
  pub ten : marked ≡ replicate 10 true
  pub texts : sentences ≡ replicate 4 true
  pub others : unmarked ≡ replicate 5 true
  pub at-limits : limits ≡ replicate 6 true
  pub on_shelf : shelved ≡ replicate 2 true
  pub on-looks : looked ≡ replicate 11 true
  pub case_a : answers case_a_script (fresh (counts_of 2 2 2 1)) ≡ case_a_answers
  pub refusals : answers refusals_script (fresh (counts_of 2 2 1 2)) ≡ refusals-answers
  pub reading : answers reading_script (fresh (counts_of 2 2 2 1)) ≡ reading-answers
  pub again : answers again_script (fresh (counts_of 2 2 1 1)) ≡ again-answers
  pub broken : answers broken_script (fresh (counts_of 2 2 2 2)) ≡ broken-answers
  pub behind : answers behind_script (fresh (counts_of 1 2 2 1)) ≡ behind-answers
  pub longer : answers longer_script (fresh (counts_of 3 2 2 2)) ≡ longer-answers
  pub merging : leaders.merged ≡ replicate 6 true
  pub rivals : answers leaders.rival_script (fresh (counts_of 1 3 2 1)) ≡ leaders.rival_answers
  pub seen_first : answers (leaders.second_script 1) (fresh (counts_of 1 2 2 1))
      ≡ leaders.second-answers 1 2
  pub unseen-first : answers (leaders.second_script 0) (fresh (counts_of 1 2 2 1))
      ≡ leaders.second-answers 0 3
  pub chained : answers leaders.chained_script (fresh (counts_of 2 3 1 1))
      ≡ leaders.chained-answers
  pub masks : leaders.masks ≡ replicate 5 true
  pub beside : answers leaders.beside_script (fresh (counts_of 1 3 1 1)) ≡ leaders.beside-answers
  pub twice : answers leaders.twice_script (fresh (counts_of 1 2 1 1)) ≡ leaders.twice-answers
  pub other : answers leaders.other_script (fresh (counts_of 2 3 1 1)) ≡ leaders.other-answers
  pub pair : answers leaders.pair_script (fresh (counts_of 2 2 1 1)) ≡ leaders.pair-answers
  pub folded : leaders.folded ≡ ok₁ 1 ∷ seen 1 3 1 1 0 ∷ []
  pub folded-jobs : leaders.folded-jobs ≡ ok₁ 1 ∷ seen 1 3 1 1 0 ∷ []
  pub folded-once : leaders.folded-once ≡ ok₁ 1 ∷ seen 1 3 1 1 0 ∷ []
  pub stepped : leaders.stepped ≡ ok₃ 0 2 0 ∷ seen 5 3 2 3 2 ∷ []
  pub alone : leaders.alone ≡ ok₁ 1 ∷ seen 1 2 1 0 0 ∷ []
  pub marks-kept : answers stales.kept_script (fresh (counts_of 3 2 2 2)) ≡ stales.kept-answers
  pub marks-broken : answers stales.broken_script (fresh (counts_of 2 2 2 2))
      ≡ stales.broken-answers
  pub marks-stepped : answers stales.stepped_script (fresh (counts_of 2 2 1 2))
      ≡ stales.stepped-answers
  pub marks-others : answers stales.others_script (fresh (counts_of 3 2 2 2))
      ≡ stales.others-answers
  pub marks-ahead : stales.lent-ahead ≡ stales.lent-answers
  pub marks-lent : stales.lent ≡ replicate 7 true
  pub marks-asked : stales.unmarked ≡ replicate 5 true
  pub passing : explained.told_after
      (explained.passing-before (0 ∷ 1 ∷ 0 ∷ 1 ∷ 4 ∷ 0 ∷ 1 ∷ 2 ∷ 0 ∷ [])) explained.passing-calls
      (fresh (counts_of 3 4 2 2)) ≡ explained.passing-answers
  pub unplanned : explained.told_after (explained.passing-before (0 ∷ 1 ∷ 0 ∷ 1 ∷ 4 ∷ 0 ∷ []))
      explained.unplanned-calls (fresh (counts_of 3 4 2 2)) ≡ explained.unplanned-answers
  pub planned-path : explained.told_after explained.planned-before explained.planned-calls
      (fresh (counts_of 4 5 2 2)) ≡ explained.planned-answers
  pub ends : explained.told_after explained.ends-before explained.ends-calls
      (fresh (counts_of 5 5 2 2)) ≡ explained.ends-answers
  pub shorter : explained.told_after explained.longer-before explained.longer-calls
      (fresh (counts_of 4 5 2 2)) ≡ explained.longer-answers
  pub met : explained.told_after explained.met-before explained.met-calls
      (fresh (counts_of 3 4 2 2)) ≡ explained.met-answers
  pub carried : explained.told_after
      (explained.carried-before (0 ∷ 1 ∷ 0 ∷ 0 ∷ 8 ∷ 0 ∷ 1 ∷ 4 ∷ 0 ∷ 1 ∷ 2 ∷ 0 ∷ []))
      explained.carried-calls (fresh (counts_of 4 5 2 2)) ≡ explained.carried-answers
  pub old-read : explained.told_after
      (explained.carried-before (0 ∷ 1 ∷ 0 ∷ 0 ∷ 8 ∷ 0 ∷ 1 ∷ 6 ∷ 0 ∷ []))
      explained.old-read-calls (fresh (counts_of 4 5 2 2)) ≡ explained.old-read-answers
  pub refusing : answers explained.refusing-calls (fresh (counts_of 2 2 1 2))
      ≡ explained.refusing-answers
  pub orders : answers ordered.orders_script (fresh (counts_of 2 2 2 2)) ≡ ordered.orders-answers
  pub upstream : answers ordered.upstream_script (fresh (counts_of 1 1 1 1))
      ≡ ordered.upstream-answers
  pub prepares : answers ordered.prepares_script (fresh (counts_of 2 2 2 2))
      ≡ ordered.prepares-answers
  pub fifth : answers ordered.fifth_script (fresh (counts_of 1 2 2 2)) ≡ ordered.fifth-answers
  pub by_shelf : explained.told_after ordered.shelf_before ordered.shelf_calls
      (fresh (counts_of 3 4 2 2)) ≡ ordered.shelf_answers
  pub full : ordered.full-told ≡ ordered.full-answers
  pub cards : ordered.cards ≡ replicate 6 true

pub computed : Computed
unfolding needs_met causal_cut overlapping_cut concurrent done_reads zero_rows zero_version
    leaders_formed version_formed place_formed zero_job zero_branch free_formed jobs_formed
    masks_formed
    mark_formed snapshot_formed branches_formed run_formed site_formed rights_formed tail_formed
    well_formed is_stale stale_mask site_with with_marks stale_cause stale_reply when count_below
    held_count over any_over any_below all_below only fold_below put_at upto blocks test_bit
    with_bit
    with_if mask_below closure rounds round exceeds standing dominates present join between
    lacking held dependency supersedes leads_on merged_leaders larger merge draws draw_set
    fetch_set
    fetched unfetchable evict_set evicted pull_set pulled fresh planned with_master with_last
    with_sites with_cache with_caches with_writer with_run with_state with_snapshot with_job_done
    with_tail_of valid_job answer refuse unless allowed run_cause fetch_cause fetch_done fetch_rule
    evict_cause evict_done evict_rule listed_job listed_count listed_jobs list_valid open_cause
    opened_run open_done open_rule drop_cause drop_done drop_rule job_start fetch_reads
    prepared_caches
    unpreparable uses_site sites_merged site_caches unentitled prepare_cause prepare_caches
    prepare_snapshot prepare_done prepare_rule read_start step_site step_reads step_start
    step_fetch
    step_cache step_plan step_pull step_snapshot step_moved step_barred barred job_limit not_ready
    off_branch job_cause step_cause step_broken step_done step_rule_of raise_cause issue_cause
    taken_in
    rows_set new_past new_version issued_master issued_writer saved_store issued_store
    issued_number
    issue_done issue_rule look_place look_limit look_cause row_numbers look_standing look_numbers
    look_reply explain_start explain_edge explain_goal explain_path breaks explain_reply lowest
    near
    distance nearest path_by shortest_path replied reply_of rule_of
computed = record {
  ten = refl;
  texts = refl;
  others = refl;
  at-limits = refl;
  on_shelf = refl;
  on-looks = refl;
  case_a = refl;
  refusals = refl;
  reading = refl;
  again = refl;
  broken = refl;
  behind = refl;
  longer = refl;
  merging = refl;
  rivals = refl;
  seen_first = refl;
  unseen-first = refl;
  chained = refl;
  masks = refl;
  beside = refl;
  twice = refl;
  other = refl;
  pair = refl;
  folded = refl;
  folded-jobs = refl;
  folded-once = refl;
  stepped = refl;
  alone = refl;
  marks-kept = refl;
  marks-broken = refl;
  marks-stepped = refl;
  marks-others = refl;
  marks-ahead = refl;
  marks-lent = refl;
  marks-asked = refl;
  passing = refl;
  unplanned = refl;
  planned-path = refl;
  ends = refl;
  shorter = refl;
  met = refl;
  carried = refl;
  old-read = refl;
  refusing = refl;
  orders = refl;
  upstream = refl;
  prepares = refl;
  fifth = refl;
  by_shelf = refl;
  full = refl;
  cards = refl;
}
