-- Request 11's examples on buffers, computed.
-- twin-, rights-, two-..: examples 1, 2 and 3. again-, late-..: what the second claim can't do
-- without. Computed, computed: premises of the claims, and answers. `Used` puts them through.
-- Assumes nothing.
use mathlib.Core.Path.{◌≡◌, refl}
use mathlib.Core.Bool.{So}
use mathlib.Core.List.{List, [], ◌∷◌, ◌++◌, map}
use Prim.Native.Nat.{ℕ}
use lib.ListN.{replicate}
use lib.Seq.{sets}
use Rattle.words.specs.Tests.{any_below, all_below, only}
use Rattle.words.specs.Numbers.{when, count_below, fold_below}
use Rattle.words.specs.Lists.{put_at, upto, blocks}
use Rattle.masks.specs.Mask.{test_bit, with_bit, with_if, mask_below}
use Rattle.reach.specs.Closure.{closure, rounds, round}
use Rattle.clock.specs.Clock.{exceeds, standing, dominates, present, join}
use Rattle.sizes.specs.Bounds.{counts_of, between, ranged, past_size, version_size, place_size, site_size, writer_size, run_size, master_at, sites_at, writers_at, runs_at, tail_size, tail_at, total_of}
use Rattle.model.specs.Algebra.{lacking}
use Rattle.model.specs.Version.{held, dependency, supersedes, leads_on, merged_leaders, larger, merge}
use Rattle.model.specs.Sets.{draws, draw_set, fetch_set, fetched, unfetchable, evict_set, evicted, pull_set, pulled}
use Rattle.model.specs.Tail.{barred}
use Rattle.model.specs.Store.{fresh, site_with, with_marks, planned, done_reads, with_master, with_last, with_sites, with_cache, with_caches, with_writer, with_run, with_tail_of, with_state, with_snapshot, with_job_done}
use Rattle.model.specs.Form.{zero_rows, zero_version, leaders_formed, version_formed, place_formed, valid_job, zero_job, zero_branch, free_formed, jobs_formed, masks_formed, mark_formed, snapshot_formed, branches_formed, run_formed, site_formed, rights_formed, tail_formed, well_formed}
use Rattle.model.specs.Allowance.{held_count, over}
use Rattle.model.specs.Marks.{is_stale, stale_mask}
use Rattle.model.specs.Outcome.{answer, refuse, unless, replied, allowed, run_cause}
use Rattle.model.specs.Caches.{fetch_cause, fetch_done, fetch_rule, evict_cause, evict_done, evict_rule}
use Rattle.model.specs.Runs.{listed_job, listed_count, listed_jobs, list_valid, open_cause, opened_run, open_done, open_rule}
use Rattle.model.specs.Prepare.{job_start, fetch_reads, prepared_caches, unentitled, unpreparable, uses_site, sites_merged, site_caches, any_over, prepare_cause, prepare_caches, prepare_snapshot, prepare_done, prepare_rule}
use Rattle.model.specs.Step.{read_start, step_site, step_reads, step_start, step_fetch, step_cache, step_plan, step_pull, step_snapshot, step_moved, step_barred, job_limit, off_branch, not_ready, job_cause, step_cause, step_broken, step_done, step_rule_of}
use Rattle.model.specs.Issue.{raise_cause, issue_cause, taken_in, rows_set, new_past, new_version, issued_master, issued_writer, saved_store, issued_store, issued_number, issue_done, issue_rule}
use Rattle.model.specs.Calls.Look.{look_place, look_limit, look_cause, row_numbers, look_standing, look_numbers, look_reply}
use Rattle.model.specs.Calls.Allow.{allow_cause, allow_done, allow_rule}
use Rattle.model.specs.Calls.Rights.{taken_away, right_cause, mayhold_cache, mayhold_done, mayhold_rule}
use Rattle.model.specs.Calls.Fork.{join_cause, join_rule_of}
use Rattle.model.specs.Calls.{open_run, fetch, evict, prepare, step, issue, allow, mayhold, join as join_run, ask, look, reply_of, rule_of}
use Rattle.layout.specs.Words.{clock_words, past_words, version_words, place_words, site_words, sites_words, writer_words, writers_words, job_words, jobs_words, run_words, runs_words, masks_words, tail_words, header_words, store_words}
use Rattle.layout.specs.Reading.{read_clock, read_past_of, read_version, read_place, read_site, read_writer, read_job, read_jobs, read_run, read_masks, read_tail_of, counts_in, store_of}
use Rattle.layout.specs.Buffer.{written, header_right, shaped, in_form}
use Rattle.layout.specs.Calls.{Call, new, on, new_cause, new_on, on_store, call_on, leaves, is_ok_of, outcomes, after}
use Rattle.consistency.specs.Trace.{Trace, start, advance, follow}
use Rattle.booked.specs.Prepared.{unsettles, disturbs, untouched, prepared, Read, read_off_of, steps_of, noted, read_by, left_out_of, without}

-- Run r, which reads nothing, saves the sheets of S as writer 0.
abbrev saving : ℕ → ℕ → List Call
saving r S = on (open_run r (0 ∷ 0 ∷ 0 ∷ [])) ∷ on (step r 0 0) ∷ on (issue r 0 S) ∷ []

-- Run r, which is to read sheet 0 at office 0; and one that reads sheet 1 at office 1 besides.
abbrev single : ℕ → Call
single r = on (open_run r (0 ∷ 1 ∷ 0 ∷ []))

abbrev double : ℕ → Call
double r = on (open_run r (0 ∷ 1 ∷ 0 ∷ 1 ∷ 2 ∷ 0 ∷ []))

-- ---- example 1: a prepared run, and its twin that isn't

abbrev pub twin-new : Trace
twin-new = start (counts_of 2 1 2 3) (replicate 183 5)

-- Sheets 0 and 1 are saved one by one.
abbrev pub twin-before : List Call
twin-before = saving 2 1 ++ (saving 2 2 ++ (double 0 ∷ double 1 ∷ []))

abbrev pub twin-base : List ℕ
twin-base = (follow twin-before twin-new).buffer

-- Run 0 is prepared. The twin reads 0, both sheets are saved again, office 1 takes them, and the
-- twin breaks; both offices lose sheet 0 and may hold none, so that a third run gets 12; run 0
-- goes on, and can't be prepared again, nor joined.
abbrev pub twin-calls : List Call
twin-calls =
    on (step 1 0 0) ∷ (saving 2 3 ++ (on (fetch 1 1) ∷ on (step 1 1 0) ∷ on (evict 0 0)
    ∷ on (allow 0 0) ∷ on (evict 1 0) ∷ on (allow 1 0) ∷ single 2 ∷ on (step 2 0 0)
    ∷ on (step 0 1 0) ∷ on (prepare 0) ∷ on (join_run 0) ∷ []))

abbrev twin-ends : List Call
twin-ends = on (step 0 0 0) ∷ on (ask (look 2 0 0)) ∷ on (ask (look 2 0 1)) ∷ []

-- ---- example 2: sheet 0 is taken from office 0 and given back

abbrev pub rights_new : Trace
rights_new = start (counts_of 2 1 2 2) (replicate 137 5)

abbrev pub rights_before : List Call
rights_before = saving 0 3 ++ (double 0 ∷ on (open_run 1 (1 ∷ 3 ∷ 0 ∷ [])) ∷ [])

abbrev pub rights_base : List ℕ
rights_base = (follow rights_before rights_new).buffer

abbrev pub rights_calls : List Call
rights_calls =
    on (prepare 1) ∷ on (step 1 0 0) ∷ on (mayhold 0 2) ∷ on (step 0 0 0) ∷ on (step 0 1 0)
    ∷ on (mayhold 0 3) ∷ on (step 0 0 0) ∷ on (prepare 0) ∷ []

-- ---- example 3: two prepared runs, of which one issues

abbrev pub two-base : List ℕ
two-base = after (new 2 1 1 3 ∷ (saving 0 1 ++ (single 1 ∷ single 2 ∷ []))) (replicate 172 5)

abbrev pub two-prepared : List ℕ
two-prepared = prepared 2 (prepared 1 two-base)

abbrev pub two-calls : List Call
two-calls =
    on (step 2 0 0) ∷ on (issue 2 0 1) ∷ on (evict 0 0) ∷ on (step 1 0 0)
    ∷ on (ask (look 2 1 0)) ∷ []

-- ---- the same on a smaller desk: runs 0 and 1

abbrev small : List ℕ
small = after (new 1 1 1 2 ∷ (saving 0 1 ++ (single 0 ∷ single 1 ∷ []))) (replicate 95 5)

-- Were run 0 prepared again: then what it reads hangs on what run 1 has issued, so on its step.
abbrev again-prepared : List ℕ
again-prepared = prepared 1 (prepared 0 small)

abbrev again-calls : List Call
again-calls =
    on (step 1 0 0) ∷ on (issue 1 0 1) ∷ on (fetch 0 0) ∷ on (prepare 0) ∷ on (step 0 0 0) ∷ []

-- Why both lists have to leave run 0 as prepared: with one issue number left, run 1 takes it, or,
-- not stepped, leaves it to run 0, which then is freed, opened anew and reads once more.
abbrev late-prepared : List ℕ
late-prepared = prepared 1 (prepared 0 (sets small 4 (4294967294 ∷ [])))

abbrev late-calls : List Call
late-calls =
    on (step 1 0 0) ∷ on (issue 1 0 1) ∷ on (step 0 0 0) ∷ on (issue 0 0 1) ∷ single 0
    ∷ on (step 0 0 0) ∷ []

-- A job, and the issue number of sheet 0 as it read it.
abbrev seen : Read → List ℕ
seen x = x.job ∷ (x.version 0).issue ∷ []

-- ---- computed

pub record Computed : Type 0 where
  pub twin-begun : So (is_ok_of (new_on (replicate 183 5) (counts_of 2 1 2 3)))
  pub twin-accepted : So (is_ok_of (call_on (on (prepare 0)) twin-base))
  pub twin-quiet : So (untouched 0 twin-calls (prepared 0 twin-base))
  pub twin-answers : map answer (outcomes (on (prepare 0) ∷ (twin-calls ++ twin-ends)) twin-base)
      ≡ (0 ∷ 3 ∷ []) ∷ (0 ∷ 0 ∷ 1 ∷ 0 ∷ []) ∷ (0 ∷ 1 ∷ []) ∷ (0 ∷ 0 ∷ 0 ∷ 0 ∷ []) ∷ (0 ∷ 3 ∷ [])
      ∷ (0 ∷ 3 ∷ []) ∷ (1 ∷ 1 ∷ []) ∷ (0 ∷ 1 ∷ []) ∷ (0 ∷ 0 ∷ []) ∷ (0 ∷ 3 ∷ []) ∷ (0 ∷ 0 ∷ [])
      ∷ (0 ∷ 1 ∷ []) ∷ (2 ∷ 12 ∷ []) ∷ (0 ∷ 2 ∷ 0 ∷ 0 ∷ []) ∷ (2 ∷ 6 ∷ []) ∷ (2 ∷ 14 ∷ [])
      ∷ (0 ∷ 1 ∷ 0 ∷ 0 ∷ []) ∷ (0 ∷ 1 ∷ 1 ∷ 1 ∷ 1 ∷ []) ∷ (0 ∷ 2 ∷ 1 ∷ 2 ∷ 1 ∷ []) ∷ []
  pub rights_begun : So (is_ok_of (new_on (replicate 137 5) (counts_of 2 1 2 2)))
  pub rights_accepted : So (is_ok_of (call_on (on (prepare 0)) rights_base))
  pub rights_quiet : So (untouched 0 rights_calls (prepared 0 rights_base))
  pub rights_answers : map answer (outcomes (on (prepare 0) ∷ rights_calls) rights_base)
      ≡ (0 ∷ 3 ∷ []) ∷ (0 ∷ 3 ∷ []) ∷ (0 ∷ 3 ∷ 0 ∷ 0 ∷ []) ∷ (0 ∷ 0 ∷ []) ∷ (2 ∷ 13 ∷ [])
      ∷ (0 ∷ 2 ∷ 0 ∷ 0 ∷ []) ∷ (0 ∷ 0 ∷ []) ∷ (0 ∷ 1 ∷ 0 ∷ 0 ∷ []) ∷ (2 ∷ 6 ∷ []) ∷ []
  pub two_formed : So (in_form two-base)
  pub two-accepted : So (is_ok_of (call_on (on (prepare 1)) two-base))
  pub two-between : So (untouched 1 (on (prepare 2) ∷ []) (prepared 1 two-base))
  pub other-formed : So (in_form (prepared 1 two-base))
  pub other-accepted : So (is_ok_of (call_on (on (prepare 2)) (prepared 1 two-base)))
  pub two-quiet : So (untouched 1 two-calls two-prepared)
  pub two-quiet-without : So (untouched 1 (without 2 two-calls) two-prepared)
  pub two-answers : map answer (outcomes two-calls two-prepared)
      ≡ (0 ∷ 1 ∷ 0 ∷ 0 ∷ []) ∷ (0 ∷ 2 ∷ []) ∷ (0 ∷ 1 ∷ []) ∷ (0 ∷ 1 ∷ 0 ∷ 0 ∷ [])
      ∷ (0 ∷ 1 ∷ 1 ∷ 1 ∷ 1 ∷ []) ∷ []
  pub two-without : map answer (outcomes (without 2 two-calls) two-prepared)
      ≡ (2 ∷ 6 ∷ []) ∷ (0 ∷ 1 ∷ []) ∷ (0 ∷ 1 ∷ 0 ∷ 0 ∷ []) ∷ (0 ∷ 1 ∷ 1 ∷ 1 ∷ 0 ∷ []) ∷ []
  pub two-read : map seen (read_by 1 two-calls two-prepared) ≡ (0 ∷ 1 ∷ []) ∷ []
  pub again-read : map seen (read_by 0 again-calls again-prepared) ≡ (0 ∷ 2 ∷ []) ∷ []
  pub again-without : map seen (read_by 0 (without 1 again-calls) again-prepared)
      ≡ (0 ∷ 1 ∷ []) ∷ []
  pub late-quiet : So (untouched 0 late-calls late-prepared)
  pub late-read : map seen (read_by 0 late-calls late-prepared) ≡ (0 ∷ 1 ∷ []) ∷ []
  pub late-without : map seen (read_by 0 (without 1 late-calls) late-prepared)
      ≡ (0 ∷ 1 ∷ []) ∷ (0 ∷ 1 ∷ []) ∷ []

pub computed : Computed
unfolding any_below all_below only fold_below put_at upto blocks test_bit with_bit with_if
    mask_below
    closure rounds round exceeds standing dominates present join between ranged past_size
    version_size place_size site_size writer_size run_size master_at sites_at writers_at runs_at
    tail_size
    tail_at total_of lacking held dependency supersedes leads_on merged_leaders larger merge draws
    draw_set fetch_set fetched unfetchable evict_set evicted pull_set pulled fresh planned
    done_reads
    with_master with_last with_sites with_cache with_caches with_writer with_run with_state
    with_snapshot
    with_job_done zero_rows zero_version leaders_formed version_formed place_formed valid_job
    zero_job
    free_formed jobs_formed rights_formed tail_formed masks_words read_masks zero_branch
    masks_formed
    mark_formed snapshot_formed branches_formed run_formed site_formed well_formed when count_below
    held_count over is_stale stale_mask site_with with_marks answer refuse unless allowed run_cause
    barred unentitled step_barred fetch_cause fetch_done fetch_rule evict_cause evict_done
    evict_rule
    listed_job listed_count listed_jobs list_valid open_cause opened_run open_done open_rule
    job_start
    fetch_reads prepared_caches unpreparable uses_site sites_merged site_caches any_over
    prepare_cause
    prepare_caches prepare_snapshot prepare_done prepare_rule read_start step_site step_reads
    step_start
    step_fetch step_cache step_plan step_pull step_snapshot step_moved job_limit off_branch
    not_ready
    job_cause step_cause step_broken step_done step_rule_of raise_cause issue_cause taken_in
    rows_set
    new_past new_version issued_master issued_writer saved_store issued_store issued_number
    issue_done
    issue_rule look_place look_limit look_cause row_numbers look_standing look_numbers look_reply
    replied reply_of rule_of clock_words past_words version_words place_words site_words
    sites_words
    writer_words writers_words job_words jobs_words run_words runs_words tail_words header_words
    store_words read_clock read_past_of read_version read_place read_site read_writer read_job
    read_jobs
    read_run read_tail_of counts_in store_of written header_right shaped in_form new_cause new_on
    on_store
    call_on leaves outcomes after with_tail_of allow_cause allow_done allow_rule taken_away
    right_cause
    mayhold_cache mayhold_done mayhold_rule join_cause join_rule_of is_ok_of start advance follow
    unsettles
    disturbs untouched read_off_of steps_of noted read_by left_out_of without
computed = record {
  twin-begun = refl;
  twin-accepted = refl;
  twin-quiet = refl;
  twin-answers = refl;
  rights_begun = refl;
  rights_accepted = refl;
  rights_quiet = refl;
  rights_answers = refl;
  two_formed = refl;
  two-accepted = refl;
  two-between = refl;
  other-formed = refl;
  other-accepted = refl;
  two-quiet = refl;
  two-quiet-without = refl;
  two-answers = refl;
  two-without = refl;
  two-read = refl;
  again-read = refl;
  again-without = refl;
  late-quiet = refl;
  late-read = refl;
  late-without = refl;
}
