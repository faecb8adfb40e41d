-- What the claim says of two lines of a run (CR 10), and what it doesn't, on two scripts.
-- Computed: the lines on which what was read stands. owes_nothing: what two jobs have read on
-- different lines before a join stands on no line in common; no-snapshot: and is none, so that
-- nothing could be claimed of it.
-- Assumes nothing.
use mathlib.Core.Path.{◌≡◌, refl, ap}
use mathlib.Core.Bool.{So}
use mathlib.Core.Logic.{◌≢◌}
use mathlib.Core.List.{List, [], ◌∷◌, ◌++◌, map}
use Prim.Native.Nat.{ℕ}
use native.Mathlib.Omega.{arith}
use lib.ListN.{replicate}
use Rattle.words.specs.Tests.{any_below, all_below, only}
use Rattle.words.specs.Numbers.{fold_below, count_below, largest, when}
use Rattle.words.specs.Lists.{put_at, upto, blocks}
use Rattle.words.proofs.Bools.{eqb-eq}
use Rattle.masks.specs.Mask.{test_bit, with_bit, with_if, mask_below}
use Rattle.reach.specs.Closure.{closure, rounds, round}
use Rattle.clock.specs.Clock.{exceeds, standing, dominates, present, join}
use Rattle.sizes.specs.Bounds.{counts_of, between, ranged, past_size, version_size, place_size, site_size, writer_size, run_size, master_at, sites_at, writers_at, runs_at, tail_size, tail_at, total_of}
use Rattle.sizes.specs.declared.Counts.{Counts}
use Rattle.model.specs.Algebra.{lacking}
use Rattle.model.specs.Version.{held, dependency, supersedes, leads_on, merged_leaders, larger, merge}
use Rattle.model.specs.Sets.{draws, draw_set, fetch_set, fetched, unfetchable, pull_set, pulled}
use Rattle.model.specs.Tail.{barred}
use Rattle.model.specs.Stays.{same_version, stays, stays_other, moved_keys, moved_set}
use Rattle.model.specs.Store.{fresh, planned, done_reads, site_with, with_master, with_last, with_marks, with_sites, with_cache, with_caches, with_writer, with_run, with_state, with_job_done}
use Rattle.model.specs.Form.{zero_rows, zero_version, leaders_formed, version_formed, place_formed, valid_job, zero_job, zero_branch, free_formed, jobs_formed, masks_formed, mark_formed, snapshot_formed, branches_formed, run_formed, site_formed, rights_formed, tail_formed, well_formed}
use Rattle.model.specs.Allowance.{held_count, over}
use Rattle.model.specs.Marks.{is_stale, stale_mask}
use Rattle.model.specs.Outcome.{answer, refuse, unless, allowed, run_cause}
use Rattle.model.specs.Caches.{fetch_cause, fetch_done, fetch_rule}
use Rattle.model.specs.Runs.{listed_job, listed_count, listed_jobs, list_valid, open_cause, opened_run, open_done, open_rule}
use Rattle.model.specs.Step.{read_start, step_site, step_reads, step_start, step_fetch, step_cache, step_plan, step_pull, step_snapshot, step_moved, step_barred, job_limit, off_branch, not_ready, job_cause, step_cause, step_broken, step_done, step_rule_of}
use Rattle.model.specs.Issue.{raise_cause, issue_cause, taken_in, rows_set, new_past, new_version, issued_master, issued_writer, saved_store, issued_store, issued_number, issue_done, issue_rule}
use Rattle.model.specs.Calls.Fork.{forked_run, fork_cause, fork_done, fork_rule_of, joined_place, joined_branch, joined_run, join_moved, join_cause, join_done, join_broken, join_rule_of}
use Rattle.model.specs.Calls.{open_run, fetch, step, issue, fork, join as joining, rule_of}
use Rattle.layout.specs.Words.{clock_words, past_words, version_words, place_words, site_words, sites_words, writer_words, writers_words, job_words, jobs_words, run_words, runs_words, masks_words, tail_words, header_words, store_words}
use Rattle.layout.specs.Reading.{read_clock, read_past_of, read_version, read_place, read_site, read_writer, read_job, read_jobs, read_run, read_masks, read_tail_of, counts_in, store_of}
use Rattle.layout.specs.Buffer.{written, header_right, shaped, in_form}
use Rattle.layout.specs.Calls.{Call, on, new_cause, new_on, on_store, call_on, leaves, is_ok_of}
use Rattle.history.specs.History.{History, writer_of, leads, in_past}
use Rattle.history.specs.Copies.{reaches, held_copy, needs_copy, meets_copy, union}
use Rattle.history.specs.Listing.{Base, held_book, merge_book, needs_book, meets_book, read_copy}
use Rattle.history.specs.Lists.{writer_list, list_of}
use Rattle.history.specs.Book.{fresh_book, with_book_caches, with_book_run, book_open, book_fetch, book_step_job, book_fork, book_join, entry, book_issue, book_issued, book_rule, book_ok, book_step}
use Rattle.consistency.specs.Roles.{role_of}
use Rattle.consistency.specs.Trace.{ReadSet, Trace, start, read_now, finish_by, finish, advance, follow}
use Rattle.consistency.specs.Claim.{Snapshot}

-- ---- the scripts

-- Run 0, which has read nothing, saves the sheets of S.
abbrev saving : ℕ → List Call
saving S = on (open_run 0 (0 ∷ 0 ∷ 0 ∷ [])) ∷ on (step 0 0 0) ∷ on (issue 0 0 S) ∷ []

-- Run 0 with a job at office 0 that reads sheet 0, and one at office 1 that reads those of m.
abbrev two : ℕ → Call
two m = on (open_run 0 (0 ∷ 1 ∷ 0 ∷ 1 ∷ m ∷ 0 ∷ []))

-- The list on a new desk.
abbrev from-new : Counts → List Call → Trace
from-new z cs = follow cs (start z (replicate (total_of z) 0))

-- Sheet 0 is saved twice, and each office fetches it after another save: one sheet in two
-- versions. The run is forked, and its first job reads it on line 0.
abbrev before : Trace
before =
    from-new (counts_of 2 1 2 2)
    (saving 1 ++ (on (fetch 0 0) ∷ (saving 1 ++ (on (fetch 1 0) ∷ two 1 ∷ on (fork 0)
    ∷ on (step 0 0 0) ∷ []))))

-- Its second job reads it on line 1.
abbrev apart : Trace
apart = advance (on (step 0 1 1)) before

-- Both sheets are saved once; the run's jobs read one each, by these calls.
abbrev together : List Call → Trace
together cs =
    from-new (counts_of 2 2 2 1)
    (saving 3 ++ (on (fetch 0 0) ∷ on (fetch 1 1) ∷ two 2 ∷ cs))

-- ---- on which lines it stands

-- The lines, the sheets read, and the issue number of sheet 0.
abbrev seen : ReadSet → List ℕ
seen x = mask_below 3 x.on ∷ mask_below 2 x.keys ∷ (x.version 0).issue ∷ []

-- What the two jobs have read on different lines.
abbrev on-first : ReadSet
on-first = read_now 0 0 0 (store_of before.buffer) before.book

abbrev on-second : ReadSet
on-second = read_now 0 1 1 (store_of apart.buffer) apart.book

-- Forked before the first job, or after it.
abbrev forked : List Call
forked = on (fork 0) ∷ on (step 0 0 0) ∷ on (step 0 1 1) ∷ []

abbrev forked-later : List Call
forked-later = on (step 0 0 0) ∷ on (fork 0) ∷ on (step 0 1 1) ∷ []

pub record Computed : Type 0 where
  -- Each on a line of its own, the last one first; a join breaks, and moves nothing.
  pub lines : map seen (apart.finished 0) ≡ (2 ∷ 1 ∷ 2 ∷ []) ∷ (1 ∷ 1 ∷ 1 ∷ []) ∷ []
  pub entries : apart.finished 0 ≡ on-second ∷ on-first ∷ []
  pub breaks : answer (call_on (on (joining 0)) apart.buffer) ≡ 1 ∷ 1 ∷ []
  -- "once their lines are joined": before and after it.
  pub unjoined : map seen ((together forked).finished 0)
      ≡ (2 ∷ 2 ∷ 1 ∷ []) ∷ (1 ∷ 1 ∷ 1 ∷ []) ∷ []
  pub joined : map seen ((together (forked ++ (on (joining 0) ∷ []))).finished 0)
      ≡ (1 ∷ 2 ∷ 1 ∷ []) ∷ (1 ∷ 1 ∷ 1 ∷ []) ∷ []
  -- "if one was done before the fork": that one on both lines, the other on its own.
  pub both : map seen ((together forked-later).finished 0)
      ≡ (2 ∷ 2 ∷ 1 ∷ []) ∷ (3 ∷ 1 ∷ 1 ∷ []) ∷ []
  -- Of the two on different lines: both have read sheet 0, in different versions.
  pub reads : So (on-first.keys 0) × So (on-second.keys 0)
  pub differ : (on-first.version 0).issue ≢ (on-second.version 0).issue

pub computed : Computed
unfolding any_below all_below only fold_below count_below largest when put_at upto blocks test_bit
    with_bit with_if mask_below closure rounds round exceeds standing dominates present join
    between ranged past_size version_size place_size site_size writer_size run_size master_at
    sites_at
    writers_at runs_at tail_size tail_at total_of lacking held dependency supersedes leads_on
    merged_leaders larger merge draws draw_set fetch_set fetched unfetchable held_count over
    pull_set pulled fresh barred step_barred rights_formed tail_formed masks_words read_masks
    planned done_reads with_master with_last site_with with_marks with_caches with_sites with_cache
    with_writer with_run with_state is_stale stale_mask site_formed with_job_done zero_rows
    zero_version
    leaders_formed version_formed place_formed valid_job zero_job free_formed jobs_formed
    masks_formed
    zero_branch mark_formed snapshot_formed branches_formed run_formed well_formed answer refuse
    unless allowed run_cause listed_job listed_count listed_jobs list_valid open_cause opened_run
    open_done open_rule fetch_cause fetch_done fetch_rule read_start step_site step_reads
    step_start
    step_fetch step_cache step_plan step_pull step_snapshot step_moved job_limit off_branch
    not_ready
    job_cause step_cause step_broken step_done step_rule_of same_version stays stays_other
    moved_keys
    moved_set forked_run fork_cause fork_done fork_rule_of joined_place joined_branch joined_run
    join_moved
    join_cause join_done join_broken join_rule_of raise_cause issue_cause taken_in rows_set
    new_past
    new_version issued_master issued_writer saved_store issued_store issued_number issue_done
    issue_rule
    rule_of clock_words past_words version_words place_words site_words sites_words writer_words
    writers_words job_words jobs_words run_words runs_words tail_words header_words store_words
    read_clock read_past_of read_version read_place read_site read_writer read_job read_jobs
    read_run
    read_tail_of counts_in store_of written header_right shaped in_form new_cause new_on on_store
    call_on
    leaves is_ok_of writer_of leads in_past reaches held_copy needs_copy meets_copy union held_book
    merge_book needs_book meets_book read_copy writer_list list_of fresh_book with_book_caches
    with_book_run book_open book_fetch book_step_job book_fork book_join entry book_issue
    book_issued
    book_rule book_ok book_step start read_now role_of finish_by finish advance follow
computed = record {
  lines = refl;
  entries = refl;
  breaks = refl;
  unjoined = refl;
  joined = refl;
  both = refl;
  reads = (refl, refl);
  differ = λ e.
      let z : ◌≡◌ {A = ℕ} 1 2 = e in
      absurd (omega (arith, z));
}

-- ---- what is claimed of these two: nothing

-- `Holds.shared` asks for a line in common.
pub owes_nothing : (n : ℕ) → So (on-first.on n) → So (on-second.on n) → ⊥
unfolding read_now only
owes_nothing n p q =
    let first : n ≡ 0 = eqb-eq n 0 p in
    let second : n ≡ 1 = eqb-eq n 1 q in
    absurd (omega arith)

-- They are no snapshot: both read sheet 0.
pub no-snapshot : (W : ℕ) (h : History) (B : Base) → ¬ (Snapshot 2 W h B on-first on-second)
no-snapshot W h B x =
    let e = x.one-version 0 (omega arith) computed.reads.0 computed.reads.1 in
    computed.differ (ap (λ v. v.issue) e)
