-- Scripts through store and book: after each call each version is its copy counted, and its mask
-- names who leads in it.
-- tabled, kept_book: a function, a book written down.
-- follows: the test. followed: the test after each call of a list; from-new, from-admitted.
-- Assumes nothing.
use mathlib.Core.Path.{◌≡◌, refl}
use mathlib.Core.Bool.{Bool, true, false, ◌&&◌}
use mathlib.Core.List.{List, [], ◌∷◌, ◌++◌, map}
use Prim.Native.Nat.{ℕ, zero, suc, ◌<◌}
use native.Mathlib.Nat.{not-suc-le-zero, le_of_suc-le-suc}
use lib.Dec.{eqb}
use lib.ListN.{length, get_or}
use Rattle.words.specs.Tests.{none, any_below, all_below, only}
use Rattle.words.specs.Numbers.{fold_below, count_below, largest, when}
use Rattle.words.specs.Lists.{put_at, upto, blocks}
use Rattle.masks.specs.Mask.{test_bit, with_bit, with_if, mask_below}
use Rattle.reach.specs.Closure.{closure, rounds, round}
use Rattle.clock.specs.Clock.{exceeds, standing, dominates, present, join}
use Rattle.sizes.specs.Bounds.{counts_of, between, past_size, version_size, place_size, site_size, writer_size, run_size, master_at, sites_at, writers_at, runs_at, tail_size, tail_at, total_of}
use Rattle.sizes.specs.declared.Counts.{Counts}
use Rattle.model.specs.Algebra.{Place, implies, lacking, needs_met, causal_cut, overlapping_cut}
use Rattle.model.specs.Version.{Version, held, dependency, supersedes, leads_on, merged_leaders, larger, merge}
use Rattle.model.specs.Sets.{draws, draw_set, fetch_set, fetched, unfetchable, evict_set, evicted, pull_set, pulled}
use Rattle.model.specs.Tail.{barred}
use Rattle.model.specs.Store.{branch_of, Store, fresh, planned, with_master, with_last, with_sites, with_cache, site_with, with_marks, with_caches, with_writer, with_run, with_state, with_snapshot, with_job_done}
use Rattle.model.specs.Form.{valid_job}
use Rattle.model.specs.Allowance.{held_count, over}
use Rattle.model.specs.Outcome.{refuse, unless, replied, allowed, run_cause}
use Rattle.model.specs.Caches.{fetch_cause, fetch_done, fetch_rule, evict_cause, evict_done, evict_rule}
use Rattle.model.specs.Runs.{listed_job, listed_count, listed_jobs, list_valid, open_cause, opened_run, open_done, open_rule, drop_cause, drop_done, drop_rule}
use Rattle.model.specs.Prepare.{job_start, fetch_reads, prepared_caches, unentitled, unpreparable, uses_site, sites_merged, site_caches, any_over, prepare_cause, prepare_caches, prepare_snapshot, prepare_done, prepare_rule}
use Rattle.model.specs.Step.{read_start, step_site, step_reads, step_start, step_fetch, step_cache, step_plan, step_pull, step_snapshot, step_moved, step_barred, job_limit, off_branch, not_ready, job_cause, step_cause, step_broken, step_done, step_rule_of}
use Rattle.model.specs.Issue.{raise_cause, issue_cause, taken_in, rows_set, new_past, new_version, issued_master, issued_writer, saved_store, issued_store, issued_number, issue_done, issue_rule}
use Rattle.model.specs.Calls.Look.{look_place, look_limit, look_cause, row_numbers, look_standing, look_numbers, look_reply}
use Rattle.model.specs.Calls.Explain.{breaks, explain_reply}
use Rattle.model.specs.Stays.{same_version, stays, stays_other, moved_keys, moved_set}
use Rattle.model.specs.Calls.Fork.{forked_run, fork_cause, fork_done, fork_rule_of, joined_place, joined_branch, joined_run, join_moved, join_cause, join_done, join_broken, join_rule_of}
use Rattle.model.specs.Calls.Admit.{each_branch, every_place, every_version, every_past, causal_cuts, overlapping_cuts, master_covers, counts_within, number_within, admissible, admit_cause, admit_reply}
use Rattle.model.specs.Calls.{StoreCall, open_run, fetch, step, issue, fork, join as joining, reply_of, rule_of}
use Rattle.model.proofs.Outcomes.{next_store}
use Rattle.model.proofs.Scripts.{saving, case_a_script, longer_script, reading_script}
use Rattle.model.proofs.Computed.Admit.{listed, listed-calls, broken-calls, written, past-calls}
use Rattle.model.proofs.Leaders.{rival_script, second_script, chained_script}
use Rattle.layout.specs.Words.{clock_words, past_words, version_words, place_words, site_words, sites_words, writer_words, writers_words, job_words, jobs_words, run_words, runs_words, masks_words, tail_words, header_words, store_words}
use Rattle.layout.specs.Reading.{read_clock, read_past_of, read_version, read_place, read_site, read_writer, read_job, read_jobs, read_run, read_masks, read_tail_of, counts_in, store_of}
use Rattle.layout.specs.Calls.{on, is_ok_of}
use Rattle.history.specs.History.{Issue, writer_of, leads, in_past}
use Rattle.history.specs.Copies.{Copy, reaches, held_copy, needs_copy, meets_copy, union, last_in, by_writer, counted, last_by, behind_other, leading}
use Rattle.history.specs.Listing.{BookCopy, plain_copy_of, held_book, merge_book, needs_book, meets_book, read_copy, shift, counted_copy}
use Rattle.history.specs.Lists.{writer_list, list_of}
use Rattle.history.specs.Admission.{base_of, admitted_run, admitted_book}
use Rattle.history.specs.Book.{BookBranch, BookRun, book_branch, Book, no_copies, no_run, fresh_book, with_book_caches, with_book_run, book_open, book_fetch, book_evict, book_prepare, book_step_job, book_fork, book_join, entry, book_issue, book_issued, book_rule, book_ok, book_step}

-- ---- a book written down: copies are functions, built on those before each call, and would be
-- ---- computed again at each look; in lists they are computed once

-- f 0, f 1, .. f (n - 1).
abbrev pub firsts : {A : Type 0} → ℕ → (ℕ → A) → List A
firsts zero f = []
firsts (suc n) f = f 0 ∷ firsts n (λ i. f (suc i))

-- f below n, looked up in a list, and x from n on.
abbrev pub tabled : {A : Type 0} → ℕ → A → (ℕ → A) → ℕ → A
tabled n x f = let l = firsts n f in λ i. get_or l i x

-- To write down changes nothing.
pub tabled-same : {A : Type 0} (n : ℕ) (x : A) (f : ℕ → A) (i : ℕ) → i < n → tabled n x f i ≡ f i
tabled-same zero x f i h = absurd (not-suc-le-zero h)
tabled-same (suc n) x f zero h = refl
tabled-same (suc n) x f (suc i) h = tabled-same n x (λ j. f (suc j)) i (le_of_suc-le-suc h)

-- For keys below K and issues below n.
abbrev pub kept_sets : ℕ → ℕ → Place Copy → Place Copy
kept_sets K n p = tabled K none (λ k. tabled n false (p k))

abbrev pub kept_place : ℕ → ℕ → Place BookCopy → Place BookCopy
kept_place K n p =
    tabled K (plain_copy_of none) (λ k. record {
      later = tabled n false (p k).later;
      rows = (p k).rows;
      number = (p k).number;
    })

abbrev pub kept_issue : ℕ → ℕ → Issue → Issue
kept_issue K n e = record {
  writer = e.writer;
  keys = tabled K false e.keys;
  read = kept_sets K n e.read;
  rows = e.rows;
}

abbrev pub kept_branch : ℕ → ℕ → BookBranch → BookBranch
kept_branch K n a = record {
  read = tabled K false a.read;
  snapshot = kept_place K n a.snapshot;
}

abbrev pub kept_run : ℕ → ℕ → BookRun → BookRun
kept_run K n a = record {
  jobs = a.jobs;
  job = a.job;
  branch = kept_branch K n a.branch;
  second = kept_branch K n a.second;
}

abbrev pub kept_book : Book → Book
kept_book b =
    let z = b.counts in
    let K = z.keys in
    let n = length b.history in
    record {
      counts = z;
      base = b.base;
      history = map (kept_issue K n) b.history;
      master = kept_place K n b.master;
      cache = tabled z.sites no_copies (λ o. kept_place K n (b.cache o));
      run = tabled z.runs no_run (λ r. kept_run K n (b.run r));
    }

-- ---- the test

-- A version of key k has the number and the rows of its copy, and its mask, if masks are asked,
-- names who leads in it.
abbrev pub is_copy : Bool → Book → ℕ → Version → BookCopy → Bool
is_copy masks b k v c =
    let z = b.counts in
    let n = counted_copy z.keys b.history b.base c in
    eqb v.issue n.issue && (implies masks
    (eqb v.leaders (mask_below z.writers (leading z.keys b.history k c.later)))
    && all_below z.keys (λ d. all_below z.writers (λ w. eqb (v.past d w) (n.past d w))))

-- Each version of a place is its copy.
abbrev pub are_copies : Bool → Book → Place Version → Place BookCopy → Bool
are_copies masks b p c = all_below b.counts.keys (λ k. is_copy masks b k (p k) (c k))

-- On master, caches and snapshots.
abbrev pub follows : Bool → Store → Book → Bool
follows masks s b =
    are_copies masks b s.master b.master
    && (all_below b.counts.sites (λ o. are_copies masks b (s.site o).cache (b.cache o))
    && all_below b.counts.runs (λ r. all_below 2 (λ n.
    are_copies masks b (branch_of n (s.run r)).snapshot (book_branch n (b.run r)).snapshot)))

-- After each call. The store is written down as its words (crate layout, `store-back`: the same).
abbrev pub followed : Bool → List StoreCall → Store → Book → Bool
followed masks [] s b = true
followed masks (c ∷ cs) s b =
    let x = rule_of c s in
    let t = store_of (store_words (next_store x s)) in
    let d = kept_book (book_step (on c) (is_ok_of x) b) in
    follows masks t d && followed masks cs t d

abbrev pub from-new : Counts → List StoreCall → Bool
from-new z cs = followed true cs (fresh z) (fresh_book z)

-- CR 6: from an admission, where masks are free.
abbrev pub from-admitted : Store → List StoreCall → Bool
from-admitted s cs =
    let b = kept_book (admitted_book s) in
    admissible s && (follows false s b && followed false cs s b)

-- ---- the scripts

-- After `new 2 1 1 1`: an issue of nothing isn't entered. Site 0 takes 0; then 0 and 1 are saved,
-- and 1 needs both saves of 0, being by the same writer: the site takes 0 again with it.
abbrev pub later_script : List StoreCall
later_script = saving 0 ++ saving 1 ++ fetch 0 0 ∷ (saving 1 ++ saving 2 ++ fetch 0 1 ∷ [])

-- CR 10, after `new 2 2 2 1`: 0 is read before the fork, 1 behind it on line 1, which line 0 lacks
-- until they are joined.
abbrev pub forked_script : List StoreCall
forked_script =
    saving 1 ++ saving 2
    ++ (fetch 0 0 ∷ fetch 1 1 ∷ open_run 0 (0 ∷ 1 ∷ 0 ∷ 1 ∷ 2 ∷ 0 ∷ []) ∷ step 0 0 0 ∷ fork 0
    ∷ step 0 1 1 ∷ joining 0 ∷ issue 0 1 1 ∷ [])

pub record Scripted : Type 0 where
  pub later : from-new (counts_of 2 1 1 1) later_script ≡ true
  pub reading : from-new (counts_of 2 2 2 1) reading_script ≡ true
  pub case_a : from-new (counts_of 2 2 2 1) case_a_script ≡ true
  pub longer : from-new (counts_of 3 2 2 2) longer_script ≡ true
  -- CR 3: two rivals lead, until a third has seen both; the merge of a card; a chain through
  -- another sheet.
  pub rivals : from-new (counts_of 1 3 2 1) rival_script ≡ true
  pub seen_first : from-new (counts_of 1 2 2 1) (second_script 1) ≡ true
  pub unseen-first : from-new (counts_of 1 2 2 1) (second_script 0) ≡ true
  pub chained : from-new (counts_of 2 3 1 1) chained_script ≡ true
  pub forked : from-new (counts_of 2 2 2 1) forked_script ≡ true
  -- CR 6: lists aren't chained through another copy's, in a step or an issue (sheet 2 lists 1, and
  -- 1 lists 0 at 2), but its own has all; the writer's past stands behind its next issue, its own
  -- earlier saves don't.
  pub not-chained : from-admitted (listed 0) listed-calls ≡ true
  pub not-followed : from-admitted (listed 0) (step 0 1 0 ∷ issue 0 0 4 ∷ []) ≡ true
  pub in_its-list : from-admitted (listed 2) broken-calls ≡ true
  pub past-listed : from-admitted written (past-calls 1) ≡ true
  pub past-empty : from-admitted written (past-calls 0) ≡ true

pub scripted : Scripted
unfolding any_below all_below only fold_below count_below largest when put_at upto blocks
    test_bit with_bit with_if mask_below closure rounds round exceeds standing dominates present
    join between past_size version_size place_size site_size writer_size run_size master_at
    sites_at writers_at runs_at tail_size tail_at total_of lacking held dependency supersedes
    leads_on merged_leaders larger merge draws draw_set fetch_set fetched unfetchable held_count
    over evict_set evicted barred unentitled step_barred read_masks masks_words pull_set pulled
    fresh planned with_master with_last with_sites with_cache site_with with_marks with_caches
    with_writer with_run with_state with_snapshot with_job_done valid_job refuse unless allowed
    run_cause fetch_cause fetch_done fetch_rule evict_cause evict_done evict_rule listed_job
    listed_count listed_jobs list_valid open_cause opened_run open_done open_rule drop_cause
    drop_done drop_rule job_start fetch_reads prepared_caches unpreparable uses_site sites_merged
    site_caches any_over prepare_cause prepare_caches prepare_snapshot prepare_done prepare_rule
    read_start step_site step_reads step_start step_fetch step_cache step_plan step_pull
    step_snapshot step_moved job_limit off_branch not_ready job_cause step_cause step_broken
    step_done step_rule_of raise_cause issue_cause taken_in rows_set new_past new_version
    issued_master issued_writer saved_store issued_store issued_number issue_done issue_rule
    look_place look_limit look_cause row_numbers look_standing look_numbers look_reply replied
    reply_of rule_of clock_words past_words version_words place_words site_words sites_words
    writer_words writers_words job_words jobs_words run_words runs_words tail_words header_words
    store_words read_clock read_past_of read_version read_place read_site read_writer read_job
    read_jobs read_run read_tail_of counts_in store_of is_ok_of writer_of leads in_past reaches
    held_copy needs_copy meets_copy union held_book merge_book needs_book meets_book read_copy
    shift counted_copy writer_list list_of last_in by_writer counted last_by behind_other leading
    fresh_book with_book_caches with_book_run book_open book_fetch book_evict book_prepare
    book_step_job entry book_issue book_issued book_rule book_ok book_step needs_met causal_cut
    overlapping_cut each_branch every_place same_version stays stays_other moved_keys moved_set
    forked_run fork_cause fork_done fork_rule_of joined_place joined_branch joined_run join_moved
    join_cause join_done join_broken join_rule_of book_fork book_join every_version every_past
    causal_cuts overlapping_cuts master_covers counts_within number_within admissible admit_cause
    admit_reply breaks explain_reply base_of admitted_run admitted_book
scripted = record {
  later = refl;
  reading = refl;
  case_a = refl;
  longer = refl;
  rivals = refl;
  seen_first = refl;
  unseen-first = refl;
  chained = refl;
  forked = refl;
  not-chained = refl;
  not-followed = refl;
  in_its-list = refl;
  past-listed = refl;
  past-empty = refl;
}
