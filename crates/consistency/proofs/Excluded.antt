-- What the claim excludes: pairs of reads that are no snapshot, choices that don't work; and what
-- finished jobs have read, computed for a script of two jobs.
-- Assumes nothing.
use mathlib.Core.Path.{◌≡◌, refl, ap}
use mathlib.Core.Bool.{false, So, cond, false≢true}
use mathlib.Core.Logic.{◌≢◌}
use mathlib.Core.List.{List, [], ◌∷◌, ◌++◌, map}
use Prim.Native.Nat.{ℕ, zero, suc, ◌<◌}
use native.Mathlib.Omega.{arith}
use lib.Dec.{eqb}
use lib.ListN.{replicate}
use Rattle.words.specs.Tests.{none, any_below, all_below, only}
use Rattle.words.specs.Numbers.{fold_below, count_below, largest, when}
use Rattle.words.specs.Lists.{put_at, upto, blocks}
use Rattle.words.proofs.Bools.{clash}
use Rattle.masks.specs.Mask.{test_bit, with_bit, with_if, mask_below}
use Rattle.reach.specs.Closure.{closure, rounds, round}
use Rattle.clock.specs.Clock.{exceeds, standing, dominates, present, join}
use Rattle.sizes.specs.Bounds.{counts_of, between, ranged, past_size, version_size, place_size, site_size, writer_size, run_size, master_at, sites_at, writers_at, runs_at, tail_size, tail_at, total_of}
use Rattle.model.specs.Algebra.{Place, lacking, needs_met}
use Rattle.model.specs.Version.{Version, zero_past, held, dependency, supersedes, leads_on, merged_leaders, larger, merge, versions}
use Rattle.model.specs.Sets.{draws, draw_set, fetch_set, fetched, unfetchable, pull_set, pulled}
use Rattle.model.specs.Tail.{barred}
use Rattle.model.specs.Store.{Store, fresh, planned, done_reads, site_with, with_master, with_last, with_marks, with_sites, with_cache, with_caches, with_writer, with_run, with_state, with_job_done}
use Rattle.model.specs.Form.{zero_rows, zero_version, leaders_formed, version_formed, place_formed, valid_job, zero_job, zero_branch, free_formed, jobs_formed, masks_formed, mark_formed, snapshot_formed, branches_formed, run_formed, site_formed, rights_formed, tail_formed, well_formed}
use Rattle.model.specs.Allowance.{held_count, over}
use Rattle.model.specs.Marks.{is_stale, stale_mask}
use Rattle.model.specs.Outcome.{answer, refuse, unless, allowed, run_cause}
use Rattle.model.specs.Runs.{listed_job, listed_count, listed_jobs, list_valid, open_cause, opened_run, open_done, open_rule, drop_cause, drop_done, drop_rule}
use Rattle.model.specs.Step.{read_start, step_branch, step_site, step_reads, step_start, step_fetch, step_cache, step_plan, step_pull, step_snapshot, step_moved, step_barred, job_limit, off_branch, not_ready, job_cause, step_cause, step_broken, step_done, step_rule_of}
use Rattle.model.specs.Issue.{raise_cause, issue_cause, taken_in, rows_set, new_past, new_version, issued_master, issued_writer, saved_store, issued_store, issued_number, issue_done, issue_rule}
use Rattle.model.specs.Calls.{open_run, step, issue, drop_run, rule_of}
use Rattle.model.proofs.Cuts.{needs_met-at}
use Rattle.layout.specs.Words.{clock_words, past_words, version_words, place_words, site_words, sites_words, writer_words, writers_words, job_words, jobs_words, run_words, runs_words, masks_words, tail_words, header_words, store_words}
use Rattle.layout.specs.Reading.{read_clock, read_past_of, read_version, read_place, read_site, read_writer, read_job, read_jobs, read_run, read_masks, read_tail_of, counts_in, store_of}
use Rattle.layout.specs.Buffer.{written, header_right, shaped, in_form}
use Rattle.layout.specs.Calls.{Call, on, new_cause, new_on, on_store, call_on, leaves, is_ok_of}
use Rattle.history.specs.History.{History, writer_of, saved, leads, in_past, HappensBefore.together}
use Rattle.history.specs.Copies.{Copy, reaches, held_copy, needs_copy, meets_copy, union, last_in, by_writer, counted}
use Rattle.history.specs.Listing.{no_base, plain_copy_of, held_book, merge_book, needs_book, meets_book, read_copy, shift, counted_copy}
use Rattle.history.specs.Lists.{writer_list, list_of}
use Rattle.history.specs.Book.{fresh_book, with_book_caches, with_book_run, book_open, book_step_job, entry, book_issue, book_issued, book_rule, book_ok, book_step}
use Rattle.consistency.specs.Roles.{role_of}
use Rattle.consistency.specs.Trace.{ReadSet, Trace, start, read_now, finish_by, finish, advance, follow}
use Rattle.consistency.specs.Claim.{Snapshot, Pick, Pick.of_snapshot, Pick.of_cache, pick_of, chosen, Works}

-- ---- choices: which work, and which don't

module _ (s : Store) (r j n : ℕ) (pick : ℕ → Pick) where
  abbrev K : ℕ
  K = s.counts.keys

  abbrev W : ℕ
  W = s.counts.writers

  abbrev choice : Place Version
  choice = chosen s r j n pick

  -- It "holds all that the job reads, leaves the sheets already read as they were and meets every
  -- need among the plan's sheets".
  pub works-by : ((k : ℕ) → k < K → So (step_reads s r j n k) → So (held (choice k)))
      → ((k : ℕ) → k < K → So (test_bit (step_branch s r j n).read k)
      → choice k ≡ (step_branch s r j n).snapshot k)
      → So (needs_met (versions W) K (step_plan s r j n) choice) → Works s r j n pick
  works-by h k m = record { holds = h; keeps = k; meets = m }

  -- One that lacks a read doesn't work,
  pub lacking-fails : (k : ℕ) → k < K → So (step_reads s r j n k) → held (choice k) ≡ false
      → ¬ (Works s r j n pick)
  lacking-fails k l p f w = clash (w.holds k l p) f

  -- nor one that moves a sheet that was read,
  pub moving_fails : (k : ℕ) → k < K → So (test_bit (step_branch s r j n).read k)
      → (choice k).issue ≢ ((step_branch s r j n).snapshot k).issue → ¬ (Works s r j n pick)
  moving_fails k l p f w = f (ap (λ v. v.issue) (w.keeps k l p))

  -- nor one that leaves a need among the plan's sheets unmet.
  pub unmet-fails : (k d : ℕ) → k < K → d < K → So (step_plan s r j n k) → So (step_plan s r j n d)
      → So (held (choice k)) → So (dependency W k (choice k) d)
      → supersedes W d (choice d) ((choice k).past d) ≡ false → ¬ (Works s r j n pick)
  unmet-fails k d lk ld pk pd h c u w =
      clash (needs_met-at (versions W) K (step_plan s r j n) choice w.meets k d lk ld pk pd h c) u

  -- A choice of the card's version.
  snapshot-kept : (k : ℕ) → So (step_plan s r j n k) → pick k ≡ of_snapshot
      → choice k ≡ (step_branch s r j n).snapshot k
  unfolding chosen pick_of
  snapshot-kept k p e = rw (p, e)

-- ---- a script of two jobs, after `new 2 1 1 2`

-- Run 1, which has read nothing, saves the sheets of S.
abbrev saving : ℕ → List Call
saving S = on (open_run 1 (0 ∷ 0 ∷ 0 ∷ [])) ∷ on (step 1 0 0) ∷ on (issue 1 0 S) ∷ []

-- Sheet 0 is saved, and job 0 of run 0 reads it; then the sheets of S are saved.
abbrev before : ℕ → Trace
before S =
    let jobs = on (open_run 0 (0 ∷ 1 ∷ 0 ∷ 0 ∷ 2 ∷ 0 ∷ [])) in
    follow (saving 1 ++ (jobs ∷ on (step 0 0 0) ∷ saving S))
    (start (counts_of 2 1 1 2) (replicate (total_of (counts_of 2 1 1 2)) 0))

-- Job 1 of run 0 reads sheet 1.
abbrev after-job : ℕ → Trace
after-job S = follow (on (step 0 1 0) ∷ []) (before S)

-- The store at which it is stepped, and a choice: the card's sheet 0, the shelf's sheet 1.
abbrev store : ℕ → Store
store S = store_of (before S).buffer

abbrev older : ℕ → Pick
older k = cond (eqb k 0) of_snapshot of_cache

-- The sheets read, then for each of the two sheets the issue number and the copy, as a mask.
abbrev seen : ReadSet → List ℕ
seen x =
    mask_below 2 x.keys ∷ (x.version 0).issue ∷ mask_below 2 (x.copy 0).later
    ∷ (x.version 1).issue ∷ mask_below 2 (x.copy 1).later ∷ []

pub record Computed : Type 0 where
  -- Each job has read its sheets as its own step left the card, the last one first.
  pub both : map seen ((after-job 2).finished 0)
      ≡ (2 ∷ 1 ∷ 1 ∷ 2 ∷ 2 ∷ []) ∷ (1 ∷ 1 ∷ 1 ∷ 0 ∷ 0 ∷ []) ∷ []
  -- A step that breaks its run has read nothing.
  pub breaks : answer (call_on (on (step 0 1 0)) (before 3).buffer) ≡ 1 ∷ 1 ∷ []
  pub one : map seen ((after-job 3).finished 0) ≡ (1 ∷ 1 ∷ 1 ∷ 0 ∷ 0 ∷ []) ∷ []
  -- A run that was freed has no finished jobs.
  pub issued : map seen ((after-job 2).finished 1) ≡ []
  pub dropped : map seen ((follow (on (drop_run 0) ∷ []) (after-job 2)).finished 0) ≡ []
  -- After sheet 1 alone was saved that choice works. After both were, sheet 1 needs the newer
  -- sheet 0: the choice leaves this need unmet, one moves the sheet that was read, one lacks a
  -- read.
  pub works : Works (store 2) 0 1 0 older
  pub unmet : ¬ (Works (store 3) 0 1 0 older)
  pub moves : ¬ (Works (store 3) 0 1 0 (λ k. of_cache))
  pub lacks : ¬ (Works (store 3) 0 1 0 (λ k. of_snapshot))

pub computed : Computed
unfolding any_below all_below only fold_below count_below largest when put_at upto blocks test_bit
    with_bit with_if mask_below closure rounds round exceeds standing dominates present join
    between ranged past_size version_size place_size site_size writer_size run_size master_at
    sites_at
    writers_at runs_at tail_size tail_at total_of lacking held dependency supersedes leads_on
    merged_leaders larger merge draws draw_set fetch_set fetched unfetchable held_count over
    pull_set pulled fresh barred step_barred rights_formed tail_formed masks_words read_masks
    planned done_reads with_master with_last site_with with_marks with_caches with_sites with_cache
    with_writer with_run with_state is_stale stale_mask site_formed with_job_done zero_rows
    zero_version
    leaders_formed version_formed place_formed valid_job zero_job free_formed jobs_formed
    masks_formed
    zero_branch mark_formed snapshot_formed branches_formed run_formed well_formed answer refuse
    unless
    allowed run_cause listed_job
    listed_count listed_jobs list_valid open_cause opened_run open_done open_rule drop_cause
    drop_done
    drop_rule read_start step_site step_reads step_start step_fetch step_cache step_plan step_pull
    step_snapshot step_moved job_limit off_branch not_ready job_cause step_cause step_broken
    step_done
    step_rule_of
    raise_cause issue_cause taken_in rows_set new_past new_version issued_master issued_writer
    saved_store issued_store issued_number issue_done issue_rule rule_of clock_words past_words
    version_words place_words site_words sites_words writer_words writers_words job_words
    jobs_words
    run_words runs_words tail_words header_words store_words read_clock read_past_of read_version
    read_place
    read_site read_writer read_job read_jobs read_run read_tail_of counts_in store_of written
    header_right
    shaped in_form new_cause new_on on_store call_on leaves is_ok_of writer_of leads in_past
    reaches
    held_copy needs_copy meets_copy union held_book merge_book needs_book meets_book read_copy
    shift
    counted_copy writer_list list_of last_in by_writer counted fresh_book with_book_caches
    with_book_run
    book_open book_step_job entry book_issue book_issued book_rule book_ok book_step start read_now
    role_of finish_by finish advance follow needs_met pick_of chosen
computed = record {
  both = refl;
  breaks = refl;
  one = refl;
  issued = refl;
  dropped = refl;
  works = works-by (store 2) 0 1 0 older holds keeps refl;
  unmet = unmet-fails (store 3) 0 1 0 older 1 0 one-low zero-low refl refl refl refl refl;
  moves = moving_fails (store 3) 0 1 0 (λ k. of_cache) 0 zero-low refl two-one;
  lacks = lacking-fails (store 3) 0 1 0 (λ k. of_snapshot) 1 one-low refl refl;
}
  where
    zero-low : 0 < 2
    zero-low = omega arith

    one-low : 1 < 2
    one-low = omega arith

    two-one : ◌≡◌ {A = ℕ} 2 1 → ⊥
    two-one e = absurd (omega (arith, e))

    holds : (k : ℕ) → k < 2 → So (step_reads (store 2) 0 1 0 k)
        → So (held (chosen (store 2) 0 1 0 older k))
    holds zero l p = absurd (false≢true p)
    holds (suc zero) l p = refl
    holds (suc (suc k)) l p = absurd (omega (arith, l))

    keeps : (k : ℕ) → k < 2 → So (test_bit (step_branch (store 2) 0 1 0).read k)
        → chosen (store 2) 0 1 0 older k ≡ (step_branch (store 2) 0 1 0).snapshot k
    keeps zero l p = snapshot-kept (store 2) 0 1 0 older 0 refl refl
    keeps (suc zero) l p = absurd (false≢true p)
    keeps (suc (suc k)) l p = absurd (omega (arith, l))

-- ---- two pairs of reads

-- By one writer: sheet 0, then sheets 0 and 1.
abbrev two-issues : History
two-issues =
    record { writer = 0; keys = test_bit 3; read = λ d. none; rows = zero_past }
    ∷ record { writer = 0; keys = test_bit 1; read = λ d. none; rows = zero_past } ∷ []

-- A job that has read the sheets of the mask S, each in the version of copy c.
abbrev having_read : ℕ → Copy → ReadSet
having_read S c =
    let n = counted 2 two-issues c in
    let v : Version = record { issue = n.issue; leaders = 1; past = n.past } in
    record { keys = test_bit S; version = λ k. v; copy = λ k. plain_copy_of c; on = only 0 }

-- One sheet in two versions: sheet 0 as the first issue left it, and as the second did.
pub two-versions : ¬ (Snapshot 2 1 two-issues no_base (having_read 1 (only 0))
    (having_read 1 (test_bit 3)))
unfolding test_bit only largest when last_in counted
two-versions x =
    let e : ◌≡◌ {A = ℕ} 1 2 = ap (λ v. v.issue) (x.one-version 0 (omega arith) refl refl) in
    absurd (omega (arith, e))

-- Sheet 1 of the second issue, and by another job alone sheet 0 without that issue's save.
pub missing-write : ¬
    (Snapshot 2 1 two-issues no_base (having_read 2 (only 1)) (having_read 1 (only 0)))
unfolding test_bit only saved
missing-write x =
    false≢true (x.included 1 1 0 1 (omega arith) (omega arith) refl refl refl
    (together {d = 0} {e = 1} {i = 1} (omega arith) refl refl (λ e. omega (arith, e))))
