-- The listing computed: texts that are read back, and lines.
-- read-back: each call in range. lines: of the examples, as bytes.
-- Assumes nothing.
use mathlib.Core.Path.{◌≡◌, refl, ap}
use mathlib.Core.List.{List, [], ◌∷◌, map}
use mathlib.Core.Option.{none, some}
use lib.ListN.{get_or, drop}
use Rattle.text.specs.Bytes.{bytes_of, same_bytes}
use Rattle.text.specs.Decimal.{digits_of_at, decimal_of}
use Rattle.text.specs.Fields.{in_first_of, fields_of, digits_only, value_from, is_empty, number_of, number_before, numbers_of}
use Rattle.print.specs.Print.{answer_word, numbers_text, answer_body}
use Rattle.lines.specs.Grammar.{form_of, takes, calling, asked, fields_call, line_call}
use Rattle.words.specs.Tests.{any_below, all_below, only}
use Rattle.words.specs.Numbers.{when, count_below, fold_below}
use Rattle.words.specs.Lists.{put_at, upto, blocks}
use Rattle.masks.specs.Mask.{test_bit, with_bit, with_if, mask_below}
use Rattle.reach.specs.Closure.{closure, rounds, round}
use Rattle.clock.specs.Clock.{exceeds, standing, dominates, present, join}
use Rattle.sizes.specs.Bounds.{between, ranged, past_size, version_size, place_size, site_size, writer_size, run_size, master_at, sites_at, writers_at, runs_at, tail_size, tail_at, total_of}
use Rattle.model.specs.Algebra.{lacking}
use Rattle.model.specs.Version.{held, dependency, supersedes, leads_on, merged_leaders, larger, merge}
use Rattle.model.specs.Sets.{draws, draw_set, fetch_set, fetched, unfetchable, evict_set, evicted, pull_set, pulled}
use Rattle.model.specs.Tail.{barred}
use Rattle.model.specs.Store.{fresh, site_with, with_marks, planned, done_reads, with_master, with_last, with_sites, with_cache, with_caches, with_writer, with_run, with_state, with_snapshot, with_job_done}
use Rattle.model.specs.Allowance.{held_count, over}
use Rattle.model.specs.Form.{zero_rows, zero_version, leaders_formed, version_formed, place_formed, valid_job, zero_job, zero_branch, free_formed, jobs_formed, masks_formed, mark_formed, snapshot_formed, branches_formed, run_formed, site_formed, rights_formed, tail_formed, well_formed}
use Rattle.model.specs.Marks.{is_stale, stale_mask}
use Rattle.model.specs.Outcome.{answer, refuse, unless, allowed, run_cause}
use Rattle.model.specs.Caches.{fetch_cause, fetch_done, fetch_rule, evict_cause, evict_done, evict_rule}
use Rattle.model.specs.Runs.{listed_job, listed_count, listed_jobs, list_valid, open_cause, opened_run, open_done, open_rule, drop_cause, drop_done, drop_rule}
use Rattle.model.specs.Step.{read_start, step_site, step_reads, step_start, step_fetch, step_cache, step_plan, step_pull, step_snapshot, step_moved, step_barred, job_limit, off_branch, not_ready, job_cause, step_cause, step_broken, step_done, step_rule_of}
use Rattle.model.specs.Issue.{raise_cause, issue_cause, taken_in, rows_set, new_past, new_version, issued_master, issued_writer, saved_store, issued_store, issued_number, issue_done, issue_rule}
use Rattle.model.specs.Calls.{StoreCall, open_run, fetch, step, issue, drop_run, rule_of}
use Rattle.layout.specs.Words.{clock_words, past_words, version_words, place_words, site_words, sites_words, writer_words, writers_words, job_words, jobs_words, run_words, runs_words, masks_words, tail_words, header_words, store_words}
use Rattle.layout.specs.Reading.{read_clock, read_past_of, read_version, read_place, read_site, read_writer, read_job, read_jobs, read_run, read_masks, read_tail_of, counts_in, store_of}
use Rattle.layout.specs.Buffer.{written, header_right, shaped, in_form}
use Rattle.layout.specs.Calls.{on, new_cause, new_on, on_store, call_on, leaves, outcomes, after}
use Rattle.listing.specs.Scripts.{firsts, rows, AllOf}
use Rattle.listing.specs.Calls.{one_job, calls, InRange, kind_of, arguments_of}
use Rattle.listing.specs.Lines.{kind_word, call_text, joined_on, joined, desk_in, answers_in, answers_of, history_line}
use Rattle.listing.proofs.Members.{all_in, calls-all}

-- ---- texts

-- Each of the 26 texts asks for its call.
texts-read : map (λ c. line_call (call_text c)) (calls 2 2 2) ≡ map (λ c. some (on c)) (calls 2 2
    2)
unfolding calls rows firsts kind_word call_text kind_of arguments_of numbers_text decimal_of
    digits_of_at
    line_call fields_call fields_of in_first_of asked form_of same_bytes takes calling numbers_of
    number_before number_of is_empty digits_only value_from
texts-read = refl

map_same : {A B : Type 0} (f g : A → B) (d : B) (l : List A) → map f l ≡ map g l
    → AllOf (λ x. f x ≡ g x) l
unfolding AllOf
map_same f g d [] e = tt
map_same {B = B} f g d (x ∷ xs) e =
    (ap (λ (l : List B). get_or l 0 d) e, map_same f g d xs (ap (drop 1) e))

pub read_back : (c : StoreCall) → InRange 2 2 2 c → line_call (call_text c) ≡ some (on c)
read_back c p =
    all_in (λ c. line_call (call_text c) ≡ some (on c)) (calls 2 2 2)
    (map_same (λ c. line_call (call_text c)) (λ c. some (on c)) none (calls 2 2 2) texts-read) c
    ((calls-all 2 2 2 c).1 p)

-- ---- lines

pub lines :
    (history_line (fetch 0 0 ∷ []) ≡ bytes_of "fetch 0 0: refused 7")
    × (history_line (drop_run 0 ∷ []) ≡ bytes_of "drop 0: refused 4")
    × (history_line (fetch 0 0 ∷ fetch 0 0 ∷ [])
    ≡ bytes_of "fetch 0 0; fetch 0 0: refused 7; refused 7")
    × (history_line (fetch 0 0 ∷ open_run 0 (one_job 1 3) ∷ [])
    ≡ bytes_of "fetch 0 0; open 0 1 3 0: refused 7; ok 1")
    × (history_line (open_run 0 (one_job 1 3) ∷ step 0 0 0 ∷ [])
    ≡ bytes_of "open 0 1 3 0; step 0 0: ok 1; refused 7")
    × (history_line (open_run 0 (one_job 0 0) ∷ step 0 0 0 ∷ issue 0 0 3 ∷ [])
    ≡ bytes_of "open 0 0 0 0; step 0 0; issue 0 0 3: ok 1; ok 0 0 0; ok 1")
    × (history_line (drop_run 0 ∷ drop_run 0 ∷ drop_run 0 ∷ [])
    ≡ bytes_of "drop 0; drop 0; drop 0: refused 4; refused 4; refused 4")
unfolding any_below all_below only when count_below held_count over fold_below put_at upto blocks
    test_bit with_bit with_if mask_below closure rounds round exceeds standing dominates present
    join between ranged past_size version_size place_size site_size writer_size run_size master_at
    sites_at writers_at runs_at tail_size tail_at total_of lacking held dependency supersedes
    leads_on merged_leaders larger merge draws draw_set fetch_set fetched unfetchable evict_set
    evicted pull_set pulled fresh planned done_reads with_master with_last with_sites with_cache
    with_caches with_writer with_run with_state with_snapshot with_job_done zero_rows zero_version
    leaders_formed version_formed place_formed valid_job zero_job free_formed jobs_formed
    masks_formed zero_branch mark_formed snapshot_formed branches_formed run_formed site_formed
    rights_formed tail_formed well_formed off_branch
    is_stale stale_mask site_with barred step_barred masks_words read_masks
    with_marks answer refuse unless allowed run_cause fetch_cause fetch_done fetch_rule
    evict_cause evict_done evict_rule listed_job listed_count listed_jobs list_valid open_cause
    opened_run open_done open_rule drop_cause drop_done drop_rule read_start step_site step_reads
    step_start step_fetch step_cache step_plan step_pull step_snapshot step_moved job_limit
    not_ready
    job_cause step_cause step_broken step_done step_rule_of raise_cause issue_cause taken_in
    rows_set
    new_past new_version issued_master issued_writer saved_store issued_store issued_number
    issue_done issue_rule rule_of clock_words past_words version_words place_words site_words
    sites_words writer_words writers_words job_words jobs_words run_words runs_words tail_words
    header_words store_words read_clock read_past_of read_version read_place read_site read_writer
    read_job read_jobs read_run read_tail_of counts_in store_of written header_right shaped in_form
    new_cause new_on on_store call_on leaves outcomes after history_line answers_of answers_in
    desk_in joined joined_on kind_word call_text answer_body kind_of arguments_of numbers_text
    answer_word decimal_of digits_of_at
lines = (refl, refl, refl, refl, refl, refl, refl)
