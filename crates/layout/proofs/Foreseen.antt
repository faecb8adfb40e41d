-- A forecast on words: what the scratch holds after it.
-- desk, before: the words of stores. ahead, stopped: those that a forecast leaves. Foreseen,
-- foreseen-words: they are left.
-- Assumes nothing.
use mathlib.Core.Path.{◌≡◌, refl}
use mathlib.Core.List.{List, [], ◌∷◌, ◌++◌}
use Prim.Native.Nat.{ℕ}
use lib.ListN.{replicate}
use Rattle.words.specs.Tests.{any_below, all_below, only}
use Rattle.words.specs.Numbers.{when, count_below, fold_below}
use Rattle.words.specs.Lists.{put_at, upto, blocks}
use Rattle.masks.specs.Mask.{test_bit, with_bit, with_if, mask_below}
use Rattle.reach.specs.Closure.{closure, rounds, round}
use Rattle.clock.specs.Clock.{exceeds, standing, dominates, present, join}
use Rattle.sizes.specs.Bounds.{between, ranged, past_size, version_size, place_size, site_size, writer_size, run_size, master_at, sites_at, writers_at, runs_at, tail_size, tail_at, total_of}
use Rattle.model.specs.Algebra.{lacking}
use Rattle.model.specs.Version.{held, dependency, supersedes, leads_on, merged_leaders, larger, merge}
use Rattle.model.specs.Sets.{draws, draw_set, fetch_set, fetched, unfetchable, pull_set, pulled}
use Rattle.model.specs.Tail.{barred}
use Rattle.model.specs.Store.{site_with, planned, done_reads, with_sites, with_cache, with_run, with_state, with_job_done}
use Rattle.model.specs.Form.{zero_rows, zero_version, leaders_formed, version_formed, place_formed, valid_job, zero_job, zero_branch, free_formed, jobs_formed, masks_formed, mark_formed, snapshot_formed, branches_formed, run_formed, site_formed, rights_formed, tail_formed, well_formed}
use Rattle.model.specs.Allowance.{held_count, over}
use Rattle.model.specs.Marks.{is_stale, stale_mask}
use Rattle.model.specs.Outcome.{answer, refuse, unless, replied, allowed, run_cause}
use Rattle.model.specs.Step.{read_start, step_site, step_reads, step_start, step_fetch, step_cache, step_plan, step_pull, step_snapshot, step_moved, step_barred, job_limit, off_branch, not_ready, job_cause, step_cause, step_broken, step_done, step_rule_of}
use Rattle.model.specs.Calls.Forecast.{undone_at, undone, walk_on, walk, ended_word, ended_numbers, forecast_cause, forecast_walk, forecast_reply}
use Rattle.model.specs.Calls.{ask, forecast, reply_of, rule_of}
use Rattle.layout.specs.Words.{clock_words, past_words, version_words, place_words, site_words, sites_words, writer_words, writers_words, job_words, jobs_words, run_words, runs_words, masks_words, tail_words, header_words, store_words}
use Rattle.layout.specs.Reading.{read_clock, read_past_of, read_version, read_place, read_site, read_writer, read_job, read_jobs, read_run, read_masks, read_tail_of, counts_in, store_of}
use Rattle.layout.specs.Buffer.{written, header_right, shaped, in_form}
use Rattle.layout.specs.Forecast.{foreseen}
use Rattle.layout.specs.Calls.{on, on_store, call_on, leaves}

-- After `new 1 1 1 1`, `open 0 0 0 0`, `step 0 0`, `issue 0 0 1`, `open 0 0 1 0 0 1 0`: an
-- office's shelf, the state, number of jobs, done and read mask of the run, its card.
abbrev words : List ℕ → List ℕ → List ℕ → List ℕ
words shelf status card =
    (1 ∷ 1 ∷ 1 ∷ 1 ∷ 1 ∷ 10 ∷ 13 ∷ 18 ∷ 20 ∷ 59 ∷ []) ++ (1 ∷ 1 ∷ 1 ∷ [])
    ++ shelf ++ (0 ∷ 1 ∷ []) ++ (1 ∷ 1 ∷ [])
    ++ status ++ (0 ∷ 1 ∷ 0 ∷ 0 ∷ 1 ∷ 0 ∷ []) ++ replicate 18 0 ++ card ++ replicate 5 0
    ++ (0 ∷ 1 ∷ 1 ∷ [])

abbrev desk : List ℕ
desk = words (0 ∷ 0 ∷ 0 ∷ []) (1 ∷ 2 ∷ 0 ∷ 0 ∷ []) (0 ∷ 0 ∷ 0 ∷ [])

-- Both jobs are done, and have read the sheet.
abbrev ahead : List ℕ
ahead = words (1 ∷ 1 ∷ 1 ∷ []) (1 ∷ 2 ∷ 3 ∷ 1 ∷ []) (1 ∷ 1 ∷ 1 ∷ [])

-- What is answered with a scratch of n words.
abbrev asked : List ℕ → ℕ → List ℕ
asked l n = answer (call_on (on (ask (forecast n 0))) l)

-- After `new 2 1 2 1`, a save of 0, `fetch 0 0`, a save of 0 and 1, `open 0 0 1 0 1 2 0` and
-- `allow 1 n`: the state, number of jobs, done and read mask of the run, its card.
abbrev others : ℕ → List ℕ → List ℕ → List ℕ
others n status card =
    (2 ∷ 1 ∷ 2 ∷ 1 ∷ 2 ∷ 10 ∷ 18 ∷ 38 ∷ 41 ∷ 91 ∷ []) ++ (2 ∷ 1 ∷ 2 ∷ 2 ∷ 2 ∷ 1 ∷ 2 ∷ 2 ∷ [])
    ++ (1 ∷ 1 ∷ 1 ∷ 0 ∷ 0 ∷ 0 ∷ 0 ∷ 0 ∷ 1 ∷ 2 ∷ []) ++ replicate 9 0 ++ (n ∷ [])
    ++ (2 ∷ 2 ∷ 2 ∷ []) ++ status ++ (0 ∷ 1 ∷ 0 ∷ 1 ∷ 2 ∷ 0 ∷ []) ++ replicate 18 0
    ++ card ++ replicate 10 0 ++ (0 ∷ 3 ∷ 3 ∷ 3 ∷ [])

-- Before, and after job 0 in this state.
abbrev before : ℕ → List ℕ
before n = others n (1 ∷ 2 ∷ 0 ∷ 0 ∷ []) (replicate 8 0)

abbrev stopped : ℕ → ℕ → List ℕ
stopped n state = others n (state ∷ 2 ∷ 1 ∷ 1 ∷ []) ((1 ∷ 1 ∷ 1 ∷ []) ++ replicate 5 0)

-- A scratch of two words more than the total, of the total, and of one less: all 7. A break leaves
-- state 2, a job that is turned down what the one before it left.
pub record Foreseen : Type 0 where
  pub through : asked desk 61 ≡ 6 ∷ []
  pub past : foreseen desk (replicate 61 7) 0 ≡ ahead ++ (7 ∷ 7 ∷ [])
  pub exact : foreseen (desk ++ (8 ∷ [])) (replicate 59 7) 0 ≡ ahead
  pub short : foreseen desk (replicate 58 7) 0 ≡ replicate 58 7
  pub refused : asked desk 58 ≡ 2 ∷ 1 ∷ []
  pub breaks : asked (before 2) 91 ≡ 7 ∷ 1 ∷ 1 ∷ []
  pub broken-run : foreseen (before 2) (replicate 91 7) 0 ≡ stopped 2 2
  pub turned : asked (before 1) 91 ≡ 8 ∷ 1 ∷ 12 ∷ []
  pub open_run_lem : foreseen (before 1) (replicate 91 7) 0 ≡ stopped 1 1

pub foreseen-words : Foreseen
unfolding any_below all_below only fold_below put_at upto blocks test_bit with_bit with_if
    mask_below
    closure rounds round exceeds standing dominates present join between ranged past_size
    version_size place_size site_size writer_size run_size master_at sites_at writers_at runs_at
    tail_size
    tail_at total_of lacking held dependency supersedes leads_on merged_leaders larger merge draws
    draw_set fetch_set fetched unfetchable pull_set pulled planned done_reads with_sites with_cache
    with_run with_state with_job_done zero_rows zero_version leaders_formed version_formed
    place_formed
    valid_job zero_job free_formed jobs_formed rights_formed tail_formed masks_words read_masks
    zero_branch masks_formed mark_formed snapshot_formed branches_formed run_formed site_formed
    well_formed when count_below held_count over is_stale stale_mask site_with answer refuse unless
    allowed run_cause barred step_barred read_start step_site step_reads step_start step_fetch
    step_cache step_plan step_pull step_snapshot step_moved job_limit off_branch not_ready
    job_cause
    step_cause step_broken step_done step_rule_of replied reply_of rule_of clock_words past_words
    version_words place_words site_words sites_words writer_words writers_words job_words
    jobs_words
    run_words runs_words tail_words header_words store_words read_clock read_past_of read_version
    read_place
    read_site read_writer read_job read_jobs read_run read_tail_of counts_in store_of written
    header_right
    shaped in_form on_store call_on leaves undone_at undone walk_on walk ended_word ended_numbers
    forecast_cause forecast_walk forecast_reply foreseen
foreseen-words = record {
  through = refl;
  past = refl;
  exact = refl;
  short = refl;
  refused = refl;
  breaks = refl;
  broken-run = refl;
  turned = refl;
  open_run_lem = refl;
}
