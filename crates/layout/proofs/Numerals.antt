-- The header, a run and the tail as numerals, with another number in each field, so that no two
-- can change places: document 01's "Header, 10 words", "A run is ..".
-- Assumes nothing.
use mathlib.Core.Path.{◌≡◌, refl}
use mathlib.Core.List.{[], ◌∷◌}
use Prim.Native.Nat.{◌+◌, ◌*◌}
use Rattle.words.specs.Lists.{blocks}
use Rattle.sizes.specs.Bounds.{counts_of, past_size, version_size, place_size, site_size, writer_size, run_size, master_at, sites_at, writers_at, runs_at, tail_size, tail_at, total_of}
use Rattle.model.specs.Store.{Run}
use Rattle.layout.specs.Words.{clock_words, past_words, version_words, place_words, job_words, jobs_words, run_words, masks_words, tail_words, header_words}

-- K = 1, W = 2, N = 3, P = 4, the last issue number 9.
pub header : header_words (counts_of 1 2 3 4) 9
    ≡ 1 ∷ 2 ∷ 3 ∷ 4 ∷ 9 ∷ 10 ∷ 14 ∷ 32 ∷ 38 ∷ 196 ∷ []
unfolding header_words past_size version_size place_size site_size writer_size run_size master_at
    sites_at
    writers_at runs_at tail_size tail_at total_of
header = refl

abbrev counted : Run
counted = record {
  state = 6;
  jobs = 7;
  done = 8;
  job = λ i. record { site = 3 * i + 10; reads = 3 * i + 11; upstream = 3 * i + 12 };
  branch = record {
    read = 9;
    snapshot = λ k. record { issue = 34; leaders = 35; past = λ d u. 36 };
  };
  mark = 37;
  second = record {
    read = 38;
    snapshot = λ k. record { issue = 39; leaders = 40; past = λ d u. 41 };
  };
}

-- State, jobs, done mask, read mask, 8 jobs, the card; the mark, the second read mask and card.
pub run : run_words (counts_of 1 1 1 1) counted
    ≡ 6 ∷ 7 ∷ 8 ∷ 9
    ∷ 10 ∷ 11 ∷ 12 ∷ 13 ∷ 14 ∷ 15 ∷ 16 ∷ 17 ∷ 18 ∷ 19 ∷ 20 ∷ 21
    ∷ 22 ∷ 23 ∷ 24 ∷ 25 ∷ 26 ∷ 27 ∷ 28 ∷ 29 ∷ 30 ∷ 31 ∷ 32 ∷ 33
    ∷ 34 ∷ 35 ∷ 36
    ∷ 37 ∷ 38 ∷ 39 ∷ 40 ∷ 41 ∷ []
unfolding run_words jobs_words job_words place_words version_words past_words clock_words blocks
run = refl

-- The round, the masks of three offices, those of two writers.
pub tail : tail_words (counts_of 1 2 3 4)
    (record { round = 6; may_hold = λ o. o + 7; may_save = λ w. w + 10 })
    ≡ 6 ∷ 7 ∷ 8 ∷ 9 ∷ 10 ∷ 11 ∷ []
unfolding tail_words masks_words blocks
tail = refl
