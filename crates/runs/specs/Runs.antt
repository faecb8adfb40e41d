-- What open stores over a free run.
-- Assumes nothing.
use Rattle.std.specs.Prelude.{List, ℕ, ◌+◌, length, get_or, set}
use Rattle.words.specs.Words.{put}
use Rattle.sizes.specs.Runs.{jobs_offset, plan_offset}
use Rattle.model.specs.Outcome.{open_state}
use Rattle.model.specs.Runs.{listed_count}

-- State, number of jobs, and the words of the list.
unfoldable pub put_jobs : List ℕ → ℕ → List ℕ → List ℕ
put_jobs l at jobs =
    put (set (set l at open_state) (at + jobs_offset) (listed_count jobs)) (at + plan_offset)
    (length jobs) (λ i. get_or jobs i 0)
