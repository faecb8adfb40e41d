-- Parts of a store in a buffer, for the contracts of the tests.
-- job_of: a job of three numbers. job_formed: what is asked of one job.
-- reads_of: what some jobs read. site_test, run_test: what is asked of a site, of a run.
-- RunArea, StoreArea: where a part lies. FormWith: a buffer in form.
-- Assumes nothing.
use Rattle.std.specs.Prelude.{◌≡◌, Bool, cond, List, ℕ, ◌+◌, ◌≤◌, ◌<◌, ltb}
use Rattle.std.proofs.Math.Bool.{So}
use Rattle.words.specs.Numbers.{when}
use Rattle.masks.specs.Mask.{test_bit, union_below}
use Rattle.sizes.specs.Bounds.{place_limit, Ranged, run_size, total_of, master_at, site_at, may_hold_at, run_at_of}
use Rattle.sizes.specs.declared.Counts.{Counts}
use Rattle.model.specs.Store.{Job}
use Rattle.model.specs.Form.{valid_job, zero_job, site_formed, run_formed}
use Rattle.layout.specs.Reading.{read_word_of, read_place, read_site, read_run, counts_in}
use Rattle.layout.specs.Buffer.{in_form}

abbrev pub job_of : ℕ → ℕ → ℕ → Job
job_of a b c = record { site = a; reads = b; upstream = c }

-- Job i of a run of n jobs: valid, or beyond them and without words.
unfoldable pub job_formed : Counts → ℕ → ℕ → Job → Bool
job_formed z n i j = cond (ltb i n) (valid_job z i j) (zero_job j)

-- The union of what the jobs of a mask read, of the first n.
unfoldable pub reads_of : ℕ → (ℕ → Job) → ℕ → ℕ
reads_of n job mask = union_below n (λ j. when (test_bit mask j) (job j).reads)

-- What is asked of site o, and of run r.
abbrev pub site_test : Counts → List ℕ → ℕ → Bool
site_test z l o =
    site_formed z (read_place z l (master_at z)) (read_word_of l (may_hold_at z o))
    (read_site z l (site_at z o))

abbrev pub run_test : Counts → List ℕ → ℕ → Bool
run_test z l r = run_formed z (read_run z l (run_at_of z r))

-- ---- where a part lies in a buffer of len words

-- The run at an index.
pub record RunArea (len : ℕ) (z : Counts) (at : ℕ) : Type 0 where
  pub ranged : Ranged z
  pub low : at + run_size z < place_limit
  pub fits : at + run_size z ≤ len

-- The whole store.
pub record StoreArea (len : ℕ) (z : Counts) : Type 0 where
  pub ranged : Ranged z
  pub fits : total_of z ≤ len

-- A buffer in form, and the counts in its header.
pub record FormWith (l : List ℕ) (z : Counts) : Type 0 where
  pub form : So (in_form l)
  pub counts : z ≡ counts_in l
