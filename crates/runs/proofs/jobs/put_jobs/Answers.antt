-- `put_jobs` stores state and number of jobs, and copies the list.
-- Assumes nothing.
use mathlib.Core.Path.{refl, ap, ◌∙◌}
use Prim.Native.Nat.{ℕ}
use native.Mathlib.Nat.{zero-add}
use native.Mathlib.Omega.{arith}
use lib.ListN.{length, get_or, length-set}
use Rattle.words.proofs.Words.{length-put, put_same}
use Rattle.model.specs.Runs.{listed_count}
use Rattle.runs.specs.Runs.{put_jobs}
use Rattle.runs.proofs.jobs.put_jobs.Goals as goal

pub bounds-words-at-2 : goal.bounds-words-at-2
bounds-words-at-2 c = rw length-set (omega arith)

pub copy_from-requires : goal.copy_from-requires
copy_from-requires c = rw (length-set, length-set) (omega arith)

pub shape_of-words : goal.shape_of-words
shape_of-words c =
    ap length c.copy_from.ensures ∙ rw (length-put, length-set, length-set)

pub returns : goal.returns
unfolding put_jobs listed_count
returns c =
    let jobs = c.args.jobs.now in record {
      number = refl;
      stores = c.copy_from.ensures
          ∙ put_same _ _ (length jobs) _ (λ i. get_or jobs i 0)
          (λ i _. ap (λ (k : ℕ). get_or jobs k 0) (zero-add i));
    }
