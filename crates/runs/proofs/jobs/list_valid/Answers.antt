-- `list_valid` tests length, number and jobs, in this order.
-- Assumes nothing.
-- There are 1 to 8 jobs.
use mathlib.Core.Path.{◌≡◌, sym, ◌∙◌}
use mathlib.Core.Bool.{true}
use Prim.Native.Nat.{◌/◌}
use borrow.Author.Rules.{rules}
use native.Mathlib.Omega.{arith}
use lib.ListN.{length}
use Rattle.words.proofs.Bools.{eq-eqb, ne_eqb}
use Rattle.sizes.specs.Bounds.{between}
use Rattle.sizes.specs.Runs.{max_jobs, job_size}
use Rattle.sizes.proofs.Offsets.{between-out}
use Rattle.model.specs.Runs.{listed_count, list_valid}
use Rattle.runs.proofs.jobs.list_valid.Goals as goal
use Rattle.runs.proofs.jobs.list_valid.Goals.{Else-not-is_between}

enough : (c : Else-not-is_between) → let l = c.args.jobs.now in
    between max_jobs (length l / job_size) ≡ true
enough c = sym c.is_between.ensures ∙ c.if-not-is_between.false

pub overflow_mul-n : goal.overflow_mul-n
overflow_mul-n c = search rules

pub returns-then-jobs-n : goal.returns-then-jobs-n
unfolding list_valid listed_count
returns-then-jobs-n c = rw (ne_eqb _ _ c.if-jobs-n.true)

pub is_between-requires : goal.is_between-requires
is_between-requires c = search rules

pub returns-then-not-is_between : goal.returns-then-not-is_between
unfolding list_valid listed_count
returns-then-not-is_between c =
    let few = sym c.is_between.ensures ∙ c.if-not-is_between.true in
    rw (eq-eqb _ _ c.if-jobs-n.false, few)

pub each_valid-requires : goal.each_valid-requires
each_valid-requires c =
    let range = between-out max_jobs _ (enough (goal.at.each_valid-requires
    c).Else-not-is_between) in
    record {
      ranged = c.requires;
      n_le_max_jobs = (range.1, omega arith);
    }

pub returns : goal.returns
unfolding list_valid listed_count
returns c =
    rw (eq-eqb _ _ c.if-jobs-n.false, enough (goal.at.returns c).Else-not-is_between)
    c.each_valid.ensures
