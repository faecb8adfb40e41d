-- `finish` stores the cache with its mark, the branch's snapshot and two masks.
-- Assumes nothing.
-- The first words of the run.
-- The branch's read mask.
-- The cache has taken T.
use mathlib.Core.Path.{◌≡◌, refl, ap, ◌∙◌}
use mathlib.Core.List.{List}
use Prim.Native.Nat.{ℕ, ◌+◌, ◌≤◌, ◌<◌}
use native.Mathlib.Omega.{arith}
use lib.Bits.{bit_or}
use lib.ListN.{length}
use Rattle.sizes.specs.Runs.{snapshot_offset}
use Rattle.model.specs.Step.{step_snapshot}
use Rattle.layout.specs.Reading.{store_of}
use Rattle.layout.specs.Stored.{put_place}
use Rattle.layout.specs.Buffer.{written}
use Rattle.form.proofs.Known.{form-area}
use Rattle.status.proofs.Statuses.{marked-words}
use Rattle.trial.proofs.Known.{run_index, job-low}
use Rattle.trial.proofs.Trials.{branch-at}
use Rattle.trial.proofs.Finds.{found-run, found-site, found-site-at}
use Rattle.step.proofs.Stores.{merge_areas, shelved, site-taken, merged, step_left}
use Rattle.step.proofs.finish.Goals as goal
use Rattle.step.proofs.finish.Goals.{After-read_on-read, After-run_at-at, After-take_keys}

here : (c : After-run_at-at)
    → c.run_at-at.result + snapshot_offset ≤ length c.args.words.now
here c =
    let s = c in
    run_index _ _ _ (found-run _ _ _ _ _ _ _ s.requires).0 _ c.run_at-at.ensures

mask-in : (c : After-read_on-read)
    → c.read_on-read.result < length c.args.words.now
mask-in c =
    let s = c in
    let a = s.args in
    let h = (found-run _ _ _ _ _ _ _ s.requires).0.run in
    rw c.read_on-read.ensures
    (branch-at a.words.now a.z a.r a.n s.requires.form h _ refl).low

fetched : (c : After-take_keys)
    → let a = c.args in
    c.take_keys.new.words
    ≡ written (shelved (store_of a.words.now) a.r a.job a.n) a.words.now
fetched c =
    let s = c in
    let a = s.args in
    site-taken a.words.now a.z a.r a.job a.n a.visit a.trial s.requires _
    c.take_keys.ensures

pub run_at-at-requires : goal.run_at-at-requires
run_at-at-requires c =
    let s = c in
    record {
      ranged = (form-area _ _ s.requires.form).ranged;
      r_lt_runs = (found-run _ _ _ _ _ _ _ s.requires).0.run;
    }

pub read_on-read-requires : goal.read_on-read-requires
read_on-read-requires c =
    let s = c in
    record {
      ranged = (form-area _ _ s.requires.form).ranged;
      r_lt_runs = (found-run _ _ _ _ _ _ _ s.requires).0.run;
    }

pub with_item-jobs_done-requires : goal.with_item-jobs_done-requires
with_item-jobs_done-requires c =
    let s = c in
    let U = found-run _ _ _ _ _ _ _ s.requires in
    omega (arith, job-low _ _ _ U.0 s.args.job U.1)

pub take_keys-requires : goal.take_keys-requires
take_keys-requires c =
    let s = c in
    let a = s.args in (
      s.requires.form,
      rw (found-site-at _ _ _ _ _ _ _ s.requires) (found-site _ _ _ _ _ _ _ s.requires),
    )

pub merge_keys-requires : goal.merge_keys-requires
merge_keys-requires c =
    let n = c in
    let s = n in
    let a = s.args in
    rw n.take_keys.auto.words
    (merge_areas a.words.now a.z a.r a.job a.n a.visit a.trial s.requires)

pub mark_done-requires : goal.mark_done-requires
mark_done-requires c =
    let m = c in
    let n = m in
    let i = n.before.before.before.before in
    rw (m.merge_keys.auto.words ∙ n.take_keys.auto.words) (
      omega (arith, here (goal.at.mark_done-requires c).After-run_at-at),
      mask-in
          (goal.at.mark_done-requires c).After-read_on-read,
    )

pub returns : goal.returns
returns c =
    let d = c in
    let m = d.before.before.before.before.before in
    let n = m.before.before.before.before in
    let i = n in
    let f = i in
    let k = f in
    let s = k in
    let a = s.args in
    let l = a.words.now in
    let v = a.visit in
    let x = store_of l in
    let places : m.merge_keys.new.words
    ≡ put_place a.z (written (shelved x a.r a.job a.n) l) v.snapshot
    (step_snapshot x a.r a.job a.n) =
    m.merge_keys.ensures.merges
    ∙ merged l a.z a.r a.job a.n v a.trial s.requires n.take_keys.new.words
    (fetched (goal.at.returns c).After-take_keys)
    ∙ ap (λ (m : List ℕ). put_place a.z m v.snapshot (step_snapshot x a.r a.job a.n))
    (fetched (goal.at.returns c).After-take_keys) in
    d.mark_done.ensures
    ∙ marked-words m.merge_keys.new.words k.run_at-at.result f.read_on-read.result
    i.with_item-jobs_done.result
    (bit_or v.read v.reads)
    ∙ rw (places, i.with_item-jobs_done.ensures)
    (step_left l a.z a.r a.job a.n v a.trial s.requires k.run_at-at.result
    f.read_on-read.result k.run_at-at.ensures f.read_on-read.ensures)

pub overflow_add-at : goal.overflow_add-at
overflow_add-at c = omega (arith, here (goal.at.overflow_add-at c).After-run_at-at)

pub offset_bounds-words-at : goal.offset_bounds-words-at
offset_bounds-words-at c = omega (arith, here (goal.at.offset_bounds-words-at c).After-run_at-at)

pub bounds-words-at : goal.bounds-words-at
bounds-words-at c = omega (arith, here (goal.at.bounds-words-at c).After-run_at-at)
