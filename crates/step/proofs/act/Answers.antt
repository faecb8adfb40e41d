-- `act` breaks the run where C has a key that was read, and finishes the job where it has none.
-- Assumes nothing.
-- The first words of the run.
-- ---- broken
-- ---- done
use mathlib.Core.Path.{ap, ◌∙◌}
use Prim.Native.Nat.{ℕ, ◌+◌, ◌≤◌}
use native.Mathlib.Omega.{arith}
use lib.ListN.{length, set}
use Rattle.sizes.specs.Runs.{snapshot_offset}
use Rattle.model.specs.Outcome.{broken_state}
use Rattle.form.proofs.Known.{form-area}
use Rattle.status.proofs.Statuses.{spoiled-words}
use Rattle.trial.proofs.Known.{run_index}
use Rattle.trial.proofs.Finds.{found-run}
use Rattle.step.proofs.Steps.{step-broken, step-done}
use Rattle.step.proofs.act.Goals as goal
use Rattle.step.proofs.act.Goals.{After-run_at-at}

here : (c : After-run_at-at)
    → c.run_at-at.result + snapshot_offset ≤ length c.args.words.now
here c =
    let s = c in
    run_index _ _ _ (found-run _ _ _ _ _ _ _ s.requires).0 _ c.run_at-at.ensures

pub run_at-at-requires : goal.run_at-at-requires
run_at-at-requires c =
    let s = c in
    record {
      ranged = (form-area _ _ s.requires.form).ranged;
      r_lt_runs = (found-run _ _ _ _ _ _ _ s.requires).0.run;
    }

pub returns-then-moved-ne0 : goal.returns-then-moved-ne0
returns-then-moved-ne0 c =
    let b = c in
    let i = b in
    let n = i in
    let s = n in
    let a = s.args in
    let l = a.words.now in
    let r = step-broken l a.z a.r a.job a.n a.visit a.trial s.requires b.mark_broken.new.words
    i.if-moved-ne0.true (b.mark_broken.ensures ∙ spoiled-words l n.run_at-at.result ∙ ap (λ
    (at : ℕ). set l at broken_state) n.run_at-at.ensures) in
    record { answers = r.0; leaves = r.1 }

pub returns : goal.returns
returns c =
    let f = c in
    let i = f in
    let s = i in
    let a = s.args in
    let r = step-done a.words.now a.z a.r a.job a.n a.visit a.trial s.requires f.finish.new.words
    i.if-moved-ne0.false f.finish.ensures in
    rw c.divided.ensures
    (record { answers = r.0; leaves = r.1 })

pub mark_broken-requires : goal.mark_broken-requires
mark_broken-requires c = omega (arith, here (goal.at.mark_broken-requires c).After-run_at-at)
