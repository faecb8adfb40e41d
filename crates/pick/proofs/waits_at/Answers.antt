-- `waits_at` asks the run at a turn.
-- few: the last picked run is one of the runs, and there are at most 8.
-- Assumes nothing.
use native.Mathlib.Omega.{arith}
use mathlib.Core.Path.{ap, ◌∙◌}
use Prim.Native.Nat.{ℕ, ◌≤◌, ◌<◌}
use Rattle.words.proofs.Turns.{turn_low}
use Rattle.model.specs.Calls.Pick.{waiting}
use Rattle.layout.specs.Reading.{store_of}
use Rattle.form.proofs.Known.{form-area}
use Rattle.pick.proofs.Known.{round-low}
use Rattle.pick.proofs.waits_at.Goals as goal
use Rattle.pick.proofs.waits_at.Goals.{Start}

few : (c : Start) → (c.args.last < c.args.z.runs) × (c.args.z.runs ≤ 8)
few c = (
  rw c.requires.last_value (round-low _ _ c.requires.form_with),
  (form-area _ _ c.requires.form_with).ranged.runs-high,
)

pub turn_run-r-requires : goal.turn_run-r-requires
turn_run-r-requires c =
    let f = few (goal.at.turn_run-r-requires c).Start in (omega arith, omega arith)

pub is_waiting-requires : goal.is_waiting-requires
is_waiting-requires c =
    record {
      form_with = c.requires.form_with;
      r_lt_runs = rw c.turn_run-r.ensures
          (turn_low _ _ _ (few (goal.at.is_waiting-requires c).Start).0 c.requires.i_lt_runs);
    }

pub returns : goal.returns
returns c =
    c.is_waiting.ensures
    ∙ ap (λ (r : ℕ). waiting ((store_of c.args.words.now).run r)) c.turn_run-r.ensures
