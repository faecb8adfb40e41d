-- `run_cause` tests the range, then the state.
-- Assumes nothing.
use mathlib.Core.Path.{◌≡◌, sym, ap, ◌∙◌}
use mathlib.Core.Bool.{Bool, not}
use native.Mathlib.Omega.{arith}
use Rattle.sizes.specs.Bounds.{run_size}
use Rattle.model.specs.Outcome.{refuse, run_cause}
use Rattle.layout.specs.Reading.{store_of}
use Rattle.states.specs.Rows.{row_number}
use Rattle.status.proofs.Known.{RunKnown, run-known, cause-high, cause-state}
use Rattle.status.proofs.run_cause.Goals as goal
use Rattle.status.proofs.run_cause.Goals.{After-is_allowed, Else-z-r}

-- The run is one of the store's.
known : (c : Else-z-r) → RunKnown c.args.words.now c.args.z c.args.r
known c = run-known c.args.words.now c.args.z c.args.r c.requires c.if-z-r.false

-- What the test of the state says.
told : (c : After-is_allowed) → let a = c.args in
    refuse (not c.is_allowed.result) 4 0
    ≡ run_cause (store_of a.words.now) (row_number a.row) a.r 0
told c =
    let a = c.args in
    cause-state a.words.now a.z (row_number a.row) a.r c.requires c.if-z-r.false
    c.run_at-at.result c.is_allowed.result c.run_at-at.ensures c.is_allowed.ensures

pub returns-then-z-r : goal.returns-then-z-r
returns-then-z-r c =
    let a = c.args in
    cause-high a.words.now a.z (row_number a.row) a.r c.requires c.if-z-r.true

pub run_at-at-requires : goal.run_at-at-requires
run_at-at-requires c = record {
  ranged = (known (goal.at.run_at-at-requires c).Else-z-r).area.ranged;
  r_lt_runs = c.if-z-r.false;
}

pub is_allowed-requires : goal.is_allowed-requires
is_allowed-requires c =
    rw c.run_at-at.ensures (known (goal.at.is_allowed-requires c).Else-z-r).state

pub returns-then-not-is_allowed : goal.returns-then-not-is_allowed
unfolding refuse
returns-then-not-is_allowed c =
    ap (λ (t : Bool). refuse t 4 0) (sym (ap not c.if-not-is_allowed.true))
    ∙ told (goal.at.returns-then-not-is_allowed c).After-is_allowed

pub returns : goal.returns
unfolding refuse
returns c =
    ap (λ (t : Bool). refuse t 4 0) (sym (ap not c.if-not-is_allowed.false))
    ∙ told (goal.at.returns c).After-is_allowed

pub offset_bounds-words-at : goal.offset_bounds-words-at
unfolding run_size
offset_bounds-words-at c =
    rw c.run_at-at.ensures
    (omega (arith, (known (goal.at.offset_bounds-words-at c).Else-z-r).area.fits))

pub bounds-words-at : goal.bounds-words-at
unfolding run_size
bounds-words-at c =
    rw c.run_at-at.ensures
    (omega (arith, (known (goal.at.bounds-words-at c).Else-z-r).area.fits))
