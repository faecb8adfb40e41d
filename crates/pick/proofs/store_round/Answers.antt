-- `store_round` stores the word behind the runs.
-- Assumes nothing.
use native.Mathlib.Omega.{arith}
use Prim.Native.Nat.{◌<◌}
use lib.ListN.{length}
use Rattle.form.proofs.Known.{form-area}
use Rattle.pick.proofs.Known.{round-here}
use Rattle.pick.proofs.store_round.Goals as goal
use Rattle.pick.proofs.store_round.Goals.{After-round_at-at}

here : (c : After-round_at-at) → let a = c.args in
    (c.round_at-at.result < length a.words.now) × (c.round_at-at.result < 1000000)
here c = round-here _ _ c.requires _ c.round_at-at.ensures

pub returns : goal.returns
returns c = rw c.round_at-at.ensures

pub round_at-at-requires : goal.round_at-at-requires
round_at-at-requires c = (form-area _ _ c.requires).ranged

pub offset_bounds-words-at : goal.offset_bounds-words-at
offset_bounds-words-at c = omega (arith, here (goal.at.offset_bounds-words-at c).After-round_at-at)

pub bounds-words-at : goal.bounds-words-at
bounds-words-at c = (here (goal.at.bounds-words-at c).After-round_at-at).0
