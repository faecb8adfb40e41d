-- `last_picked` reads the word behind the runs.
-- Assumes nothing.
use native.Mathlib.Omega.{arith}
use mathlib.Core.Path.{ap, ◌∙◌}
use Prim.Native.Nat.{ℕ, ◌<◌}
use lib.ListN.{length, get_or}
use Rattle.form.proofs.Known.{form-area}
use Rattle.pick.proofs.Known.{round_in, round-here}
use Rattle.pick.proofs.last_picked.Goals as goal
use Rattle.pick.proofs.last_picked.Goals.{After-round_at-at}

here : (c : After-round_at-at) → let a = c.args in
    (c.round_at-at.result < length a.words.now) × (c.round_at-at.result < 1000000)
here c = round-here _ _ c.requires _ c.round_at-at.ensures

pub returns : goal.returns
returns c =
    ap (λ (i : ℕ). get_or c.args.words.now i 0) c.round_at-at.ensures
    ∙ round_in _ _ c.requires

pub round_at-at-requires : goal.round_at-at-requires
round_at-at-requires c = (form-area _ _ c.requires).ranged

pub offset_bounds-words-at : goal.offset_bounds-words-at
offset_bounds-words-at c = omega (arith, here (goal.at.offset_bounds-words-at c).After-round_at-at)

pub bounds-words-at : goal.bounds-words-at
bounds-words-at c = (here (goal.at.bounds-words-at c).After-round_at-at).0
