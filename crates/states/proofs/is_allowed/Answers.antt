-- `is_allowed` meets its contract: the constant is the definitions' table, read at the same index.
-- Assumes nothing.
use mathlib.Core.Path.{ap}
use Prim.Native.Nat.{ℕ, ◌+◌, ◌*◌}
use lib.Dec.{eqb}
use lib.ListN.{get_or}
use Rattle.model.specs.Outcome.{state_table, allowed}
use Rattle.states.proofs.is_allowed.Goals as goal

pub returns : goal.returns
unfolding allowed
returns c =
    ap (λ (n : ℕ). eqb (get_or state_table (n * 3 + c.args.state) 0) 1) c.from.ensures.number
