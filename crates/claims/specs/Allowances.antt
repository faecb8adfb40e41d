-- CR 7: "No shelf ever holds more" than its allowance, after any call on a buffer in form. At each
-- point of a list it is `Holds.within`.
-- Assumes nothing.
use Rattle.std.proofs.Math.Bool.{So}
use Rattle.std.specs.Prelude.{List, ℕ, ◌≤◌, ◌<◌}
use Rattle.model.specs.Store.{Store}
use Rattle.model.specs.Allowance.{held_count}
use Rattle.model.specs.Calls.{StoreCall}
use Rattle.layout.specs.Reading.{store_of}
use Rattle.layout.specs.Buffer.{in_form}
use Rattle.layout.specs.Calls.{on, call_on, leaves}

-- No shelf of the store holds more than it may.
abbrev pub Within : Store → Type 0
Within s =
    (o : ℕ) → o < s.counts.sites
    → held_count s.counts.keys (s.site o).cache ≤ (s.site o).allowance

abbrev pub StaysWithin : Type 0
StaysWithin =
    (l : List ℕ) (c : StoreCall) → So (in_form l) → Within (store_of (leaves (call_on (on c) l) l))
