-- `lister::small::put_calls` meets its contract: what is put and what is left make the whole at
-- each turn. Assumes nothing.
use mathlib.Core.Path.{◌≡◌}
use mathlib.Core.List.{◌++◌}
use Prim.Native.Nat.{◌+◌, ◌*◌, ◌≤◌}
use lib.ListN.{length, take, drop}
use Rattle.listing.specs.Lines.{joined_on}
use Rattle.lister.specs.Numbered.{next_room}
use Rattle.lister.proofs.Puts.{call_texts}
use Rattle.lister.proofs.small.put_calls.Given as goal

abbrev pub invariant-loop-digit : goal.invariant-loop-digit
invariant-loop-digit l =
    (length l.out ≡ length l.initial.out) × (length l.words ≡ length l.initial.words)
    × (l.end ≤ l.at + next_room * (l.digit-index + 1))
    × (take l.end l.out ++ joined_on (call_texts (drop l.digit-index l.digit-items))
    ≡ take l.initial.end l.initial.out ++ joined_on (call_texts (drop 1 l.digits)))
