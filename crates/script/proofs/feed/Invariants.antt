-- `script::feed` meets its contract: at each turn the fold has taken in the bytes so far. Assumes
-- nothing.
use Rattle.print.specs.Print.{line_room}
use mathlib.Core.Path.{◌≡◌}
use mathlib.Core.List.{[]}
use Prim.Native.Nat.{◌*◌, ◌≤◌}
use lib.ListN.{length, take}
use Rattle.layout.specs.Buffer.{in_form}
use Rattle.script.specs.Fold.{progress, fed}
use Rattle.script.proofs.feed.Given as goal

abbrev pub invariant-loop-byte : goal.invariant-loop-byte
invariant-loop-byte l =
    (length l.store ≡ length l.initial.store) × (length l.line ≡ length
    l.initial.line)
    × (length l.numbers ≡ length l.initial.numbers) × (length l.answer ≡ length l.initial.answer)
    × (length l.out ≡ length l.initial.out) × (l.state.end ≤ line_room * l.byte-index)
    × (l.state.ready ≡ in_form l.store)
    × (progress l.store l.line l.state.len (take l.state.end l.out)
    ≡ fed (progress l.initial.store l.initial.line l.len []) (take l.byte-index l.chunk))
