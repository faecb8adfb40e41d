-- `lister::fill` meets its contract: at each turn the lines so far are put. Assumes nothing.
use mathlib.Core.Path.{◌≡◌}
use Prim.Native.Nat.{◌*◌, ◌-◌, ◌≤◌}
use lib.ListN.{length, take}
use Rattle.listing.specs.Lines.{lines_from}
use Rattle.lister.specs.Numbered.{history_room}
use Rattle.lister.proofs.fill.Given as goal

abbrev pub invariant-loop-next : goal.invariant-loop-next
invariant-loop-next l =
    (length l.out ≡ length l.initial.out) × (length l.store ≡ length l.initial.store)
    × (length l.digits ≡ length l.initial.digits) × (length l.words ≡ length l.initial.words)
    × (length l.answer ≡ length l.initial.answer)
    × (l.end ≤ length l.initial.out) × (l.end ≤ history_room * (l.next - l.line))
    × (take l.end l.out ≡ lines_from l.line (l.next - l.line))
