-- `lister::replies::put_replies` meets its contract: what is put and what is left make the whole
-- at each turn. Assumes nothing.
use mathlib.Core.Path.{◌≡◌}
use mathlib.Core.Bool.{So}
use mathlib.Core.List.{◌++◌}
use Prim.Native.Nat.{◌+◌, ◌*◌, ◌≤◌}
use lib.ListN.{length, take, drop}
use Rattle.layout.specs.Buffer.{in_form}
use Rattle.listing.specs.Lines.{joined_on}
use Rattle.lister.specs.Numbered.{reply_room}
use Rattle.lister.proofs.Puts.{reply_texts}
use Rattle.lister.proofs.replies.put_replies.Given as goal

abbrev pub invariant-loop-digit : goal.invariant-loop-digit
invariant-loop-digit l =
    (length l.out ≡ length l.initial.out) × (length l.store ≡ length l.initial.store)
    × (length l.words ≡ length l.initial.words) × (length l.reply ≡ length l.initial.reply)
    × (l.end ≤ l.at + reply_room * (l.digit-index + 1)) × So (in_form l.store)
    × (take l.end l.out ++ joined_on (reply_texts l.store (drop l.digit-index l.digit-items))
    ≡ take l.initial.end l.initial.out ++ joined_on (reply_texts l.initial.store
    (drop 1 l.digits)))
