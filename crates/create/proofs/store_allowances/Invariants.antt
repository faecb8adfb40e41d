-- `store_allowances` stores the allowance of each site.
-- The loop's invariant: those of the sites passed.
-- Assumes nothing.
-- Where site o and its allowance lie in a buffer of len words.
-- The allowance that is stored lies in the buffer.
use mathlib.Core.Path.{◌≡◌}
use lib.ListN.{length}
use Rattle.create.specs.Room.{allowances_put}
use Rattle.create.proofs.store_allowances.Given as goal

abbrev pub invariant-loop-o : goal.invariant-loop-o
invariant-loop-o l =
    (length l.words ≡ length l.initial.words) × (l.words ≡ allowances_put l.z l.o
    l.initial.words)
