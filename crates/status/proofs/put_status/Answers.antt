-- `put_status` stores the four words.
-- Assumes nothing.
use mathlib.Core.Path.{refl}
use native.Mathlib.Omega.{arith}
use lib.ListN.{length-set}
use Rattle.status.specs.Lent.{put_status}
use Rattle.status.proofs.put_status.Goals as goal

pub bounds-words-at-2 : goal.bounds-words-at-2
bounds-words-at-2 c = rw length-set (omega arith)

pub bounds-words-at-3 : goal.bounds-words-at-3
bounds-words-at-3 c = rw (length-set, length-set) (omega arith)

pub bounds-words-read : goal.bounds-words-read
bounds-words-read c = rw (length-set, length-set, length-set) (omega arith)

pub returns : goal.returns
unfolding put_status
returns c = refl
