-- `read_at`: each test says which case of `read_from_of` holds.
-- Assumes nothing.
use Prim.Native.Nat.{◌+◌, ◌≤◌, ◌<◌}
use borrow.Author.Tests.{le-ltb, lt-ltb}
use native.Mathlib.Omega.{arith}
use lib.ListN.{length}
use Rattle.reader.specs.Reads.{read_from_of}
use Rattle.reader.proofs.read_at.Goals as goal

pub returns-then-len-at : goal.returns-then-len-at
unfolding read_from_of
returns-then-len-at c =
    let a = c.args in
    let h : length a.words.now ≤ a.at + a.w = omega arith in
    simp (le-ltb _ _ h)

pub returns-then-len-at-2 : goal.returns-then-len-at-2
unfolding read_from_of
returns-then-len-at-2 c =
    let a = c.args in
    let h : length a.words.now ≤ a.at + a.w = omega arith in
    simp (le-ltb _ _ h)

pub returns : goal.returns
unfolding read_from_of
returns c =
    let a = c.args in
    let h : a.at + a.w < length a.words.now = omega arith in
    simp (lt-ltb _ _ h)
