-- `copy` moves the words within the buffer.
-- Assumes nothing.
use mathlib.Core.Path.{◌≡◌, ◌∙◌, ap}
use Prim.Native.Nat.{ℕ, ◌+◌, ◌-◌}
use native.Mathlib.Omega.{arith}
use lib.ListN.{get_or}
use Rattle.words.proofs.Words.{put-is}
use Rattle.words.proofs.copy.Goals as goal

pub returns : goal.returns
returns c =
    let a = c.args in
    let e = c.copy_within.ensures in
    let place : (i : ℕ) → a.src + (a.dst + i - a.dst) ≡ a.src + i = λ i. omega arith in
    put-is a.words.now a.dst a.n _ c.copy_within.new.self c.requires.dst_in e.len
    (λ i h. e.by_index.0 (a.dst + i) 0 (omega arith) (omega arith)
    ∙ ap (λ j. get_or a.words.now j 0) (place i))
    (λ j h. e.by_index.1 j 0 h) (λ j h. e.by_index.2 j 0 (omega arith))
