-- `copy_from` stores a part of the other words. The loop's invariant: those passed are stored.
-- Assumes nothing.
use native.Mathlib.Omega.{arith}
use mathlib.Core.Path.{◌≡◌, refl, ap, ◌∙◌}
use Prim.Native.Nat.{ℕ, ◌+◌}
use lib.ListN.{get_or, length-set}
use Rattle.words.specs.Words.{put}
use Rattle.words.proofs.Words.{put_step}
use Rattle.words.proofs.copy_from.Goals as goal

pub loop-i-init : goal.loop-i-init
unfolding put
loop-i-init c = (omega arith, refl, refl)

pub loop-i-preserved : goal.loop-i-preserved
loop-i-preserved c =
    let a = c.args in
    let i = c.loop-i.i in
    let f : ℕ → ℕ = λ j. get_or a.from.now (a.src + j) 0 in (
      omega arith,
      rw length-set c.loop-i.invariant.1,
      put_step a.words.now a.dst i f c.loop-i.words (f i) c.loop-i.invariant.2 refl,
    )

pub returns : goal.returns
returns c =
    let a = c.args in
    let f : ℕ → ℕ = λ j. get_or a.from.now (a.src + j) 0 in
    let e : c.loop-i.i ≡ a.n = omega arith in
    c.loop-i.invariant.2 ∙ ap (λ (n : ℕ). put a.words.now a.dst n f) e

pub shape_of-words : goal.shape_of-words
shape_of-words c = c.loop-i.invariant.1
