-- `clear_place` stores the words of an empty place.
-- Assumes nothing.
use mathlib.Core.Path.{ap, ◌∙◌}
use Prim.Native.Nat.{ℕ}
use borrow.Author.Rules.{rules}
use Rattle.words.specs.Words.{put}
use Rattle.prepare.proofs.Merging.{zeros-place}
use Rattle.prepare.proofs.merges.clear_place.Goals as goal

pub place_size-n-requires : goal.place_size-n-requires
place_size-n-requires c = search rules

pub zero-requires : goal.zero-requires
zero-requires c = search rules

pub shape_of-words : goal.shape_of-words
shape_of-words c = search rules

pub returns : goal.returns
returns c =
    let a = c.args in
    let l = a.words.now in
    c.zero.ensures
    ∙ ap (λ (k : ℕ). put l a.at k (λ _. 0)) c.place_size-n.ensures
    ∙ zeros-place a.z l a.at
