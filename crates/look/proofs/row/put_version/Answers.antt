-- `put_version` lays three words over the front, the row behind them, and the standing last.
-- Assumes nothing.
use native.Mathlib.Omega.{arith}
use mathlib.Core.Path.{◌≡◌, ap, ◌∙◌}
use mathlib.Core.List.{List, [], ◌∷◌, ◌++◌}
use Prim.Native.Nat.{ℕ, ◌+◌}
use lib.ListN.{get_or, length-set, length-append}
use lib.Seq.{sets}
use borrow.Author.Rules.{rules}
use Rattle.words.specs.Lists.{window}
use Rattle.words.specs.Words.{put}
use Rattle.words.proofs.Lists.{length-window}
use Rattle.layout.proofs.Merges.{put-window}
use Rattle.clock.specs.Clock.{standing_number}
use Rattle.answers.specs.Answers.{over}
use Rattle.answers.proofs.Fronts.{over-more, over_last}
use Rattle.look.specs.Answer.{seen}
use Rattle.look.proofs.row.put_version.Goals as goal

pub shape_of-answer : goal.shape_of-answer
shape_of-answer c =
    length-set c.copy_from.new.words _ _ ∙ search rules

pub returns : goal.returns
unfolding seen
returns c =
    let a = c.args in
    let t = c.put_front-front in
    let v = a.looked in
    let row = window a.store.now v.row v.counts in
    let long = length-window a.store.now v.row v.counts in
    let last : List ℕ = standing_number v.standing ∷ [] in
    let first : List ℕ = 0 ∷ v.issue.0 ∷ v.leaders ∷ [] in
    let behind : c.copy_from.new.words ≡ over (first ++ row) a.answer.now =
    c.copy_from.ensures
    ∙ ap (λ (k : ℕ). put t.new.answer k v.counts (λ i. get_or a.store.now (v.row + i) 0))
    t.ensures.count
    ∙ put-window t.new.answer a.store.now 3 v.row v.counts
    ∙ ap (λ (l : List ℕ). sets l 3 row) t.ensures.laid
    ∙ over-more first row a.answer.now
    (omega (arith, long, c.requires.n_in_bounds.1, c.requires.answer_room_in_bounds)) in
    record {
      laid = rw (behind, c.from.ensures)
          (over_last (first ++ row) a.answer.now _ _
          (omega (arith, t.ensures.count, long))
          (omega (arith, long, c.requires.n_in_bounds.1, c.requires.answer_room_in_bounds)));
      count = rw t.ensures.count (omega (arith, long, length-append row last));
    }
