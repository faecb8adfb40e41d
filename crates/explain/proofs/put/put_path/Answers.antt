-- `put_path` lays a first word over the front, and the keys behind it.
-- Assumes nothing.
use mathlib.Core.Path.{ap, ◌∙◌}
use mathlib.Core.List.{List, [], ◌∷◌}
use Prim.Native.Nat.{ℕ, ◌+◌}
use native.Mathlib.Omega.{arith}
use lib.ListN.{get_or}
use lib.Seq.{sets}
use Rattle.words.specs.Lists.{window}
use Rattle.words.specs.Words.{put}
use Rattle.words.proofs.Lists.{length-window}
use Rattle.model.specs.Calls.Explain.{path_word}
use Rattle.layout.proofs.Merges.{put-window}
use Rattle.answers.proofs.Fronts.{over-more}
use Rattle.explain.proofs.put.put_path.Goals as goal

pub returns : goal.returns
returns c =
    let a = c.args in
    let t = c.put_one-one in
    let keys = window a.keys.now 0 a.n in
    let long = length-window a.keys.now 0 a.n in
    record {
      laid = c.copy_from.ensures
          ∙ ap (λ (k : ℕ). put t.new.answer k a.n (λ i. get_or a.keys.now (0 + i) 0))
          t.ensures.count
          ∙ put-window t.new.answer a.keys.now 1 0 a.n
          ∙ ap (λ (l : List ℕ). sets l 1 keys) t.ensures.laid
          ∙ over-more (path_word ∷ []) keys a.answer.now
          (omega (arith, long, c.requires.n_in_bounds.1, c.requires.answer_room_in_bounds));
      count = rw t.ensures.count (omega (arith, long));
    }
