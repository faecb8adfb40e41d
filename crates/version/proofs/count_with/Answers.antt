-- `count_with` counts the items of both masks.
-- Assumes nothing.
use mathlib.Core.Path.{ap, ◌∙◌}
use mathlib.Core.Bool.{Bool, ◌||◌}
use Rattle.words.proofs.Numbers.{count_same}
use Rattle.masks.specs.Mask.{test_bit}
use Rattle.masks.proofs.Bits.{test-or}
use Rattle.masks.proofs.Sets.{item_of}
use Rattle.model.specs.Version.{held}
use Rattle.layout.specs.Reading.{read_place}
use Rattle.version.proofs.count_with.Goals as goal

pub returns : goal.returns
returns c =
    let a = c.args in
    let m = c.held_mask.result in
    c.count_items.ensures
    ∙ count_same a.z.keys (test_bit _)
    (λ k. test_bit a.more k || held (read_place a.z a.words.now a.at k))
    (λ k i. test-or a.more m k
    ∙ ap (λ (b : Bool). test_bit a.more k || b)
    (item_of a.z.keys m _ c.held_mask.ensures k i))

pub count_items-requires : goal.count_items-requires
count_items-requires c = c.requires.ranged.keys-high
