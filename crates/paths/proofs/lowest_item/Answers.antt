-- `lowest_item` gives the lowest item: the first number that is found in the mask.
-- Assumes nothing.
use Rattle.std.proofs.Common.{rules, ◌∙◌}
use Rattle.words.proofs.Ranges.{find-range}
use Rattle.masks.specs.Mask.{test_bit}
use Rattle.paths.proofs.Lowest.{lowest-found}
use Rattle.paths.proofs.lowest_item.Goals as goal

pub returns : goal.returns
returns c =
    let a = c.args in
    c.unwrap_or.ensures
    ∙ lowest-found a.n (test_bit a.mask) c.find.result
    (find-range a.n (test_bit a.mask) (λ k b q h. search rules) _ c.find.result c.find.ensures.ran)
