-- `leading_to` has the items that lead to one of the mask.
-- Assumes nothing.
use Rattle.std.proofs.Common.{rules, ◌∙◌}
use Rattle.masks.specs.Mask.{test_bit}
use Rattle.paths.specs.Path.{near}
use Rattle.paths.specs.Rows.{leads_by}
use Rattle.paths.proofs.Rows.{near-one}
use Rattle.paths.proofs.leading_to.Goals as goal

pub returns : goal.returns
returns c =
    let a = c.args in
    c.mask_of.ensures (near a.n (leads_by a.rows.now) (test_bit a.mask) 1)
    (λ k b h q. search rules ∙ near-one a.rows.now a.n a.mask k c.requires.1)
