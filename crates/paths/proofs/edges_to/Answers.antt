-- `edges_to` gives the first layer that the start meets.
-- Assumes nothing.
use lib.Bits.{bit_and}
use lib.Dec.{eqb}
use lib.ListN.{take}
use mathlib.Core.Bool.{not, true, false}
use mathlib.Core.Path.{◌≡◌}
use Rattle.std.proofs.Common.{rules}
use Rattle.std.proofs.lemmas.Iterator.{IsFirst-from_position, YieldsList-from_slice}
use Rattle.words.specs.Tests.{Items}
use Rattle.words.proofs.Ranges.{position-first}
use Rattle.paths.specs.Rows.{meeting}
use Rattle.paths.proofs.Lowest.{lowest-option}
use Rattle.paths.proofs.edges_to.Goals as goal

pub returns : goal.returns
returns c =
    let a = c.args in
    let r = c.position.result in
    let p : Items = λ x. not (eqb (bit_and a.start x) 0) in
    lowest-option a.n (meeting a.masks.now a.start) r
    (position-first a.masks.now a.n c.requires p r
    (IsFirst-from_position _ _ r (λ x. p x ≡ true) (λ x. p x ≡ false) c.position.ensures.ran
    (YieldsList-from_slice (take a.n a.masks.now) c.iter.ensures.rest)
    (λ x q k. search rules) (λ x q k. search rules)))
