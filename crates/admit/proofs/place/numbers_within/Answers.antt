-- `numbers_within` answers whether no issue number of a place is above the last.
-- Assumes nothing.
use Rattle.std.proofs.Common.{rules, ◌∙◌, sym, ap, arith, length, ◌<◌}
use Rattle.std.proofs.lemmas.Iterator.{serves_from_Range}
use Rattle.std.proofs.lemmas.Grind.{common_steps}
use lib.Dec.{leb}
use Rattle.words.proofs.Ranges.{all-range}
use Rattle.sizes.specs.Bounds.{Ranged, place_limit, key_at}
use Rattle.layout.specs.Reading.{read_place}
use Rattle.version.proofs.Areas.{issue_in}
use Rattle.admit.specs.Parts.{numbers_within}
use Rattle.admit.proofs.Orders.{cmp-le}
use Rattle.admit.proofs.Words.{version-number}
use Rattle.admit.proofs.place.numbers_within.Goals as goal

pub all-requires-clause-callable : goal.all-requires-clause-callable
all-requires-clause-callable c =
    let a = c.args in
    let A = c.requires in
    let ranged : Ranged a.z = A.ranged in
    let low : a.at < place_limit = A.low in
    serves_from_Range (λ k q h. search rules) (λ k _ l.
    let inside : key_at a.z a.at k < length a.words.now = issue_in _ _ _ A k l in
    grind (arith, common_steps))

pub returns : goal.returns
unfolding numbers_within
returns c =
    let a = c.args in
    let l = a.words.now in
    all-range a.z.keys (λ k. leb (read_place a.z l a.at k).issue a.last.0)
    (λ k b q h. (
      search rules,
      λ i.
          search rules
          ∙ cmp-le _ a.last.0
          ∙ ap (λ n. leb n a.last.0) (sym (version-number a.z l a.at k i)),
    )) _
    c.all.ensures.ran
