-- `would_stay` puts the two tests together: numbers and masks change sides, the mask of the merge
-- is one, and so is the comparison.
-- Assumes nothing.
use Rattle.model.specs.Stays.{leaders_merged, stays_by_of, stays_other_by}
use Rattle.layout.specs.Reading.{read_place}
use Rattle.version.proofs.Moves.{kept-is}
use mathlib.Core.Path.{◌∙◌}
use Rattle.version.proofs.moved.would_stay.Goals as goal

pub returns : goal.returns
unfolding stays_by_of stays_other_by
returns c =
    let a = c.args in
    let z = a.z in
    let x = read_place z a.words.now a.a a.k in
    let y = read_place z a.words.now a.b a.k in
    let merged = leaders_merged z.writers a.k x y in record {
      first = kept-is z.writers z.keys x y _ _ _ _ _ _ merged c.is_kept-first.ensures
          c.number_of-mine.ensures c.number_of-theirs.ensures c.leaders_of-m.ensures
          c.leading-leaders.ensures (c.covering-covers.ensures ∙
          c.compare_pasts-standing.ensures.covers);
      second = kept-is z.writers z.keys y x _ _ _ _ _ _ merged c.is_kept-second.ensures
          c.number_of-theirs.ensures c.number_of-mine.ensures c.leaders_of-n.ensures
          c.leading-leaders.ensures (c.covered-behind.ensures ∙
          c.compare_pasts-standing.ensures.covered);
    }
