-- `rows_covered` answers whether the master's own rows cover those of a place.
-- Assumes nothing.
use Rattle.std.proofs.Common.{rules, ◌∙◌, sym, ap, arith, length, ◌<◌, ◌+◌}
use Rattle.std.proofs.lemmas.Iterator.{serves_from_Range}
use Rattle.std.proofs.lemmas.Grind.{common_steps}
use Rattle.words.proofs.Ranges.{all-range}
use Rattle.sizes.specs.Bounds.{Ranged, place_limit, version_limit, past_offset, key_at}
use Rattle.layout.specs.Reading.{read_place}
use Rattle.admit.specs.Parts.{PastArea, past_covered, rows_covered}
use Rattle.admit.proofs.Words.{key-past, version-past}
use Rattle.admit.proofs.place.rows_covered.Goals as goal

pub all-requires-clause-callable : goal.all-requires-clause-callable
all-requires-clause-callable c =
    let a = c.args in
    let A = c.requires.1 in
    let ranged : Ranged a.z = A.ranged in
    let low : a.at < place_limit = A.low in
    serves_from_Range (λ k q h. search rules) (λ k _ l.
    let past : PastArea (length a.words.now) a.z (key_at a.z a.at k + past_offset) =
    key-past _ _ _ A k l in
    let past-low : key_at a.z a.at k + past_offset < version_limit = past.low in
    grind (arith, common_steps))

pub returns : goal.returns
unfolding rows_covered
returns c =
    let a = c.args in
    let l = a.words.now in
    let master = read_place a.z l a.master in
    all-range a.z.keys (λ k. past_covered a.z master (read_place a.z l a.at k).past)
    (λ k b q h. (
      search rules,
      λ i.
          search rules ∙ ap (past_covered a.z master) (sym (version-past a.z l a.at k i)),
    )) _
    c.all.ensures.ran
