-- `past_covered` answers whether the master's own rows cover those of a past.
-- Assumes nothing.
use Rattle.std.proofs.Common.{rules, ◌∙◌, arith, length, ◌<◌, ◌≤◌, ◌+◌}
use Rattle.std.proofs.lemmas.Iterator.{serves_from_Range}
use Rattle.std.proofs.lemmas.Grind.{common_steps}
use Rattle.words.proofs.Ranges.{all-range}
use Rattle.clock.specs.Clock.{dominates}
use Rattle.sizes.specs.Bounds.{Ranged, place_limit, version_limit, key_at, row_at, past_row_at}
use Rattle.layout.specs.Reading.{read_past_of, read_place}
use Rattle.version.proofs.Areas.{row_in}
use Rattle.admit.specs.Parts.{past_covered}
use Rattle.admit.proofs.Words.{past-row_in, covered-word}
use Rattle.admit.proofs.place.past_covered.Goals as goal

pub all-requires-clause-callable : goal.all-requires-clause-callable
all-requires-clause-callable c =
    let a = c.args in
    let A = c.requires.0 in
    let ranged : Ranged a.z = A.ranged in
    let low : a.master < place_limit = A.low in
    let past-low : a.past < version_limit = c.requires.1.low in
    serves_from_Range (λ d q h. search rules) (λ d _ l.
    let own : row_at a.z (key_at a.z a.master d) d + a.z.writers ≤ length a.words.now =
    row_in _ _ _ A d d l l in
    let row : past_row_at a.z a.past d + a.z.writers ≤ length a.words.now =
    past-row_in _ _ _ c.requires.1 d l in grind (arith, common_steps))

pub returns : goal.returns
unfolding past_covered
returns c =
    let a = c.args in
    let l = a.words.now in
    let own = read_place a.z l a.master in
    all-range a.z.keys
    (λ d. dominates a.z.writers ((own d).past d) (read_past_of a.z l a.past d))
    (λ d b q h. (search rules, λ k. search rules ∙ covered-word a.z l a.master a.past d k)) _
    c.all.ensures.ran
