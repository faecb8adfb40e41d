-- `own_counts` answers whether no count of the master's own rows is above its writer's.
-- Assumes nothing.
use Rattle.std.proofs.Common.{rules, ◌∙◌, arith, length, ◌<◌, ◌≤◌, ◌+◌}
use Rattle.std.proofs.lemmas.Iterator.{serves_from_Range}
use Rattle.std.proofs.lemmas.Grind.{common_steps}
use Rattle.words.proofs.Ranges.{all-range}
use Rattle.sizes.specs.Bounds.{Ranged, place_limit, key_at, row_at}
use Rattle.layout.specs.Reading.{read_place}
use Rattle.version.proofs.Areas.{row_in}
use Rattle.admit.specs.Parts.{row_within, own_counts, counts_at}
use Rattle.admit.proofs.Words.{within_word}
use Rattle.admit.proofs.own_counts.Goals as goal

pub all-requires-clause-callable : goal.all-requires-clause-callable
all-requires-clause-callable c =
    let a = c.args in
    let A = c.requires.1 in
    let ranged : Ranged a.z = A.ranged in
    let low : a.master < place_limit = A.low in
    serves_from_Range (λ d q h. search rules) (λ d _ l.
    let ends : row_at a.z (key_at a.z a.master d) d + a.z.writers ≤ length a.words.now =
    row_in _ _ _ A d d l l in grind (arith, common_steps))

pub returns : goal.returns
unfolding own_counts
returns c =
    let a = c.args in
    let l = a.words.now in
    let made = counts_at a.z l in
    all-range a.z.keys (λ d. row_within a.z made ((read_place a.z l a.master d).past d))
    (λ d b q h. (search rules, λ k. search rules ∙ within_word a.z l made a.master d k)) _
    c.all.ensures.ran
