-- `caches_taken` answers whether every cache is taken.
-- Assumes nothing.
use Rattle.std.proofs.Common.{rules, ◌∙◌, arith, length}
use Rattle.std.proofs.lemmas.Iterator.{serves_from_Range}
use Rattle.std.proofs.lemmas.Grind.{common_steps}
use Rattle.words.proofs.Ranges.{all-range}
use Rattle.sizes.specs.Bounds.{Ranged, site_at}
use Rattle.layout.specs.Reading.{read_place}
use Rattle.version.specs.Places.{Area}
use Rattle.version.proofs.Stores.{site-area}
use Rattle.admit.specs.Parts.{cache_test}
use Rattle.admit.proofs.Words.{every-key}
use Rattle.admit.proofs.caches_taken.Goals as goal

pub all-requires-clause-callable : goal.all-requires-clause-callable
all-requires-clause-callable c =
    let a = c.args in
    let A = c.requires.0 in
    let ranged : Ranged a.z = A.ranged in
    serves_from_Range (λ o q h. search rules) (λ o _ l.
    let site : Area (length a.words.now) a.z (site_at a.z o) =
    site-area _ _ A.ranged A.fits o l in grind (arith, common_steps))

pub returns : goal.returns
returns c =
    let a = c.args in
    let l = a.words.now in
    let every = every-key a.z (read_place a.z l a.master) a.last.0 in
    all-range a.z.sites (cache_test a.z l a.master a.last.0)
    (λ o b q h. (search rules, λ _. search rules ∙ every _ c.requires.0.ranged)) _
    c.all.ensures.ran
