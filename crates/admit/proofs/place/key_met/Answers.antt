-- `key_met` answers whether the needs of a key are met, where it is held and asked for.
-- Assumes nothing.
use Rattle.std.proofs.Common.{rules, arith, ◌≡◌, ◌&&◌}
use Rattle.std.proofs.lemmas.Grind.{common_steps}
use Rattle.words.specs.Tests.{all_below}
use Rattle.words.proofs.Ranges.{all-range}
use Rattle.masks.specs.Mask.{test_bit}
use Rattle.model.specs.Algebra.{implies}
use Rattle.model.specs.Version.{dependency, supersedes}
use Rattle.layout.specs.Reading.{read_place}
use Rattle.admit.proofs.place.key_met.Goals as goal

pub returns-else-not-has-held : goal.returns-else-not-has-held
returns-else-not-has-held c =
    let a = c.args in
    let p = read_place a.z a.words.now a.at in
    let met : c.all.result ≡ all_below a.z.keys (λ d.
    implies (test_bit a.scope d && dependency a.z.writers a.k (p a.k) d)
    (supersedes a.z.writers d (p d) ((p a.k).past d))) =
    all-range a.z.keys _ (λ d b q h. search rules) _ c.all.ensures.ran in
    grind (arith, common_steps)
