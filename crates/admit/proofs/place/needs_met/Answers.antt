-- `needs_met` answers whether every need among the keys of a mask is met in a place.
-- Assumes nothing.
use Rattle.std.proofs.Common.{rules, ◌&&◌}
use Rattle.words.specs.Tests.{all_below}
use Rattle.words.proofs.Ranges.{all-range}
use Rattle.masks.specs.Mask.{test_bit}
use Rattle.model.specs.Algebra.{implies, needs_met}
use Rattle.model.specs.Version.{held, dependency, supersedes}
use Rattle.layout.specs.Reading.{read_place}
use Rattle.admit.proofs.place.needs_met.Goals as goal

pub returns : goal.returns
unfolding needs_met
returns c =
    let a = c.args in
    let p = read_place a.z a.words.now a.at in
    all-range a.z.keys (λ k. implies (test_bit a.scope k && held (p k))
    (all_below a.z.keys (λ d.
    implies (test_bit a.scope d && dependency a.z.writers k (p k) d)
    (supersedes a.z.writers d (p d) ((p k).past d)))))
    (λ k b q h. search rules) _ c.all.ensures.ran
