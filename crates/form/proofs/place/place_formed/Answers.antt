-- `place_formed` answers whether every version is in form.
-- Assumes nothing.
use Rattle.std.proofs.Common.{rules}
use Rattle.words.proofs.Ranges.{all-range}
use Rattle.model.specs.Form.{place_formed, version_formed}
use Rattle.layout.specs.Reading.{read_place}
use Rattle.form.proofs.place.place_formed.Goals as goal

pub returns : goal.returns
unfolding place_formed
returns c =
    let a = c.args in
    all-range a.z.keys (λ k. version_formed a.z k (read_place a.z a.words.now a.at k))
    (λ k b q h. search rules) _ c.all.ensures.ran
