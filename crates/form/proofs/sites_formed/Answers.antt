-- `sites_formed` answers whether every site is in form.
-- Assumes nothing.
use Rattle.std.proofs.Common.{rules}
use Rattle.words.proofs.Ranges.{all-range}
use Rattle.form.specs.Parts.{site_test}
use Rattle.form.proofs.sites_formed.Goals as goal

pub returns : goal.returns
returns c =
    let a = c.args in
    all-range a.z.sites (site_test a.z a.words.now) (λ k b q h. search rules) _ c.all.ensures.ran
