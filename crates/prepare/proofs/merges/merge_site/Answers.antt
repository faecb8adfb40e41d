-- `merge_site` merges the keys of the plan, if the site is one of the mask.
-- Assumes nothing.
use mathlib.Core.Path.{sym, ◌∙◌}
use Rattle.prepare.proofs.Merging.{site-merged, site-passed}
use Rattle.prepare.proofs.merges.merge_site.Goals as goal

pub merge_keys-requires : goal.merge_keys-requires
merge_keys-requires c =
    rw c.site_at-at.ensures c.requires.areas

pub returns-then-has : goal.returns-then-has
returns-then-has c =
    let a = c.args in
    site-merged a.z a.words.now a.snapshot a.o _ a.sites a.plan _
    (sym c.has.ensures ∙ c.if-has.true) c.site_at-at.ensures
    c.merge_keys.ensures.merges

pub returns-else-has : goal.returns-else-has
returns-else-has c =
    let a = c.args in
    site-passed a.z a.words.now a.snapshot a.o a.sites a.plan
    (sym c.has.ensures ∙ c.if-has.false)
