-- `leads_on` tests the three ways to lead.
-- Assumes nothing.
use Rattle.std.proofs.Common.{◌∙◌}
use Rattle.words.proofs.Orders.{cmp-gt, cmp-lt}
use Rattle.model.specs.Version.{leads_on}
use Rattle.version.proofs.merge.leads_on.Goals as goal

pub returns : goal.returns
unfolding leads_on
returns c =
    let x = c.args.x.0 in
    let y = c.args.y.0 in
    rw (
      ← c.has-mine.ensures,
      ← c.has-theirs.ensures,
      ← c.eq-same.ensures,
      ← c.gt-over.ensures ∙ cmp-gt x y,
      ← c.lt-under.ensures ∙ cmp-lt x y,
    )
