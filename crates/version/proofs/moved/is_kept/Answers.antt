-- `is_kept` tests by the two numbers and what was found before.
-- Assumes nothing.
use Rattle.std.proofs.Common.{◌∙◌}
use Rattle.words.proofs.Bools.{not-ltb}
use Rattle.words.proofs.Orders.{cmp-gt}
use Rattle.version.proofs.moved.is_kept.Goals as goal

pub returns : goal.returns
returns c =
    let n = c.args.number.0 in
    let o = c.args.other.0 in
    rw (c.is_held-unheld.ensures, c.gt-over.ensures ∙ cmp-gt o n, not-ltb n o)
