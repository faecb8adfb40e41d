-- `reads_at` answers where the reads of an issue begin.
-- Assumes nothing.
use Rattle.std.proofs.Common.{ℕ, ◌+◌, ◌*◌}
use mathlib.Core.Path.{ap₂}
use Rattle.records.specs.Format.{first_at, read_at_of}
use Rattle.audit.proofs.issues.reads_at.Goals as goal

pub returns : goal.returns
unfolding first_at read_at_of
returns c =
    let p = c.args.issue.in_order.0.header in
    let x = first_at c.args.issue.words.now c.args.issue.i in
    ap₂ (λ (n w : ℕ). 7 + 4 * n + x * (1 + w)) p.issues p.writers
