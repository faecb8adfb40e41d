-- `is_snapshot`: the walk from the counts of the issue's own reads.
-- Assumes nothing.
use Rattle.std.proofs.Common.{arith, ◌∙◌, ◌<◌}
use Rattle.records.specs.Format.{issues_in, number_at}
use Rattle.audit.proofs.Places.{issue-keys}
use Rattle.audit.proofs.Judged.{snapshot-walk, snapshot-none}
use Rattle.audit.proofs.walk.is_snapshot.Goals as goal

pub returns-then-issue-eq0 : goal.returns-then-issue-eq0
unfolding number_at
returns-then-issue-eq0 c = snapshot-none _ _ c.if-issue-eq0.true

pub keys_read-requires : goal.keys_read-requires
keys_read-requires c = issue-keys c.args.issue c.requires.0

pub returns : goal.returns
returns c =
    let a = c.args.issue in
    let H = a.in_order.0.header in
    let l : a.i < issues_in a.words.now = omega (arith, H.issues, a.in_order.1) in
    c.walk_back.ensures ∙ snapshot-walk c.requires.0 _ _ l H.writers _ c.raise.ensures
