-- `held` reads the issue number of a key.
-- Assumes nothing.
use lib.ListN.{length}
use Rattle.layout.proofs.Readings.{held_word}
use Rattle.version.proofs.Areas.{issue_in}
use Rattle.version.proofs.held.Goals as goal

pub version_issue-number-requires : goal.version_issue-number-requires
version_issue-number-requires c =
    let a = c.args in
    rw c.key_at-version.ensures
    (issue_in (length a.words.now) a.z a.at c.requires.area a.k c.requires.k_lt_keys)

pub returns : goal.returns
returns c =
    let a = c.args in
    rw (
      held_word a.z a.words.now a.at a.k c.requires.k_lt_keys,
      ← c.key_at-version.ensures,
      ← c.version_issue-number.ensures,
    )
    c.is_held.ensures
