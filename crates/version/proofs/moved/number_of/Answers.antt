-- `number_of` reads the first word of a key's version.
-- Assumes nothing.
use mathlib.Core.Path.{◌∙◌, ap}
use lib.ListN.{length}
use Rattle.layout.specs.Reading.{read_version, read_word_of}
use Rattle.layout.proofs.Places.{place_at_lem}
use Rattle.version.proofs.Areas.{issue_in}
use Rattle.version.proofs.moved.number_of.Goals as goal

pub version_issue-requires : goal.version_issue-requires
version_issue-requires c =
    let a = c.args in
    rw c.key_at-version.ensures
    (issue_in (length a.words.now) a.z a.at c.requires.area a.k c.requires.k_lt_keys)

pub returns : goal.returns
unfolding read_version
returns c =
    let a = c.args in
    rw (place_at_lem a.z a.words.now a.at a.k c.requires.k_lt_keys)
    (c.version_issue.ensures ∙ ap (read_word_of a.words.now) c.key_at-version.ensures)
