-- `merge_key` stores one key.
-- Assumes nothing.
use mathlib.Core.Path.{◌∙◌}
use lib.ListN.{length}
use Rattle.sizes.specs.Bounds.{key_at}
use Rattle.layout.specs.Reading.{read_version}
use Rattle.layout.proofs.Places.{place_at_lem}
use Rattle.layout.proofs.Pasts.{row_first}
use Rattle.version.proofs.Areas.{issue_in, leaders-word, key_merges}
use Rattle.version.proofs.merge.merge_key.Goals as goal

pub version_issue-number-requires : goal.version_issue-number-requires
version_issue-number-requires c =
    let a = c.args in
    rw c.key_at-s.ensures
    (issue_in (length a.words.now) a.z a.src c.requires.areas.source a.k c.requires.k_lt_keys)

pub merge_version-requires : goal.merge_version-requires
merge_version-requires c =
    let a = c.args in
    rw (c.key_at-d.ensures, c.row_of-past.ensures ∙ row_first _ _) (
      key_merges (length a.words.now) a.z a.dst a.src c.requires.areas a.k c.requires.k_lt_keys,
      c.requires.k_lt_keys,
    )

pub returns : goal.returns
unfolding read_version
returns c =
    let a = c.args in
    rw (
      place_at_lem a.z a.words.now a.dst a.k c.requires.k_lt_keys,
      place_at_lem a.z a.words.now a.src a.k c.requires.k_lt_keys,
      ← row_first a.z (key_at a.z a.src a.k),
      ← c.row_of-past.ensures,
      ← c.leaders_of-leaders.ensures ∙ leaders-word a.z a.words.now a.src a.k c.requires.k_lt_keys,
      ← c.key_at-s.ensures,
      ← c.version_issue-number.ensures,
      ← c.key_at-d.ensures,
    )
    c.merge_version.ensures.merges
