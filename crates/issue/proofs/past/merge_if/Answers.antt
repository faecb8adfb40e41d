-- `merge_if` stores the merge with the saved version, if the key is in the mask.
-- Assumes nothing.
use mathlib.Core.Path.{sym, ◌∙◌}
use native.Mathlib.Omega.{arith}
use Rattle.layout.proofs.Pasts.{writer-row-first}
use Rattle.issue.proofs.Areas.{save-room}
use Rattle.issue.proofs.Masters.{save-yes}
use Rattle.issue.proofs.past.merge_if.Goals as goal

pub writer_row_at-past-requires : goal.writer_row_at-past-requires
writer_row_at-past-requires c =
    let S = c.requires.saves in
    record {
      ranged = S.ranged;
      at_lt_version_limit = (omega (arith, S.low), omega (arith, c.requires.k_lt_keys));
    }

pub merge_version-requires : goal.merge_version-requires
merge_version-requires c =
    let a = c.args in
    rw (c.key_at-version.ensures, c.writer_row_at-past.ensures ∙ writer-row-first _ _)
    (save-room _ a.z a.place a.at a.k c.requires.saves c.requires.k_lt_keys, c.requires.k_lt_keys)

pub returns-then-has : goal.returns-then-has
returns-then-has c =
    let a = c.args in
    rw (
      ← save-yes a.z a.words.now a.place a.at a.mask a.number.0
          a.leaders a.k c.requires.k_lt_keys (sym c.has.ensures ∙ c.if-has.true),
      ← writer-row-first a.z a.at,
      ← c.writer_row_at-past.ensures,
      ← c.key_at-version.ensures,
    )
    c.merge_version.ensures.merges

pub returns-else-has : goal.returns-else-has
returns-else-has c = rw (sym c.has.ensures ∙ c.if-has.false)
