-- `take_if` stores the larger past, if the key is in the mask.
-- Assumes nothing.
use mathlib.Core.Path.{sym, ◌∙◌}
use native.Mathlib.Omega.{arith}
use lib.ListN.{length}
use Rattle.sizes.specs.Bounds.{key_at}
use Rattle.layout.proofs.Pasts.{row_first, writer-row-first}
use Rattle.issue.proofs.Areas.{take-room}
use Rattle.issue.proofs.Writers.{take-yes, take_no}
use Rattle.issue.proofs.past.take_if.Goals as goal

pub writer_row_at-own-requires : goal.writer_row_at-own-requires
writer_row_at-own-requires c =
    let T = c.requires.takes in
    record {
      ranged = T.ranged;
      at_lt_version_limit = (omega (arith, T.apart, T.low), omega (arith, c.requires.k_lt_keys));
    }

pub row_of-past-requires : goal.row_of-past-requires
row_of-past-requires c =
    let h = c.requires.k_lt_keys in
    record {
      ranged = c.requires.takes.ranged;
      at_lt_place_limit = (c.requires.takes.low, h, omega (arith, h));
    }

pub merge_past-requires : goal.merge_past-requires
merge_past-requires c =
    let a = c.args in record {
      ranged = c.requires.takes.ranged;
      apart = rw (
        c.writer_row_at-own.ensures ∙ writer-row-first _ _,
        c.row_of-past.ensures ∙
            row_first _ _,
      )
          (take-room (length a.words.now) a.z a.at a.place a.k c.requires.takes
          c.requires.k_lt_keys);
    }

pub returns-then-has : goal.returns-then-has
returns-then-has c =
    let a = c.args in
    rw (
      ← take-yes a.z a.words.now a.at a.place a.read a.k c.requires.k_lt_keys
          (sym c.has.ensures ∙ c.if-has.true),
      ← writer-row-first a.z a.at,
      ← row_first a.z (key_at a.z a.place a.k),
      ← c.writer_row_at-own.ensures,
      ← c.row_of-past.ensures,
    )
    c.merge_past.ensures

pub returns-else-has : goal.returns-else-has
returns-else-has c =
    let a = c.args in
    take_no a.z a.words.now a.at a.place a.read a.k
    (sym c.has.ensures ∙ c.if-has.false)
