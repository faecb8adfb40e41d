-- `shaped` tests length, counts, header and room, in this order.
-- Assumes nothing.
-- The counts are in range.
use mathlib.Core.Path.{◌≡◌, sym, ◌∙◌}
use mathlib.Core.Bool.{true}
use borrow.Author.Tests.{lt-leb, le-leb}
use native.Mathlib.Omega.{arith}
use Rattle.sizes.specs.Bounds.{ranged, Ranged}
use Rattle.sizes.proofs.Offsets.{ranged-out}
use Rattle.layout.specs.Buffer.{shaped}
use Rattle.form.proofs.header.shaped.Goals as goal
use Rattle.form.proofs.header.shaped.Goals.{Else-not-is_ranged}

yes : (c : Else-not-is_ranged) → ranged c.counts-z.result ≡ true
yes c = sym c.is_ranged.ensures ∙ c.if-not-is_ranged.false

in_range_lem : (c : Else-not-is_ranged) → Ranged c.counts-z.result
in_range_lem c = ranged-out _ ((let it : ranged c.counts-z.result ≡ true = sym c.is_ranged.ensures
    ∙ c.if-not-is_ranged.false in it))

pub returns-then-words-lt-SIZE : goal.returns-then-words-lt-SIZE
unfolding shaped
returns-then-words-lt-SIZE c = rw (lt-leb _ _ c.if-words-lt-SIZE.true)

pub returns-then-not-is_ranged : goal.returns-then-not-is_ranged
unfolding shaped
returns-then-not-is_ranged c =
    let no = sym c.is_ranged.ensures ∙ c.if-not-is_ranged.true in
    rw (le-leb _ _ c.if-words-lt-SIZE.false, ← c.counts-z.ensures, no)

pub header_right-requires : goal.header_right-requires
header_right-requires c = record {
  ranged = in_range_lem (goal.at.header_right-requires c).Else-not-is_ranged;
  header_size_in_bounds = omega arith;
}

pub fits-requires : goal.fits-requires
fits-requires c = in_range_lem (goal.at.fits-requires c).Else-not-is_ranged

pub returns : goal.returns
unfolding shaped
returns c =
    let e = c.before.before in
    rw (
      le-leb _ _ e.if-words-lt-SIZE.false,
      ← e.counts-z.ensures,
      yes (goal.at.returns c).Else-not-is_ranged,
      c.header_right.ensures,
      c.fits.ensures,
    )
