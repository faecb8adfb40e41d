-- `layout_fits` makes the layout's test, in two parts.
-- Assumes nothing.
-- The test of the counts is that of the record's.
use mathlib.Core.Path.{◌≡◌, refl, sym, ◌∙◌}
use native.Mathlib.Omega.{arith}
use Rattle.records.specs.Format.{keys_in, writers_in}
use Rattle.audit.specs.Parts.{counts_ok}
use Rattle.audit.proofs.Headers.{layout-short, layout-uncounted, layout-counted, writers-few}
use Rattle.audit.proofs.header.layout_fits.Goals as goal
use Rattle.audit.proofs.header.layout_fits.Goals.{After-counts_fit}

tested : (c : After-counts_fit) → let s = c in
    c.counts_fit.result ≡ counts_ok (keys_in s.args.words.now)
    (writers_in s.args.words.now)
unfolding keys_in writers_in
tested c = c.counts_fit.ensures

pub returns-then-words-lt7 : goal.returns-then-words-lt7
returns-then-words-lt7 c = layout-short _ c.if-words-lt7.true

pub returns-then-not-counts_fit : goal.returns-then-not-counts_fit
returns-then-not-counts_fit c =
    layout-uncounted _ (omega arith) (sym (tested (goal.at.returns-then-not-counts_fit
    c).After-counts_fit) ∙ c.if-not-counts_fit.true)

pub areas_fit-requires : goal.areas_fit-requires
unfolding writers_in
areas_fit-requires c =
    (omega arith, refl, writers-few _ _ (sym c.counts_fit.ensures ∙ c.if-not-counts_fit.false))

pub returns : goal.returns
returns c =
    c.areas_fit.ensures
    ∙ layout-counted _ (omega arith)
    (sym (tested (goal.at.returns c).After-counts_fit) ∙ c.if-not-counts_fit.false)
