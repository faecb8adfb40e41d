-- It answers 2 for clocks that aren't alike, and otherwise the test.
use Rattle.std.proofs.Common.{sym, ◌∙◌, arith}
use Rattle.sheetdesk_c.proofs.Lengths.{one-length, covers-no, covers-test}
use Rattle.sheetdesk_c.proofs.clocks.sheetdesk_covers.Goals as goal

pub returns-then-not-are_alike : goal.returns-then-not-are_alike
returns-then-not-are_alike c =
    covers-no _ _ (sym c.are_alike.ensures ∙ c.if-not-are_alike.true)

pub compare-requires : goal.compare-requires
compare-requires c =
    let y = sym c.are_alike.ensures ∙ c.if-not-are_alike.false in
    let e = one-length _ _ y in (omega arith, omega (arith, e))

pub returns : goal.returns
returns c =
    let y = sym c.are_alike.ensures ∙ c.if-not-are_alike.false in
    c.from.ensures ∙ covers-test _ _ _ _ y c.covering.ensures c.compare.ensures
