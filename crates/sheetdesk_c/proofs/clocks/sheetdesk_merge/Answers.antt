-- It changes nothing for clocks that aren't alike, and otherwise stores the join.
use Rattle.std.proofs.Common.{refl, sym, ◌∙◌, arith}
use Rattle.sheetdesk_c.proofs.Lengths.{one-length, merged-no, merged-done}
use Rattle.sheetdesk_c.proofs.clocks.sheetdesk_merge.Goals as goal

pub returns-then-not-are_alike : goal.returns-then-not-are_alike
returns-then-not-are_alike c =
    merged-no _ _ (sym c.are_alike.ensures ∙ c.if-not-are_alike.true)

pub raise-requires : goal.raise-requires
raise-requires c =
    let y = sym c.are_alike.ensures ∙ c.if-not-are_alike.false in
    let e = one-length _ _ y in (omega (arith, e), omega arith)

pub returns : goal.returns
returns c =
    let y = sym c.are_alike.ensures ∙ c.if-not-are_alike.false in
    merged-done _ _ _ _ y refl c.raise.ensures
