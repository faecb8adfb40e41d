-- `text::bytes_before` is the place of the first such byte.
-- Assumes nothing.
use Rattle.std.proofs.Common.{rules, ap, ◌∙◌, ◌==◌, ℕ, length, unwrap_or, Option}
use borrow.Author.Tests.{tests}
use Rattle.std.proofs.lemmas.Iterator.{YieldsList-from_slice}
use Rattle.std.proofs.lemmas.Iterator.Search.{position_from_yields_List}
use Rattle.text.proofs.Firsts.{or-all}
use Rattle.text.proofs.bytes_before.Goals as goal

pub returns : goal.returns
returns c =
    let p = λ (b : ℕ). b == c.args.byte in
    let l = c.args.line.now in
    let e =
    position_from_yields_List p _ _ c.position.result c.position.ensures.ran
    (YieldsList-from_slice l (cc)) (λ x b q k. search (rules, tests)) in
    c.unwrap_or.ensures ∙ ap (λ (o : Option ℕ). unwrap_or o (length l)) e ∙ or-all p l
