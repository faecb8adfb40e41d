-- `lines::table::command_number` seeks a word's row.
-- Assumes nothing.
use Rattle.std.proofs.Common.{rules}
use native.Mathlib.Omega.{arith}
use borrow.Author.Tests.{tests}
use Rattle.std.proofs.lemmas.Iterator.{YieldsList-from_slice}
use Rattle.std.proofs.lemmas.Iterator.Search.{position_from_yields_List}
use Rattle.lines.proofs.Tables.{named, sought}
use Rattle.lines.proofs.table.command_number.Goals as goal

pub returns : goal.returns
unfolding named
returns c =
    let w = c.args.word.now in
    let rs = c.rows-rows.result in
    let p = named w rs c.rows-rows.ensures in
    let e =
    position_from_yields_List p _ _ c.position.result c.position.ensures.ran
    (YieldsList-from_slice rs (cc)) (λ x b q k. search (rules, tests)) in
    rw e (sought w rs c.rows-rows.ensures (omega arith))
