-- `lines::table::row_at` reads the table.
-- Assumes nothing.
use Rattle.lines.proofs.Tables.{row-agrees}
use Rattle.lines.proofs.table.row_at.Goals as goal

pub returns : goal.returns
returns c =
    let t = c.rows-rows in row-agrees t.result _ t.ensures c.requires
