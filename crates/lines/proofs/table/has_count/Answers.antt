-- `lines::table::has_count` reads the counts of a row.
-- Assumes nothing.
use Rattle.lines.proofs.Tables.{counted, uncounted}
use Rattle.lines.proofs.table.has_count.Goals as goal

pub returns-then-number-ge-COMMANDS : goal.returns-then-number-ge-COMMANDS
returns-then-number-ge-COMMANDS c = uncounted c.args.number c.args.n c.if-number-ge-COMMANDS.true

pub returns : goal.returns
returns c = counted _ _ _ c.row_at-row.ensures
