-- `lines::table::rows` agrees with the forms of the grammar, by computing.
-- Assumes nothing.
use mathlib.Core.Path.{refl}
use Rattle.words.specs.Tests.{all_below}
use Rattle.text.specs.Bytes.{same_bytes}
use Rattle.lines.specs.Grammar.{form_at}
use Rattle.lines.specs.Rows.{is_row, agree}
use Rattle.lines.proofs.table.rows.Goals as goal

pub returns : goal.returns
unfolding agree all_below is_row form_at same_bytes
returns c = refl
