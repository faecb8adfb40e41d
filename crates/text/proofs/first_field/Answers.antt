-- `text::first_field` is what stands before the first space.
-- Assumes nothing.
use Rattle.text.proofs.Firsts.{field-split}
use Rattle.text.proofs.first_field.Goals as goal

pub returns : goal.returns
returns c = field-split c.args.line.now _ c.bytes_before.ensures
