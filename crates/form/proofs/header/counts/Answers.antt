-- `counts` reads the four counts.
-- Assumes nothing.
use mathlib.Core.Path.{refl}
use Rattle.layout.specs.Reading.{counts_in}
use Rattle.form.proofs.header.counts.Goals as goal

pub returns : goal.returns
unfolding counts_in
returns c = refl
