-- `reads_of` gives what the jobs of a mask read.
-- The loop's invariant: the union over the jobs passed.
-- Assumes nothing.
use mathlib.Core.Path.{◌≡◌}
use Rattle.layout.specs.Reading.{read_jobs}
use Rattle.form.specs.Parts.{reads_of}
use Rattle.form.proofs.job.reads_of.Given as goal

abbrev pub invariant-loop-j : goal.invariant-loop-j
invariant-loop-j l = l.all ≡ reads_of l.j (read_jobs l.words l.at) l.mask
