-- `snapshots_taken` answers whether every snapshot is taken.
-- Assumes nothing.
use Rattle.std.proofs.Common.{rules}
use Rattle.words.proofs.Ranges.{all-range}
use Rattle.admit.specs.Parts.{run_test}
use Rattle.admit.proofs.snapshots_taken.Goals as goal

pub returns : goal.returns
returns c =
    let a = c.args in
    all-range a.z.runs (run_test a.z a.words.now a.master a.last.0) (λ r b q h. search rules) _
    c.all.ensures.ran
