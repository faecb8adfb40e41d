-- `runs_formed` answers whether every run is in form.
-- Assumes nothing.
use Rattle.std.proofs.Common.{rules}
use Rattle.words.proofs.Ranges.{all-range}
use Rattle.form.specs.Parts.{run_test}
use Rattle.form.proofs.runs_formed.Goals as goal

pub returns : goal.returns
returns c =
    let a = c.args in
    all-range a.z.runs (run_test a.z a.words.now) (λ k b q h. search rules) _ c.all.ensures.ran
