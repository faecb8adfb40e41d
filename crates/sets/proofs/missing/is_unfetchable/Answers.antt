-- `is_unfetchable` asks whether the master lacks a key of the start.
-- Assumes nothing.
use Rattle.model.specs.Version.{versions}
use Rattle.layout.specs.Reading.{read_place}
use Rattle.sets.proofs.Lacks.{lacking-some}
use Rattle.sets.proofs.missing.is_unfetchable.Goals as goal

pub returns : goal.returns
returns c =
    let a = c.args in
    lacking-some (versions a.z.writers) a.z.keys
    (read_place a.z a.words.now a.master) a.start _ c.lacking.ensures
