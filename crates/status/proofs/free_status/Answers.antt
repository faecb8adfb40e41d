-- `free_status` stores what `freed` answers.
-- Assumes nothing.
use mathlib.Core.Path.{ap, ◌∙◌}
use Prim.Native.Nat.{◌+◌}
use Rattle.sizes.specs.Runs.{read_offset}
use Rattle.status.specs.Lent.{put_status, freed}
use Rattle.status.proofs.free_status.Goals as goal

pub returns : goal.returns
returns c =
    let p = c in
    let f = p in
    let a = f.args in
    p.put_status.ensures
    ∙ ap (put_status a.words.now a.at (a.at + read_offset))
    (f.freed-s.ensures ∙ ap freed f.status_at.ensures)
