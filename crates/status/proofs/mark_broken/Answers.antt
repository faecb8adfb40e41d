-- `mark_broken` stores what `spoiled` answers.
-- Assumes nothing.
use mathlib.Core.Path.{ap, ◌∙◌}
use Prim.Native.Nat.{◌+◌}
use Rattle.sizes.specs.Runs.{read_offset}
use Rattle.status.specs.Lent.{put_status, spoiled}
use Rattle.status.proofs.mark_broken.Goals as goal

pub returns : goal.returns
returns c =
    let p = c in
    let f = p in
    let a = f.args in
    p.put_status.ensures
    ∙ ap (put_status a.words.now a.at (a.at + read_offset))
    (f.spoiled-s.ensures ∙ ap spoiled f.status_at.ensures)
