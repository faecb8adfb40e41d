-- `mark_done` stores what `marked` answers.
-- Assumes nothing.
use mathlib.Core.Path.{ap, ◌∙◌}
use Rattle.status.specs.declared.lent.RunStatus.{RunStatus}
use Rattle.status.specs.Lent.{put_status, marked}
use Rattle.status.proofs.mark_done.Goals as goal

pub returns : goal.returns
returns c =
    let p = c in
    let f = p in
    let a = f.args in
    p.put_status.ensures
    ∙ ap (put_status a.words.now a.at a.read)
    (f.marked-s.ensures
    ∙ ap (λ (s : RunStatus). marked s a.done a.reads) f.status_at.ensures)
