-- At each turn the lines so far were handed over.
use Rattle.std.proofs.Common.{◌≡◌, false, ◌*◌, ◌-◌, ◌≤◌}
use Rattle.lister.specs.Numbered.{line_count, history_room}
use Rattle.histories.specs.Written.{Written}
use Rattle.histories.proofs.run.Given as goal

abbrev pub invariant-loop-listed : goal.invariant-loop-listed
invariant-loop-listed g l =
    (l.listed.lines ≤ line_count) × (l.listed.output.all ≤ history_room * l.listed.lines)
    × Written l.listed.lines l.listed.output × (l.listed.output.failed ≡ false)

abbrev pub decreases-loop-listed : goal.decreases-loop-listed
decreases-loop-listed g l = line_count - l.listed.lines
