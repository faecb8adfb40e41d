-- At each turn all bytes so far are served. While there is more to read, less than the input's
-- bound was read.
use Rattle.std.proofs.Common.{◌≡◌, cond, suc, ◌+◌, ◌*◌, ◌-◌, ◌≤◌}
use Rattle.layout.specs.Buffer.{in_form}
use Rattle.print.specs.Print.{line_room}
use Rattle.script.specs.Limits.{read_room, max_input}
use Rattle.script.specs.Tie.{Served}
use Rattle.streams.specs.Streams.{goes_on_of}
use Rattle.sheetdesk.proofs.turns.Given as goal

abbrev pub invariant-loop-store : goal.invariant-loop-store
invariant-loop-store g l =
    (l.kept.ready ≡ in_form l.store) × (l.kept.output.all ≤ line_room * l.kept.input.all)
    × (l.kept.input.all ≤ max_input + read_room)
    × Served l.fn.store l.store l.line l.kept.len l.kept.input.all l.kept.output.all

abbrev pub decreases-loop-store : goal.decreases-loop-store
decreases-loop-store g l =
    cond (goes_on_of l.kept.input l.kept.output) (suc (max_input - l.kept.input.all)) 0
