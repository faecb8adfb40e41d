-- `first_unsound` asks each issue. The loop's invariant: those passed are counted, and snapshots.
-- Assumes nothing.
use Rattle.std.proofs.Common.{◌≡◌}
use mathlib.Core.Bool.{not}
use Rattle.records.specs.Snapshots.{is_snapshot}
use Rattle.records.specs.Audit.{first_below_of}
use Rattle.audit.specs.Parts.{Ranked}
use Rattle.audit.proofs.walk.first_unsound.Given as goal

abbrev pub invariant-loop-i : goal.invariant-loop-i
invariant-loop-i l =
    Ranked l.words l.w l.i l.before × (first_below_of l.i (λ j. not (is_snapshot l.words j)) ≡ 0)
