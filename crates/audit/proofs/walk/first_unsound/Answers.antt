-- `first_unsound` asks each issue.
-- Assumes nothing.
use Rattle.std.proofs.Common.{arith, refl, sym, ap, ◌∙◌}
use mathlib.Core.Bool.{not}
use Rattle.records.specs.Audit.{first_below_of}
use Rattle.audit.proofs.Places.{header_in, writers_16, readable-issues}
use Rattle.audit.proofs.Ranks.{ranked-start}
use Rattle.audit.proofs.Judged.{unsound-found, unsound-turn, unsound-none}
use Rattle.audit.proofs.walk.first_unsound.Goals as goal

pub loop-i-init : goal.loop-i-init
unfolding first_below_of
loop-i-init c = (ranked-start _ _, refl)

pub invariant_of-issue : goal.invariant_of-issue
invariant_of-issue c =
    let S = readable-issues _ _ _ c.requires in record {
      in_order = (S, omega arith);
      inside = (header_in _ _ _ S.header, writers_16 _ _ _ S.header);
    }

pub is_snapshot-requires : goal.is_snapshot-requires
is_snapshot-requires c = (c.requires.readable, c.loop-i.invariant.0)

pub returns-then-not-is_snapshot : goal.returns-then-not-is_snapshot
returns-then-not-is_snapshot c =
    unsound-found _ _ c.requires.header.issues c.loop-i.i (omega arith) c.loop-i.invariant.1
    (ap not (sym c.is_snapshot.ensures) ∙ ap not c.if-not-is_snapshot.true)

pub count_issue-requires : goal.count_issue-requires
count_issue-requires c = c.loop-i.invariant.0

pub loop-i-preserved : goal.loop-i-preserved
loop-i-preserved c = (
  c.count_issue.ensures,
  unsound-turn _ _ c.requires.header.issues c.loop-i.i c.loop-i.invariant.1
      (ap not (sym c.is_snapshot.ensures) ∙ ap not c.if-not-is_snapshot.false),
)

pub returns : goal.returns
returns c =
    unsound-none _ _ c.requires.header.issues c.loop-i.i (omega arith) c.loop-i.invariant.1
