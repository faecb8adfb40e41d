-- `cause` meets its contract: each test is a row of the refusal table.
-- Assumes nothing.
-- Past the first test the counts are in range.
use mathlib.Core.Path.{sym, ◌∙◌}
use mathlib.Core.Bool.{So}
use native.Mathlib.Omega.{arith}
use borrow.Author.Rules.{rules}
use Rattle.sizes.specs.Bounds.{ranged}
use Rattle.sizes.proofs.Offsets.{ranged-out}
use Rattle.create.proofs.Sized.{total-is}
use Rattle.create.proofs.Outcomes.{cause-range, cause-room, cause-none}
use Rattle.create.proofs.cause.Goals as goal
use Rattle.create.proofs.cause.Goals.{Else-not-is_ranged}

in_range_lem : (c : Else-not-is_ranged) → So (ranged c.args.z)
in_range_lem c = sym c.is_ranged.ensures ∙ c.if-not-is_ranged.false

pub is_ranged-requires : goal.is_ranged-requires
is_ranged-requires c = search rules

pub returns-then-not-is_ranged : goal.returns-then-not-is_ranged
returns-then-not-is_ranged c =
    sym (cause-range _ _ (sym c.is_ranged.ensures ∙ c.if-not-is_ranged.true))

pub sizes_of-at-requires : goal.sizes_of-at-requires
sizes_of-at-requires c = ranged-out _ (in_range_lem
    (goal.at.sizes_of-at-requires c).Else-not-is_ranged)

pub returns-then-words-at : goal.returns-then-words-at
returns-then-words-at c =
    let t = total-is _ _ c.sizes_of-at.ensures in
    sym (cause-room _ _ (in_range_lem (goal.at.returns-then-words-at c).Else-not-is_ranged) (omega
    arith))

pub returns : goal.returns
returns c =
    let t = total-is _ _ c.sizes_of-at.ensures in
    sym (cause-none _ _ (in_range_lem (goal.at.returns c).Else-not-is_ranged) (omega arith))
