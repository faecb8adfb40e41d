-- `led_if` asks a key of the mask only.
-- Assumes nothing.
use Rattle.std.proofs.Common.{rules, length, arith}
use Rattle.words.specs.Numbers.{when}
use Rattle.sizes.specs.Bounds.{Ranged}
use Rattle.sets.specs.Leads.{leads_to}
use Rattle.sets.proofs.Leads.{rule_ranged}
use Rattle.sets.proofs.growth.led_if.Goals as goal
use Rattle.sets.proofs.growth.led_if.Goals.{Start}

ranged : (c : Start) → Ranged c.args.z
ranged c = rule_ranged (length c.args.words.now) c.args.z c.args.rule c.requires.rule_area

pub overflow_cast-t : goal.overflow_cast-t
overflow_cast-t c = omega (arith, ranged (goal.at.overflow_cast-t c).Start)

pub has-requires : goal.has-requires
has-requires c = omega (arith, ranged (goal.at.has-requires c).Start)

pub mask_of-requires-clause-n_le : goal.mask_of-requires-clause-n_le
mask_of-requires-clause-n_le c =
    omega (arith, ranged (goal.at.mask_of-requires-clause-n_le c).Start)

pub returns-then-has : goal.returns-then-has
unfolding when
returns-then-has c =
    let a = c.args in
    rw (← c.has.ensures, c.if-has.true)
    (c.mask_of.ensures (leads_to a.z a.words.now a.rule a.scope a.t) (λ k b h q. search rules))

pub returns-else-has : goal.returns-else-has
unfolding when
returns-else-has c = rw (← c.has.ensures, c.if-has.false)
