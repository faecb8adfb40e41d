-- `leads` asks the scope first, then the rule.
-- Assumes nothing.
use native.Mathlib.Omega.{arith}
use lib.ListN.{length}
use Rattle.words.proofs.Bools.{first-fails, first_passes}
use Rattle.sizes.specs.Bounds.{Ranged}
use Rattle.sets.specs.Leads.{RuleArea, led, leads_to}
use Rattle.sets.proofs.Leads.{rule_ranged}
use Rattle.std.proofs.Common.{ap}
use mathlib.Core.Bool.{not}
use Rattle.sets.proofs.growth.leads.Goals as goal
use Rattle.sets.proofs.growth.leads.Goals.{Start}

ranged : (c : Start) → Ranged c.args.z
ranged c = rule_ranged (length c.args.words.now) c.args.z c.args.rule c.requires.rule_area

pub returns-then-not-has : goal.returns-then-not-has
unfolding leads_to
returns-then-not-has c =
    rw (← c.has.ensures) (first-fails c.has.result _ (ap not c.if-not-has.true))

pub draws-requires : goal.draws-requires
unfolding RuleArea
draws-requires c =
    record {
      draw_area = rw c.in-Draw.is at c.requires.rule_area;
      t_lt_keys = c.requires.t_lt_keys;
    }

pub needs-requires : goal.needs-requires
unfolding RuleArea
needs-requires c =
    record {
      area = rw c.in-Evict.is at c.requires.rule_area;
      k_lt_keys = (c.requires.t_lt_keys.1, c.requires.t_lt_keys.0);
    }

pub returns-in-Draw : goal.returns-in-Draw
unfolding leads_to led
returns-in-Draw c =
    rw (c.in-Draw.is, ← c.draws.ensures, ← c.has.ensures)
    (first_passes c.has.result _ (ap not c.if-not-has.false))

pub returns-in-Evict : goal.returns-in-Evict
unfolding leads_to led
returns-in-Evict c =
    rw (c.in-Evict.is, ← c.needs.ensures, ← c.has.ensures)
    (first_passes c.has.result _ (ap not c.if-not-has.false))

pub overflow_cast-d : goal.overflow_cast-d
overflow_cast-d c = omega (arith, ranged (goal.at.overflow_cast-d c).Start)

pub has-requires : goal.has-requires
has-requires c = omega (arith, ranged (goal.at.has-requires c).Start)
