-- `grow` gives the least set, by the laws of frontiers.
-- Assumes nothing.
use Rattle.std.proofs.Common.{◌∙◌, sym}
use Rattle.reach.proofs.Frontiers.{next_frontier, next-less, next-done, next-same}
use Rattle.sets.specs.Leads.{led_within}
use Rattle.sets.proofs.Leads.{led-joining}
use Rattle.sets.proofs.growth.+grow.Goals as goal

pub grow-requires : goal.grow-requires
grow-requires g t c κs within =
    let a = c.args in
    let r = c.led_by-joining.result in
    let edge = c.requires.frontier.0 in
    let h = c.requires.frontier.1 in
    let F = c.requires.frontier.2 in
    let e = led-joining edge a.keys a.scope a.mask a.frontier
    c.without-open.result r c.without-open.ensures (c.led_by-joining.ensures edge h) in (
      rw (← c.decreases) (next-less a.keys (led_within a.scope edge) a.mask a.frontier r F e
          c.if-joining-eq0.false),
      (
        within,
        (
          c.requires.keys_le,
          (
            c.requires.callable,
            (edge, h, next_frontier a.keys (led_within a.scope edge) a.mask a.frontier r F e),
          ),
        ),
      ),
    )

pub returns-then-joining-eq0 : goal.returns-then-joining-eq0
returns-then-joining-eq0 g t c = λ edge h F.
    let a = c.args in
    let r = c.led_by-joining.result in
    let e = led-joining edge a.keys a.scope a.mask a.frontier
    c.without-open.result r c.without-open.ensures (c.led_by-joining.ensures edge h) in
    sym (next-done a.keys (led_within a.scope edge) a.mask a.frontier r F e c.if-joining-eq0.true)

pub returns-else-joining-eq0 : goal.returns-else-joining-eq0
returns-else-joining-eq0 g t c = λ edge h F.
    let a = c.args in
    let r = c.led_by-joining.result in
    let e = led-joining edge a.keys a.scope a.mask a.frontier
    c.without-open.result r c.without-open.ensures (c.led_by-joining.ensures edge h) in
    c.grow.ensures edge h (next_frontier a.keys (led_within a.scope edge) a.mask a.frontier r F e)
    ∙ next-same a.keys (led_within a.scope edge) a.mask a.frontier r F e
