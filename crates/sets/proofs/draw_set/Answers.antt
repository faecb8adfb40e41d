-- `draw_set` grows from its start by what its members draw in.
-- Assumes nothing.
use Rattle.std.proofs.Common.{rules, ◌∙◌}
use Rattle.reach.proofs.Frontiers.{first_frontier}
use Rattle.sets.specs.Draws.{draws_in}
use Rattle.sets.specs.Leads.{led_within}
use Rattle.sets.proofs.Leads.{drawn-grown}
use Rattle.sets.proofs.draw_set.Goals as goal

pub grow-requires-clause-frontier : goal.grow-requires-clause-frontier
grow-requires-clause-frontier c =
    let a = c.args in
    let edge = draws_in a.z a.words.now a.target a.source in (
      edge,
      λ t d b i j h. search rules,
      first_frontier a.z.keys (led_within a.scope edge) a.start c.requires.start_bound,
    )

pub returns : goal.returns
returns c =
    let a = c.args in
    let edge = draws_in a.z a.words.now a.target a.source in
    c.grow.ensures edge (λ t d b i j h. search rules)
    (first_frontier a.z.keys (led_within a.scope edge) a.start c.requires.start_bound)
    ∙ drawn-grown a.z a.words.now a.target a.source a.scope a.start
