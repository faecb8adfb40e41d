-- `evict_set` grows from its start by what the held keys need.
-- Assumes nothing.
use Rattle.std.proofs.Common.{rules, ◌∙◌}
use Rattle.reach.proofs.Frontiers.{first_frontier}
use Rattle.sets.specs.Draws.{evicts_in}
use Rattle.sets.specs.Leads.{led_within}
use Rattle.sets.proofs.Leads.{evict-grown}
use Rattle.sets.proofs.evict_set.Goals as goal

pub grow-requires-clause-frontier : goal.grow-requires-clause-frontier
grow-requires-clause-frontier c =
    let a = c.args in
    let edge = evicts_in a.z a.words.now a.at in (
      edge,
      λ t d b i j h. search rules,
      first_frontier a.z.keys (led_within c.held_mask-scope.result edge) a.start
          c.requires.start_bound,
    )

pub returns : goal.returns
returns c =
    let a = c.args in
    let edge = evicts_in a.z a.words.now a.at in
    c.grow.ensures edge (λ t d b i j h. search rules)
    (first_frontier a.z.keys (led_within c.held_mask-scope.result edge) a.start
    c.requires.start_bound)
    ∙ evict-grown a.z a.words.now a.at c.held_mask-scope.result a.start c.held_mask-scope.ensures
