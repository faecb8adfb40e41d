-- `path_of` fills a row for each key of C, and finds the shortest path over them.
-- Assumes nothing.
use mathlib.Core.Path.{ap, ◌∙◌}
use Rattle.paths.specs.Rows.{item_path}
use Rattle.sets.specs.Leads.{RuleArea}
use Rattle.explain.specs.Drawing.{drawn_edge, drawn_start}
use Rattle.explain.proofs.Drawings.{rows_of, path-drawn}
use Rattle.explain.proofs.drawing.path_of.Goals as goal

pub led_rows-rows-requires : goal.led_rows-rows-requires
unfolding RuleArea
led_rows-rows-requires c =
    let A = c.requires.area in
    record { target_in = A.target_in; first_in = A.first_in; second_in = A.second_in }

pub shortest_path-requires : goal.shortest_path-requires
unfolding drawn_edge
shortest_path-requires c =
    let a = c.args in (
      rows_of a.words.now a.z a.visit a.trial c.requires c.led_rows-rows.result
          c.led_rows-rows.ensures,
      c.requires.read,
    )

pub returns : goal.returns
unfolding drawn_edge drawn_start
returns c =
    let a = c.args in
    c.shortest_path.ensures
    ∙ ap item_path (path-drawn a.words.now a.z a.visit a.trial c.requires
    c.led_rows-rows.result c.led_rows-rows.ensures c.lacking-start.result c.lacking-start.ensures)
