-- `fetch_set` is a drawn set from the master as it is, in the scope of the keys that it holds.
-- Assumes nothing.
use Rattle.masks.specs.Mask.{test_bit}
use Rattle.model.specs.Version.{versions}
use Rattle.model.specs.Sets.{fetch_set}
use Rattle.layout.specs.Reading.{read_place}
use Rattle.sets.proofs.Views.{view-plain}
use Rattle.sets.proofs.Leads.{drawn-held}
use Rattle.sets.proofs.fetch_set.Goals as goal

pub draw_set-requires : goal.draw_set-requires
draw_set-requires c =
    rw c.of-source.ensures record {
      draw_area = record {
        target_in = c.requires.area.1;
        first_in = c.requires.area.0;
        second_in
            = c.requires.area.0;
      };
      start_bound = c.requires.start_bound;
    }

pub returns : goal.returns
unfolding fetch_set
returns c =
    let a = c.args in
    let l = a.words.now in
    rw (c.draw_set.ensures, c.of-source.ensures, view-plain a.z l 0 a.master)
    (drawn-held (versions a.z.writers) a.z.keys (read_place a.z l a.cache)
    (read_place a.z l a.master) (test_bit a.start) c.held_mask-scope.result
    c.held_mask-scope.ensures)
