-- `draws` makes the three tests, the source's keys read where its view says.
-- Assumes nothing.
-- The place from which t is read.
-- The place from which d is read.
use lib.ListN.{length}
use Rattle.words.proofs.Bools.{first-fails, first_passes}
use Rattle.model.specs.Sets.{draws}
use Rattle.version.specs.Places.{Area}
use Rattle.sets.proofs.Views.{view-key, view-area}
use Rattle.std.proofs.Common.{ap}
use mathlib.Core.Bool.{not}
use Rattle.sets.proofs.draws.Goals as goal
use Rattle.sets.proofs.draws.Goals.{After-place-from, After-place-other}

from : (c : After-place-from) → Area (length c.args.words.now)
    c.args.z c.place-from.result
from c =
    let a = c.args in
    rw c.place-from.ensures
    (view-area (length a.words.now) a.z a.target a.source c.requires.draw_area a.t)

other : (c : After-place-other) →
    Area (length c.args.words.now) c.args.z c.place-other.result
other c =
    let a = c.args in
    rw c.place-other.ensures
    (view-area (length a.words.now) a.z a.target a.source c.requires.draw_area a.d)

pub needs-requires : goal.needs-requires
needs-requires c = record {
  area = from (goal.at.needs-requires c).After-place-from;
  k_lt_keys = c.requires.t_lt_keys;
}

pub returns-then-not-needs : goal.returns-then-not-needs
unfolding draws
returns-then-not-needs c =
    let a = c.args in
    rw (
      view-key a.z a.words.now a.source a.t,
      ← c.place-from.ensures,
      ← c.needs.ensures,
    )
    (first-fails c.needs.result _ (ap not c.if-not-needs.true))

pub meets-requires : goal.meets-requires
meets-requires c = record {
  area = (c.requires.draw_area.target_in, from (goal.at.meets-requires c).After-place-from);
  d_lt_keys = (c.requires.t_lt_keys.1, c.requires.t_lt_keys.0);
}

pub held-requires : goal.held-requires
held-requires c =
    record {
      area = other (goal.at.held-requires c).After-place-other;
      k_lt_keys = c.requires.t_lt_keys.1;
    }

pub returns : goal.returns
unfolding draws
returns c =
    let a = c.args in
    rw (
      view-key a.z a.words.now a.source a.t,
      view-key a.z a.words.now a.source a.d,
      ← c.place-from.ensures,
      ← c.place-other.ensures,
      ← c.needs.ensures,
      ← c.meets.ensures,
      ← c.held.ensures,
    )
    (first_passes c.needs.result _ (ap not c.if-not-needs.false))
