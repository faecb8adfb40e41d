-- `store_fresh` meets its contract: zeros, the header, the allowances and the tail are the words
-- of a fresh store.
-- Assumes nothing.
use mathlib.Core.Path.{◌∙◌}
use native.Mathlib.Omega.{arith}
use lib.ListN.{length}
use Rattle.create.specs.Room.{Room}
use Rattle.create.proofs.Sized.{total-is, room, same-room}
use Rattle.create.proofs.Fresh.{fresh-stored}
use Rattle.create.proofs.store_fresh.Goals as goal
use Rattle.create.proofs.store_fresh.Goals.{After-sizes_of-at}

has_room : (c : After-sizes_of-at)
    → Room (length c.args.words.now) c.args.z c.sizes_of-at.result
has_room c = rw c.sizes_of-at.ensures (room _ _ c.requires)

pub sizes_of-at-requires : goal.sizes_of-at-requires
sizes_of-at-requires c = (room _ _ c.requires).counts

pub zero-requires : goal.zero-requires
zero-requires c =
    let R = has_room (goal.at.zero-requires c).After-sizes_of-at in
    omega (arith, R)

pub store_header-requires : goal.store_header-requires
store_header-requires c =
    let R = has_room (goal.at.store_header-requires c).After-sizes_of-at in
    same-room _ _ _ _ R (omega arith)

pub store_allowances-requires : goal.store_allowances-requires
store_allowances-requires c =
    let R = has_room (goal.at.store_allowances-requires c).After-sizes_of-at in
    (R.counts, omega (arith, R.fits, total-is _ _ R.sizes))

pub store_tail-requires : goal.store_tail-requires
store_tail-requires c =
    let R = has_room (goal.at.store_tail-requires c).After-sizes_of-at in
    same-room _ _ _ _ R (omega arith)

pub narrow-requires : goal.narrow-requires
narrow-requires c =
    let R = has_room (goal.at.narrow-requires c).After-sizes_of-at in
    omega (arith, R)

pub returns : goal.returns
returns c =
    let R = has_room (goal.at.returns c).After-sizes_of-at in record {
      answers = c.narrow.ensures ∙ total-is _ _ R.sizes;
      leaves = fresh-stored _ _ _ _ _ _ _ R c.zero.ensures
          c.store_header.ensures c.store_allowances.ensures c.store_tail.ensures;
    }
