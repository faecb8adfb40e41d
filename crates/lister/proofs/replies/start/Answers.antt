-- `lister::replies::start` leaves a fresh desk, in form.
-- Assumes nothing.
use native.Mathlib.Omega.{arith}
use mathlib.Core.Path.{◌≡◌}
use Rattle.layout.specs.Calls.{after}
use Rattle.listing.specs.Lines.{desk_in}
use Rattle.listing.proofs.Desks.{desk-form}
use Rattle.lister.proofs.replies.start.Goals as goal

pub returns : goal.returns
unfolding desk_in after
returns c =
    let n = c.new in
    let l = c.args.store.now in
    let e : n.new.store ≡ desk_in l = (n.ensures.does (omega arith)).changes in
    record {
      store_after = e;
      so = rw e (desk-form l (omega arith));
    }
