-- `is_barred` reads what the site may hold.
-- Assumes nothing.
-- The mask lies in the buffer.
use Prim.Native.Nat.{◌<◌}
use native.Mathlib.Omega.{arith}
use lib.ListN.{length}
use Rattle.sizes.specs.Bounds.{version_limit}
use Rattle.form.proofs.Known.{form-area}
use Rattle.form.proofs.Stores.{hold_in}
use Rattle.fetching.proofs.Taking.{barred-read}
use Rattle.fetching.proofs.is_barred.Goals as goal
use Rattle.fetching.proofs.is_barred.Goals.{After-may_hold_at-at}

here : (c : After-may_hold_at-at) → let a = c.args in
    (c.may_hold_at-at.result < version_limit) × (c.may_hold_at-at.result < length a.words.now)
here c =
    let s = c in
    rw c.may_hold_at-at.ensures (hold_in _ _ (form-area _ _ s.requires.form_with.0) _
    s.requires.form_with.1)

pub may_hold_at-at-requires : goal.may_hold_at-at-requires
may_hold_at-at-requires c =
    let s = c in record {
      ranged = (form-area _ _ s.requires.form_with.0).ranged;
      o_lt_sites = s.requires.form_with.1;
    }

pub returns : goal.returns
returns c =
    let w = c in
    let s = w in
    let a = s.args in
    rw c.without.ensures
    (barred-read a.words.now a.z s.requires.form_with.0 a.o s.requires.form_with.1
    w.may_hold_at-at.result a.asked w.may_hold_at-at.ensures s.requires.asked_bound)

pub offset_bounds-words-at : goal.offset_bounds-words-at
offset_bounds-words-at c = omega (
  arith,
  here (goal.at.offset_bounds-words-at
      c).After-may_hold_at-at,
)

pub bounds-words-at : goal.bounds-words-at
bounds-words-at c = (here (goal.at.bounds-words-at c).After-may_hold_at-at).1
