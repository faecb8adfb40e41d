-- `in_form` tests the shape, then the master, the caches, the runs and the tail.
-- Assumes nothing.
-- The store of these counts lies in the buffer.
use mathlib.Core.Path.{sym, ◌∙◌}
use mathlib.Core.Bool.{So}
use lib.ListN.{length}
use Rattle.sizes.specs.Bounds.{sizes_of, master_at}
use Rattle.layout.specs.Buffer.{shaped, in_form}
use Rattle.version.proofs.Stores.{master-area}
use Rattle.form.specs.Parts.{StoreArea}
use Rattle.form.proofs.Stores.{shaped-area, shaped-long, store-test}
use Rattle.form.proofs.in_form.Goals as goal
use Rattle.form.proofs.in_form.Goals.{After-counts-z, Else-not-shaped}

yes : (c : Else-not-shaped) → So (shaped c.args.words.now)
yes c = sym c.shaped.ensures ∙ c.if-not-shaped.false

area : (c : After-counts-z) → let l = c.args.words.now in
    StoreArea (length l) c.counts-z.result
area c = rw c.counts-z.ensures (shaped-area _ ((let it : So (shaped c.args.words.now) = sym
    c.shaped.ensures ∙ c.if-not-shaped.false in it)))

pub returns-then-not-shaped : goal.returns-then-not-shaped
unfolding in_form
returns-then-not-shaped c = rw (sym c.shaped.ensures ∙ c.if-not-shaped.true)

pub counts-z-requires : goal.counts-z-requires
counts-z-requires c = shaped-long _ (yes (goal.at.counts-z-requires c).Else-not-shaped)

pub areas-areas-requires : goal.areas-areas-requires
areas-areas-requires c = (area (goal.at.areas-areas-requires c).After-counts-z).ranged

pub place_formed-requires : goal.place_formed-requires
unfolding sizes_of
place_formed-requires c =
    let A = area (goal.at.place_formed-requires c).After-counts-z in rw c.areas-areas.ensures
    (master-area _ _ A.ranged A.fits)

pub returns : goal.returns
unfolding in_form sizes_of master_at
returns c =
    rw (
      yes (goal.at.returns c).Else-not-shaped,
      c.place_formed.ensures,
      c.sites_formed.ensures,
      c.runs_formed.ensures,
      c.tail_formed.ensures,
      c.areas-areas.ensures,
      c.counts-z.ensures,
    )
    (store-test c.args.words.now)

pub sites_formed-requires : goal.sites_formed-requires
sites_formed-requires c = area (goal.at.sites_formed-requires c).After-counts-z

pub runs_formed-requires : goal.runs_formed-requires
runs_formed-requires c = area (goal.at.runs_formed-requires c).After-counts-z

pub tail_formed-requires : goal.tail_formed-requires
tail_formed-requires c = area (goal.at.tail_formed-requires c).After-counts-z
