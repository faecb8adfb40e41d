-- `take_away` clears E, or stores nothing.
-- Assumes nothing.
-- Where the master and the site lie; the keys taken away are keys.
use Prim.Native.Nat.{◌^◌, ◌<◌}
use native.Mathlib.Omega.{arith}
use borrow.Author.Rules.{rules}
use lib.ListN.{length}
use Rattle.masks.proofs.Sets.{mask_lt}
use Rattle.version.specs.Places.{Area, SiteArea}
use Rattle.version.proofs.Stores.{master-area, site-whole, site-area}
use Rattle.form.proofs.Known.{form-area, master-found}
use Rattle.rights.proofs.Away.{away-none, away-stored}
use Rattle.rights.proofs.take_away.Goals as goal
use Rattle.rights.proofs.take_away.Goals.{After-areas-areas}

ready : (c : After-areas-areas) → let a = c.args in
    let len = length a.words.now in
    Area len a.z c.areas-areas.result.master × SiteArea len a.z c.site_at-at.result
    × Area len a.z c.site_at-at.result × (c.taken_away-barred.result < 2 ^ a.z.keys)
ready c =
    let R = form-area _ _ c.requires.0 in (
      rw (master-found _ _ c.areas-areas.ensures) (master-area _ _ R.ranged R.fits),
      rw c.site_at-at.ensures (site-whole _ _ R.ranged R.fits _ c.requires.1),
      rw c.site_at-at.ensures (site-area _ _ R.ranged R.fits _ c.requires.1),
      rw c.taken_away-barred.ensures (mask_lt _ _ _ (omega arith)),
    )

pub site_at-at-requires : goal.site_at-at-requires
site_at-at-requires c =
    record {
      ranged = (form-area _ _ c.requires.0).ranged;
      o_lt_sites = c.requires.1;
    }

pub taken_away-barred-requires : goal.taken_away-barred-requires
taken_away-barred-requires c =
    let R = form-area _ _ c.requires.0 in
    rw c.site_at-at.ensures (site-area _ _ R.ranged R.fits _ c.requires.1)

pub returns-then-barred-eq0 : goal.returns-then-barred-eq0
returns-then-barred-eq0 c =
    let a = c.args in
    away-none a.words.now a.z c.requires.0 a.o _ a.mask _ c.requires.1
    c.site_at-at.ensures c.taken_away-barred.ensures c.if-barred-eq0.true

pub areas-areas-requires : goal.areas-areas-requires
areas-areas-requires c =
    (form-area _ _ c.requires.0).ranged

pub returns : goal.returns
returns c =
    let a = c.args in
    away-stored a.words.now a.z c.requires.0 a.o _ a.mask _ c.requires.1
    c.site_at-at.ensures c.taken_away-barred.ensures _ _
    (master-found _ _ c.areas-areas.ensures) c.evict_keys.ensures.leaves

pub evict_keys-requires : goal.evict_keys-requires
evict_keys-requires c = search (rules, ready (goal.at.evict_keys-requires c).After-areas-areas)
